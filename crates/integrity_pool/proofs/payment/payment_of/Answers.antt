use mathlib.Core.Path.{sym}
use Rattle.pool.proofs.PaidLaws.{reward_fits}
use Rattle.integrity_pool.proofs.payment.payment_of.Goals as goal

pub pay-requires : goal.pay-requires
pay-requires c = reward_fits _ _ _ _ _ _ (sym c.in_ok-earned.ensures)
