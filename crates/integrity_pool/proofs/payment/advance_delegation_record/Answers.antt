use mathlib.Core.Path.{sym, ◌∙◌}
use native.Mathlib.Omega.{arith}
use Rattle.event_amounts.proofs.NinesLaws.{nines_many}
use Rattle.positions.proofs.PositionsLaws.{held}
use Rattle.integrity_pool.proofs.payment.advance_delegation_record.Goals as goal

pub gather-gathered-requires : goal.gather-gathered-requires
gather-gathered-requires c =
    let h = held _ (sym c.checked.ensures ∙ c.if-not-checked.false) in
    omega (arith, nines_many c.args.words.now _ c.nines.ensures, h.few)
