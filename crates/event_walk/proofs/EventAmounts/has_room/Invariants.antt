use Rattle.std.proofs.Common.{◌≡◌, true}
use Rattle.types.specs.Base.{all_below}
use Rattle.event_walk.proofs.AmountLaws.{fits_at}
use Rattle.event_walk.proofs.EventAmounts.has_room.Given as goal

abbrev pub invariant-loop-k : goal.invariant-loop-k
invariant-loop-k l = all_below l.k (fits_at l.epochs l.span l.self.amounts) ≡ true
