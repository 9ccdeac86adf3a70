use Rattle.std.proofs.Common.{◌≡◌}
use Rattle.event_walk.proofs.AmountLaws.{AddedTo}
use Rattle.event_walk.proofs.EventAmounts.walk.Given as goal

abbrev pub invariant-loop-k : goal.invariant-loop-k
invariant-loop-k l = record {
  added : AddedTo l.epochs l.span l.initial.self.amounts l.self.amounts l.k;
  reads : l.self.reads ≡ l.initial.self.reads;
}
