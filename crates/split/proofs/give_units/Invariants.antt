use Rattle.split.proofs.UnitLaws.{Giving}
use Rattle.split.proofs.give_units.Given as goal

abbrev pub invariant-loop-k : goal.invariant-loop-k
invariant-loop-k l = Giving l.threshold l.remainders l.initial.parts l.k l.parts l.units
