use Rattle.split.proofs.StepLaws.{Flooring}
use Rattle.split.proofs.write_floors.Given as goal

abbrev pub invariant-loop-k : goal.invariant-loop-k
invariant-loop-k l = Flooring l.reward l.weights l.parts l.remainders l.left l.k
