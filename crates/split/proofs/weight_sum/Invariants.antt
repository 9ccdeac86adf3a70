use Rattle.std.proofs.Common.{◌≡◌, ◌<◌}
use Rattle.types.specs.Base.{word}
use Rattle.split.proofs.StepLaws.{summed}
use Rattle.split.proofs.weight_sum.Given as goal

abbrev pub invariant-loop-weight : goal.invariant-loop-weight
invariant-loop-weight l = (l.sum < word) × (l.sum ≡ summed l.weights l.weight-index)
