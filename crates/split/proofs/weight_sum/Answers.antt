use native.Mathlib.Omega.{arith}
use Rattle.split.proofs.StepLaws.{weights_fit}
use Rattle.split.proofs.weight_sum.Goals as goal

pub returns : goal.returns
returns c = weights_fit _ _ _ c.loop-weight.invariant.1 (omega arith) c.loop-weight.invariant.0
