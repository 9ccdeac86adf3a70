use native.Mathlib.Omega.{arith}
use Rattle.split.proofs.StepLaws.{flooring_none, floor_le, flooring_more, flooring_all}
use Rattle.split.proofs.write_floors.Goals as goal

pub loop-k-init : goal.loop-k-init
loop-k-init c = flooring_none _ _ _ _ c.requires _

pub overflow_sub-left : goal.overflow_sub-left
overflow_sub-left c = floor_le _ _ _ _ c.requires _ _ _ _ _ c.loop-k.invariant c.loop-k-test.true c.share_of-share.ensures.0

pub loop-k-preserved : goal.loop-k-preserved
loop-k-preserved c =
    flooring_more _ _ _ _ c.requires _ _ _ _ _ c.loop-k.invariant c.loop-k-test.true c.share_of-share.ensures.0 _ (omega arith) c.share_of-share.ensures.1

pub returns : goal.returns
returns c = flooring_all _ _ _ _ c.requires _ _ _ _ c.loop-k.invariant (omega arith)
