use Rattle.std.proofs.Common.{◌≤◌, ◌-◌, length}
use Rattle.mirror.proofs.calls.nonzero.Given as goal

abbrev pub invariant-loop-place : goal.invariant-loop-place
invariant-loop-place l = l.place ≤ length l.image

abbrev pub decreases-loop-place : goal.decreases-loop-place
decreases-loop-place l = length l.image - l.place
