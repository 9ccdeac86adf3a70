use Rattle.std.proofs.Common.{◌-◌, ◌≤◌, length}
use Rattle.journal.proofs.fields.words.Given as goal

abbrev pub invariant-loop-count : goal.invariant-loop-count
invariant-loop-count l = l.count ≤ length l.out

abbrev pub decreases-loop-count : goal.decreases-loop-count
decreases-loop-count l = length l.out - l.count
