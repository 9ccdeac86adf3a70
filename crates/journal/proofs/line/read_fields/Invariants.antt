use Rattle.std.proofs.Common.{◌≡◌, length}
use Rattle.journal.proofs.line.read_fields.Given as goal

-- a value for each field so far
abbrev pub invariant-loop-kind : goal.invariant-loop-kind
invariant-loop-kind l = length l.fields.values.items ≡ l.kind-index
