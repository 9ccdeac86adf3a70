-- `text::bytes`: the bytes below the index are put.
use Rattle.std.proofs.Common.{◌≡◌}
use Rattle.text.specs.Hex.{stored}
use Rattle.text.proofs.bytes.Given as goal

abbrev pub invariant-loop-i : goal.invariant-loop-i
invariant-loop-i l = l.out ≡ stored l.s l.i l.initial.out
