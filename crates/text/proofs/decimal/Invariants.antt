-- `text::decimal`: what is left decides.
use Rattle.std.proofs.Common.{◌≡◌, drop}
use Rattle.text.specs.Decimal.{onward}
use Rattle.text.proofs.decimal.Given as goal

abbrev pub invariant-loop-digit : goal.invariant-loop-digit
invariant-loop-digit l = onward l.number (drop l.digit-index l.s) ≡ onward 0 l.s
