use Prim.Native.Nat.{◌/◌, ◌%◌, ◌^◌, ◌<◌}
use native.Mathlib.Omega.{arith}
use Rattle.types.proofs.MulDivLaws.{digit_lt}
use Rattle.types.proofs.mul_div.divide.Goals as goal
use Rattle.types.proofs.mul_div.divide.Goals.{After-digit-two}

one_lt : (c : After-digit-two) → c.digit-one.result.quotient < 2 ^ 32
one_lt c =
    let b = c.before in
    digit_lt b.args.hi (b.args.lo / 2 ^ 32) b.args.d b.digit-one.result.quotient b.digit-one.result.remainder
    b.digit-one.ensures b.requires (omega (arith, b.ranges.lo.fits))

two_lt : (c : After-digit-two) → c.digit-two.result.quotient < 2 ^ 32
two_lt c =
    let b = c.before in
    digit_lt b.digit-one.result.remainder (b.args.lo % 2 ^ 32) b.args.d c.digit-two.result.quotient c.digit-two.result.remainder
    c.digit-two.ensures b.digit-one.ensures.small (omega arith)

pub overflow_add-result : goal.overflow_add-result
overflow_add-result c = omega (arith, one_lt c.before.before, two_lt c.before.before)
