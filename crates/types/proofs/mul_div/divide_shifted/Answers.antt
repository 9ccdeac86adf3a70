use mathlib.Core.Path.{◌≡◌, ap, ◌∙◌}
use Prim.Native.Nat.{ℕ, ◌+◌, ◌*◌, ◌-◌, ◌^◌, ◌%◌, ◌<◌, ◌≤◌}
use native.Mathlib.Nat.{mul-pos, mul-le-mul, mul-le-mul_right, mod-eq_of_lt}
use native.Mathlib.Omega.{arith}
use lib.Pow.{pow_pos}
use lib.Count.{count_leading_zeros}
use Rattle.types.specs.Wide.{wide_of}
use Rattle.types.proofs.MulDivLaws.{shifted_fits, divided_back}
use Rattle.types.proofs.mul_div.divide_shifted.Goals as goal
use Rattle.types.proofs.mul_div.divide_shifted.Goals.{After-product-hi}

module _ (c : After-product-hi) where
  abbrev times : ℕ
  times = 2 ^ count_leading_zeros 64 c.args.d

  divisor : c.args.d * times % 2 ^ 64 ≡ c.args.d * times
  divisor = mod-eq_of_lt (shifted_fits c.args.d c.ranges.d.fits)

  factor_le : c.args.b * times ≤ c.args.d * times
  factor_le = mul-le-mul_right times c.requires.0

  factor : c.args.b * times % 2 ^ 64 ≡ c.args.b * times
  factor = mod-eq_of_lt (omega (arith, factor_le, shifted_fits c.args.d c.ranges.d.fits))

  product : c.product-hi.result.hi * 2 ^ 64 + c.product-hi.result.lo ≡ c.args.a * (c.args.b * times)
  unfolding wide_of
  product = c.product-hi.ensures ∙ ap (λ (f : ℕ). c.args.a * f) factor

  -- the upper word of the product is below the divisor
  upper_lt : c.product-hi.result.hi < c.args.d * times
  upper_lt =
      let most : c.args.a * (c.args.b * times) ≤ (2 ^ 64 - 1) * (c.args.d * times) = mul-le-mul (omega (arith, c.ranges.a.fits)) factor_le in
      let some : 0 < c.args.d * times = mul-pos c.requires.1 (pow_pos (count_leading_zeros 64 c.args.d)) in
      omega (arith, most, some, product)

pub divide-divided-requires : goal.divide-divided-requires
divide-divided-requires c =
    let p = (goal.at.divide-divided-requires c).After-product-hi in
    rw (divisor p) (upper_lt p)

pub returns : goal.returns
returns c =
    let p = (goal.at.returns c).After-product-hi in
    let n : c.product-hi.result.hi * 2 ^ 64 + c.product-hi.result.lo ≡ c.args.a * c.args.b * times p = omega (arith, product p) in
    divided_back (c.args.a * c.args.b) c.args.d (times p) _ _ (pow_pos (count_leading_zeros 64 c.args.d)) (rw (n, divisor p) at c.divide-divided.ensures)
