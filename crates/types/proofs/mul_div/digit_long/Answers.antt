use mathlib.Core.Path.{◌≡◌}
use Prim.Native.Nat.{ℕ, ◌+◌, ◌-◌, ◌*◌, ◌/◌, ◌%◌, ◌^◌, ◌<◌}
use native.Mathlib.Nat.{div-add-mod'}
use native.Mathlib.Omega.{arith}
use Rattle.types.specs.MulDiv.{Division}
use Rattle.types.proofs.MulDivLaws.{estimate}
use Rattle.types.proofs.mul_div.digit_long.Goals as goal

-- the values that the code names
module _ (h x d : ℕ) where
  abbrev e : ℕ
  e = d / 2 ^ 32 + 1

  abbrev q : ℕ
  q = h / e

  abbrev s : ℕ
  s = h % e * 2 ^ 32 + x

  abbrev t : ℕ
  t = q * (2 ^ 32 - d % 2 ^ 32)

module _ (h x d : ℕ) (hh : h < d) where
  sum_is : q h x d * d + (s h x d + t h x d) ≡ h * 2 ^ 32 + x
  sum_is = estimate h x d (q h x d) (h % e h x d) (2 ^ 32 - d % 2 ^ 32) (div-add-mod' h (e h x d)) (omega arith)

-- two quotients and the last one, over what is left each time
gather : (n d q s t tq tr lq lr : ℕ) → q * d + (s + t) ≡ n → tq * d + tr ≡ t → Division (s + tr) d lq lr → Division n d (q + tq + lq) lr
gather n d q s t tq tr lq lr e₁ e₂ l = record { whole = omega arith; small = l.small }

whole : (h x d tq tr lq lr : ℕ) → h < d → Division (t h x d) d tq tr → Division (s h x d + tr) d lq lr → Division (h * 2 ^ 32 + x) d (q h x d + tq + lq) lr
whole h x d tq tr lq lr hh m l =
    gather (h * 2 ^ 32 + x) d (q h x d) (s h x d) (t h x d) tq tr lq lr (sum_is h x d hh) m.whole l

pub returns : goal.returns
returns c =
    let a = c.args in
    let m = c.of_near-more in
    let l = c.sum_over-last in
    whole a.h a.x a.d m.result.quotient m.result.remainder l.result.quotient l.result.remainder c.requires.0 m.ensures l.ensures
