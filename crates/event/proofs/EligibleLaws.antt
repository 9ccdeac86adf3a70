-- Laws of item 3's definitions. Assumes nothing.
use mathlib.Core.Path.{◌≡◌}
use mathlib.Core.Logic.{⊎_elim}
use Prim.Native.Nat.{ℕ, ◌+◌, ◌*◌, ◌/◌, ◌≤◌, ◌<◌, min}
use native.Mathlib.Nat.{eq-zero-or-pos, mul-le-mul_left, mul-div-le, div-le_of_le-mul}
use native.Mathlib.Omega.{arith}
use borrow.Author.Tests.{eq-eqb, ne_eqb}
use Rattle.types.specs.Base.{M}
use Rattle.event.specs.Eligible.{self_eligible, other_eligible, ratio_of, self_ratio, other_ratio}

-- no total
pub ratio_empty : (p t : ℕ) → t ≡ 0 → ratio_of p t ≡ 0
unfolding ratio_of
ratio_empty p t z = rw (eq-eqb t 0 z)

pub ratio_some : (p t : ℕ) → 0 < t → ratio_of p t ≡ M * p / t
unfolding ratio_of
ratio_some p t h = rw (ne_eqb t 0 (λ z. omega arith))

-- a part of a total is at most a whole
pub ratio_le : (p t : ℕ) → p ≤ t → ratio_of p t ≤ M
ratio_le p t h =
    ⊎_elim (λ z. rw (ratio_empty p t z) (omega arith))
    (λ k. rw (ratio_some p t k) (div-le_of_le-mul t {m = M * p} {n = M} (omega (arith, mul-le-mul_left M h)))) (eq-zero-or-pos t)

-- the ratio of what is eligible is rounded down
pub ratio_part : (p t : ℕ) → t * ratio_of p t ≤ M * p
ratio_part p t = ⊎_elim (λ z. rw (ratio_empty p t z) (omega arith)) (λ k. rw (ratio_some p t k) (mul-div-le (M * p) t)) (eq-zero-or-pos t)

-- each side's eligible amount is at most its total
module _ (cap self_total other_total : ℕ) where
  pub self_le : self_eligible cap self_total ≤ self_total
  unfolding self_eligible
  self_le = omega arith

  pub other_le : other_eligible cap self_total other_total ≤ other_total
  unfolding other_eligible
  other_le = omega arith

  -- both together are the smaller of the cap and both totals
  pub both_are : self_eligible cap self_total + other_eligible cap self_total other_total ≡ min cap (self_total + other_total)
  unfolding self_eligible other_eligible
  both_are = omega arith

  -- the ratios are at most a whole
  pub self_ratio_le : self_ratio cap self_total ≤ M
  self_ratio_le = ratio_le (self_eligible cap self_total) self_total self_le

  pub other_ratio_le : other_ratio cap self_total other_total ≤ M
  other_ratio_le = ratio_le (other_eligible cap self_total other_total) other_total other_le
