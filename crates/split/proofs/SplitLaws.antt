-- Floors, remainders and the units left. Assumes nothing.
use mathlib.Core.Path.{◌≡◌, refl, ap}
use mathlib.Core.List.{List}
use mathlib.Core.Bool.{Bool, true, false}
use Prim.Native.Nat.{ℕ, zero, suc, ◌+◌, ◌*◌, ◌/◌, ◌≤◌, ◌<◌}
use native.Mathlib.Nat.{div-add-mod', mod-lt, le_of_mul-le-mul_right, le-div_iff_mul-le, mul-le-mul_left, div-mul-le_self}
use native.Mathlib.Omega.{arith}
use lib.Dec.{ltb}
use lib.ListN.{length, get_or}
use borrow.Author.Tests.{ltb-false}
use Rattle.types.specs.Base.{sum_below, count_below, to_nat}
use Rattle.types.proofs.Below.{sum_term, sum_counted, count_le}
use Rattle.split.specs.Split.{weight_sum, floor_of, remainder_of, units_left}

pub weight_le : (weights : List ℕ) (k : ℕ) → k < length weights → get_or weights k 0 ≤ weight_sum weights
unfolding weight_sum
weight_le weights k l = sum_term (λ k. get_or weights k 0) (length weights) k l

module _ (reward : ℕ) (weights : List ℕ) where
  pub division : (k : ℕ) → floor_of reward weights k * weight_sum weights + remainder_of reward weights k ≡ reward * get_or weights k 0
  unfolding floor_of remainder_of
  division k = div-add-mod' (reward * get_or weights k 0) (weight_sum weights)

  -- floors times the weight sum, with the remainders, are the reward times the weights
  divisions : (n : ℕ) → sum_below n (floor_of reward weights) * weight_sum weights + sum_below n (remainder_of reward weights)
      ≡ reward * sum_below n (λ k. get_or weights k 0)
  unfolding sum_below
  divisions zero = omega arith
  divisions (suc n) = omega (arith, divisions n, division n)

module _ (reward : ℕ) (weights : List ℕ) (some : 0 < weight_sum weights) where
  whole : sum_below (length weights) (floor_of reward weights) * weight_sum weights + sum_below (length weights) (remainder_of reward weights)
      ≡ reward * weight_sum weights
  unfolding weight_sum
  whole = divisions reward weights (length weights)

  pub floors_le : sum_below (length weights) (floor_of reward weights) ≤ reward
  floors_le = le_of_mul-le-mul_right {k = weight_sum weights} (omega (arith, whole)) some

  -- the floors and the units left are the reward
  pub units_are : units_left reward weights + sum_below (length weights) (floor_of reward weights) ≡ reward
  unfolding units_left
  units_are = omega (arith, floors_le)

  -- the units left are what the remainders add up to, over the weight sum
  remainders_are : units_left reward weights * weight_sum weights ≡ sum_below (length weights) (remainder_of reward weights)
  remainders_are = omega (arith, whole, ap (λ (z : ℕ). z * weight_sum weights) units_are)

  remainder_lt : (k : ℕ) → remainder_of reward weights k < weight_sum weights
  unfolding remainder_of
  remainder_lt k = mod-lt (reward * get_or weights k 0) some

  counted : (r : ℕ) → r < weight_sum weights → r ≤ to_nat (ltb 0 r) * weight_sum weights
  counted r l = go (ltb 0 r) refl
    where
      go : (t : Bool) → ltb 0 r ≡ t → r ≤ to_nat t * weight_sum weights
      go true e = omega arith
      go false e = omega (arith, ltb-false 0 r e)

  -- no more units are left than there are remainders above 0
  pub units_few : units_left reward weights ≤ count_below (length weights) (λ k. ltb 0 (remainder_of reward weights k))
  units_few =
      let h = sum_counted (remainder_of reward weights) (λ k. ltb 0 (remainder_of reward weights k)) (weight_sum weights) (length weights)
      (λ k. counted _ (remainder_lt k)) in
      le_of_mul-le-mul_right {k = weight_sum weights} (omega (arith, remainders_are, h)) some

  pub units_le : units_left reward weights ≤ length weights
  units_le = omega (arith, units_few, count_le (λ k. ltb 0 (remainder_of reward weights k)) (length weights))

  -- a floor and all units left are at most the reward
  pub floor_room : (k : ℕ) → k < length weights → floor_of reward weights k + units_left reward weights ≤ reward
  floor_room k l = omega (arith, units_are, sum_term (floor_of reward weights) (length weights) k l)

  -- a weight at least as large has a floor at least as large
  pub floor_grows : (i j : ℕ) → get_or weights j 0 ≤ get_or weights i 0 → floor_of reward weights j ≤ floor_of reward weights i
  unfolding floor_of
  floor_grows i j l =
      (le-div_iff_mul-le {k = weight_sum weights} {x = reward * get_or weights j 0 / weight_sum weights} {y = reward * get_or weights i 0} some).1
      (omega (arith, div-mul-le_self (reward * get_or weights j 0) (weight_sum weights), mul-le-mul_left reward l))
