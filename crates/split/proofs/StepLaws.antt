-- What each step of the code adds to what the steps before it hold. Assumes nothing.
use mathlib.Core.Path.{◌≡◌, ap, ◌∙◌}
use mathlib.Core.List.{List}
use mathlib.Core.Bool.{false}
use lib.Dec.{ltb}
use Prim.Native.Nat.{ℕ, ◌+◌, ◌-◌, ◌*◌, ◌/◌, ◌%◌, ◌^◌, ◌≤◌, ◌<◌}
use native.Mathlib.Nat.{mul-le-mul}
use native.Mathlib.Omega.{arith}
use lib.ListN.{length, get_or, set, length-set}
use lib.Seq.{get_or-set_same, get_or-set_other}
use borrow.Author.Tests.{lt-ltb, le-ltb}
use borrow.Author.Count.{below_more}
use Rattle.std.specs.Prelude.{Some, None}
use Rattle.types.specs.Base.{sum_below, to_nat}
use Rattle.types.specs.Wide.{fit_of}
use Rattle.types.specs.MulDiv.{mul_div_of}
use Rattle.types.proofs.Below.{sum_none, sum_more, sum_grows}
use Rattle.types.proofs.ListLaws.{tabulated}
use Rattle.types.proofs.WideLaws.{fit_word, fit_past}
use Rattle.split.specs.Split.{weight_sum, floor_of, remainder_of, units_left, rank_of, gets_unit, part_of, parts_of}
use Rattle.split.specs.declared.Threshold.{Threshold}
use Rattle.split.specs.Steps.{Begins, Checked, Floored, ThresholdOf, passes, Room, Given}
use Rattle.split.proofs.OrderLaws.{rank_same}
use Rattle.split.proofs.SplitLaws.{weight_le, floors_le, units_are, units_le, floor_room}
use Rattle.split.proofs.ThresholdLaws.{passes_is}

-- ---- the weight sum

module _ (weights : List ℕ) where
  abbrev pub summed : ℕ → ℕ
  summed k = sum_below k (λ i. get_or weights i 0)

  pub summed_none : 0 ≡ summed 0
  summed_none = sum_none (λ i. get_or weights i 0)

  pub summed_more : (sum k : ℕ) → sum ≡ summed k → sum + get_or weights k 0 ≡ summed (k + 1)
  summed_more sum k e = omega (arith, sum_more (λ i. get_or weights i 0) k)

  pub weights_fit : (sum k : ℕ) → sum ≡ summed k → k ≡ length weights → sum < 2 ^ 64 → Some sum ≡ fit_of (weight_sum weights)
  unfolding weight_sum
  weights_fit sum k e q l = fit_word _ sum (e ∙ ap summed q) l

  -- a sum past 64 bits stays past them
  pub weights_past : (sum k : ℕ) → sum ≡ summed k → k < length weights → 2 ^ 64 ≤ sum + get_or weights k 0 → None ≡ fit_of (weight_sum weights)
  unfolding weight_sum
  weights_past sum k e l p =
      fit_past (summed (length weights)) (omega (arith, summed_more sum k e, sum_grows (λ i. get_or weights i 0) (k + 1) (length weights) (omega arith)))

pub ruleset sums = (summed_none, summed_more, weights_fit, weights_past)

-- ---- one client's share

-- the floor is at most the reward, so it fits
pub share_is : (reward weight sum : ℕ) → reward < 2 ^ 64 → weight ≤ sum → 0 < sum
    → mul_div_of reward weight sum ≡ Some (record { quotient = reward * weight / sum; remainder = reward * weight % sum })
unfolding mul_div_of
share_is reward weight sum r l s =
    let p : reward * weight ≤ (2 ^ 64 - 1) * sum = mul-le-mul (omega arith) l in
    rw (lt-ltb (reward * weight) (sum * 2 ^ 64) (omega arith))

-- ---- floors

begins_none : (f : ℕ → ℕ) (l : List ℕ) → Begins f 0 l
begins_none f l = record { at = λ k h. absurd (omega arith) }

-- one word more is written
begins_more : (f : ℕ → ℕ) (l : List ℕ) (n v : ℕ) → n < length l → Begins f n l → v ≡ f n → Begins f (n + 1) (set l n v)
begins_more f l n v h b e = record {
  at = below_more (λ k. get_or (set l n v) k 0 ≡ f k) n (λ k p. get_or-set_other l n k v 0 (λ q. omega arith) ∙ b.at k p) (get_or-set_same l n v 0 h ∙ e);
}

-- the first k floors and remainders are written, and what they leave of the reward
pub record Flooring (reward : ℕ) (weights parts remainders : List ℕ) (left k : ℕ) : Type 0 where
  pub long : length parts ≡ length weights
  pub floors : Begins (floor_of reward weights) k parts
  pub rests : Begins (remainder_of reward weights) k remainders
  pub rest : left + sum_below k (floor_of reward weights) ≡ reward

module _ (reward sum : ℕ) (weights found : List ℕ) (c : Checked sum weights found) where
  pub weight_in : (k : ℕ) → k < length weights → (get_or weights k 0 ≤ sum) × (0 < sum)
  weight_in k l = (omega (arith, weight_le weights k l, c.sums), c.some)

  pub flooring_none : (array : List ℕ) → Flooring reward weights found array reward 0
  flooring_none array = record {
    long = c.long;
    floors = begins_none _ _;
    rests = begins_none _ _;
    rest = omega (arith, sum_none (floor_of reward weights));
  }

  module _ (k left q : ℕ) (parts remainders : List ℕ) (f : Flooring reward weights parts remainders left k) (l : k < length weights)
      (e : q ≡ reward * get_or weights k 0 / sum) where
    floor_is : q ≡ floor_of reward weights k
    unfolding floor_of
    floor_is = e ∙ ap (λ (s : ℕ). reward * get_or weights k 0 / s) (c.sums)

    pub floor_le : q ≤ left
    floor_le =
        omega (
          arith,
          f.rest,
          floor_is,
          sum_more (floor_of reward weights) k,
          sum_grows (floor_of reward weights) (k + 1) (length weights) (omega arith),
          floors_le reward weights (omega (arith, c.sums, c.some)),
        )

    pub flooring_more : (r : ℕ) → length remainders ≡ 64 → r ≡ reward * get_or weights k 0 % sum
        → Flooring reward weights (set parts k q) (set remainders k r) (left - q) (k + 1)
    unfolding remainder_of
    flooring_more r a d = record {
      long = length-set parts k q ∙ f.long;
      floors = begins_more _ _ k q (omega (arith, f.long)) (f.floors) floor_is;
      rests = begins_more _ _ k r (omega (arith, c.few)) (f.rests) (d ∙ ap (λ (s : ℕ). reward * get_or weights k 0 % s) (c.sums));
      rest = omega (arith, f.rest, floor_is, floor_le, sum_more (floor_of reward weights) k);
    }

  pub flooring_all : (k left : ℕ) (parts remainders : List ℕ) → Flooring reward weights parts remainders left k → k ≡ length weights
      → Floored reward weights parts remainders left
  flooring_all k left parts remainders f q =
      let f' : Flooring reward weights parts remainders left (length weights) = rw q at f in
      let u = units_are reward weights (omega (arith, c.sums, c.some)) in
      record { long = f'.long; floors = f'.floors; rests = f'.rests; units = omega (arith, f'.rest, u) }

pub ruleset floors = (weight_in, flooring_none, floor_le, flooring_more, flooring_all)

-- ---- the parts

module _ (reward sum : ℕ) (weights found floors remainders : List ℕ) (left : ℕ) (c : Checked sum weights found)
    (f : Floored reward weights floors remainders left) where
  some : 0 < weight_sum weights
  some = omega (arith, c.sums, c.some)

  pub left_le : left ≤ length weights
  left_le = omega (arith, f.units, units_le reward weights some)

  pub room : reward < 2 ^ 64 → 0 < left → Room floors
  room r l = record {
    at = λ k h.
        let h' : k < length weights = rw (← f.long) h in
        omega (arith, f.floors.at k h', f.units, floor_room reward weights some k h');
  }

  -- where no unit is left the floors are the parts
  pub parts_even : left ≡ 0 → floors ≡ parts_of reward weights
  unfolding parts_of part_of gets_unit
  parts_even z = tabulated (length weights) _ floors (f.long) (λ k l. f.floors.at k l ∙ omega (arith, ap to_nat (none k)))
    where
      none : (k : ℕ) → ltb (rank_of (length weights) (remainder_of reward weights) k) (units_left reward weights) ≡ false
      none k = le-ltb _ (units_left reward weights) (omega (arith, f.units))

  pub parts_given : (t : Threshold) (parts : List ℕ) → ThresholdOf remainders (length weights) left t → Given t remainders floors parts
      → parts ≡ parts_of reward weights
  unfolding parts_of part_of gets_unit
  parts_given t parts o g = tabulated (length weights) _ parts (g.long ∙ f.long) (λ k l. g.unit k (omega (arith, f.long)) ∙ part k l)
    where
      part : (k : ℕ) → k < length weights → get_or floors k 0 + to_nat (passes t remainders k) ≡ part_of reward weights k
      part k l =
          let same = rank_same (length weights) (λ j. get_or remainders j 0) (remainder_of reward weights) (f.rests.at) k l in
          rw (f.floors.at k l, ← passes_is remainders (length weights) left t o k l, f.units, same)

pub ruleset written = (left_le, room, parts_even, parts_given)
