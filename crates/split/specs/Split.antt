-- Request [1] of document 02: a reward split among clients by weight, to the smallest unit. Assumes nothing.
use Rattle.std.specs.Prelude.{Bool, not, ◌&&◌, ◌||◌, ℕ, ◌+◌, ◌-◌, ◌*◌, ◌/◌, ◌%◌, leb, ltb, eqb, List, length, get_or, if◌then◌else◌}
use Rattle.types.specs.Base.{word, Outcome, refused, accepted, after, sum_below, count_below, to_nat, tabulate}
use Rattle.types.specs.Refusals.{does_not_fit, invalid_weights, zero_weight_sum}

-- 'up to 64 weights'
abbrev pub max_weights : ℕ
max_weights = 64

-- ---- the clients; client k has weight k of the list, from 0

-- 'the weight sum'
unfoldable pub weight_sum : List ℕ → ℕ
weight_sum weights = sum_below (length weights) (λ k. get_or weights k 0)

module _ (reward : ℕ) (weights : List ℕ) where
  -- 'each client gets reward times weight over the weight sum, rounded down'
  unfoldable pub floor_of : (k : ℕ) → ℕ
  floor_of k = reward * get_or weights k 0 / weight_sum weights

  -- what that rounding keeps back
  unfoldable pub remainder_of : (k : ℕ) → ℕ
  remainder_of k = reward * get_or weights k 0 % weight_sum weights

  -- 'The units left'
  unfoldable pub units_left : ℕ
  units_left = reward - sum_below (length weights) floor_of

-- 'the largest remainders, ties to the earlier client': client i, with remainder a, comes before client j, with remainder b
unfoldable pub comes_before : (a i b j : ℕ) → Bool
comes_before a i b j = ltb b a || (eqb b a && ltb i j)

-- the rank of client i among n with these remainders: how many come before it
unfoldable pub rank_of : (n : ℕ) → (remainder : ℕ → ℕ) → (i : ℕ) → ℕ
rank_of n remainder i = count_below n (λ j. comes_before (remainder j) j (remainder i) i)

module _ (reward : ℕ) (weights : List ℕ) where
  -- 'The units left go one each to the largest remainders'
  unfoldable pub gets_unit : (k : ℕ) → Bool
  gets_unit k = ltb (rank_of (length weights) (remainder_of reward weights) k) (units_left reward weights)

  unfoldable pub part_of : (k : ℕ) → ℕ
  part_of k = floor_of reward weights k + to_nat (gets_unit k)

  unfoldable pub parts_of : List ℕ
  parts_of = tabulate (length weights) part_of

-- ---- the call

-- 'Checks: 28 more than 64 weights or an output list of another length; then 13 if the weight sum passes 64 bits; then 29 if it is zero'; `room` is
-- the output list's length
unfoldable pub split_call : (reward : ℕ) → (weights : List ℕ) → (room : ℕ) → Outcome (List ℕ)
split_call reward weights room =
    if ltb max_weights (length weights) || not (eqb room (length weights)) then refused invalid_weights
    else if leb word (weight_sum weights) then refused does_not_fit
    else if eqb (weight_sum weights) 0 then refused zero_weight_sum
    else accepted (parts_of reward weights)

-- the output list after the call: the parts, or what a refused call found
unfoldable pub split_parts : (reward : ℕ) → (weights found : List ℕ) → List ℕ
split_parts reward weights found = after (split_call reward weights (length found)) (λ parts. parts) found
