-- What request [1] promises of the parts of an accepted call. Assumes nothing.
use mathlib.Core.Path.{◌≡◌, refl, sym, ap, ◌∙◌}
use mathlib.Core.Logic.{◌⊎◌, inl, inr, ⊎_elim}
use mathlib.Core.Bool.{Bool, true, false, not, ◌||◌}
use mathlib.Core.List.{List}
use Prim.Native.Nat.{ℕ, ◌+◌, ◌*◌, ◌/◌, ◌%◌, ◌≤◌, ◌<◌}
use native.Mathlib.Nat.{zero-div, zero-mod, mul-lt-mul_of_pos_left}
use native.Mathlib.Decide.{ℕ_discrete}
use native.Mathlib.Omega.{arith}
use lib.Dec.{leb, ltb, eqb}
use lib.ListN.{length, get_or}
use borrow.Author.Tests.{eqb-false, lt-ltb, le-ltb, ltb-true}
use Rattle.std.specs.Prelude.{if◌then◌else◌}
use Rattle.types.specs.Base.{word, refused, accepted, sum_below, to_nat}
use Rattle.types.proofs.Below.{lt_or_le, to_nat_le, sum_same, sum_units}
use Rattle.types.proofs.ListLaws.{get_or_tabulate, length_tabulate}
use Rattle.types.proofs.OutcomeLaws.{test_passed}
use Rattle.split.specs.Split.{weight_sum, floor_of, remainder_of, units_left, rank_of, gets_unit, part_of, parts_of, split_call, split_parts}
use Rattle.split.proofs.OrderLaws.{clients_below, ranked_less, ranked_larger, rank_above, before_tie}
use Rattle.split.proofs.SplitLaws.{division, units_are, units_few, units_le, floor_grows}

-- ---- one client's part

none_or_one : (t : Bool) → (to_nat t ≡ 0) ⊎ (to_nat t ≡ 1)
none_or_one true = inr refl
none_or_one false = inl refl

unit_le : (t : Bool) → to_nat t ≤ 1
unit_le t = ⊎_elim (λ u. omega arith) (λ u. omega arith) (none_or_one t)

module _ (reward : ℕ) (weights : List ℕ) where
  abbrev rank : ℕ → ℕ
  rank k = rank_of (length weights) (remainder_of reward weights) k

  abbrev unit : ℕ → ℕ
  unit k = to_nat (gets_unit reward weights k)

  -- the floor, or one unit more
  floor_or_more : (k : ℕ) → (part_of reward weights k ≡ floor_of reward weights k) ⊎ (part_of reward weights k ≡ floor_of reward weights k + 1)
  unfolding part_of
  floor_or_more k = ⊎_elim (λ u. inl (omega arith)) (λ u. inr (omega arith)) (none_or_one (gets_unit reward weights k))

  -- a lower rank gets no less of the units
  unit_grows : (i j : ℕ) → rank i < rank j → unit j ≤ unit i
  unfolding gets_unit
  unit_grows i j l = to_nat_le (ltb (rank j) (units_left reward weights)) (ltb (rank i) (units_left reward weights))
      (λ e. lt-ltb (rank i) (units_left reward weights) (omega (arith, ltb-true (rank j) (units_left reward weights) e)))

  module _ (some : 0 < weight_sum weights) where
    sum_of_parts : sum_below (length weights) (part_of reward weights) ≡ reward
    unfolding part_of gets_unit
    sum_of_parts =
        let given = clients_below (remainder_of reward weights) (length weights) (units_left reward weights) (units_le reward weights some) in
        sum_units (floor_of reward weights) (λ k. ltb (rank k) (units_left reward weights)) (length weights)
        ∙ omega (arith, given, units_are reward weights some)

    -- no more units are left than there are remainders above 0, and all of these come before
    no_unit : (k : ℕ) → remainder_of reward weights k ≡ 0 → unit k ≡ 0
    unfolding gets_unit
    no_unit k z =
        let above = rank_above (remainder_of reward weights) (length weights) k (λ j. ltb 0 (remainder_of reward weights j))
        (λ j p. omega (arith, z, ltb-true 0 (remainder_of reward weights j) p)) in
        ap to_nat (le-ltb (rank k) (units_left reward weights) (omega (arith, above, units_few reward weights some)))

    no_part : (k : ℕ) → get_or weights k 0 ≡ 0 → part_of reward weights k ≡ 0
    unfolding part_of floor_of remainder_of
    no_part k z =
        let f : reward * get_or weights k 0 / weight_sum weights ≡ 0 = ap (λ (p : ℕ). p / weight_sum weights) nothing ∙ zero-div (weight_sum weights) in
        omega (arith, f, no_unit k (ap (λ (p : ℕ). p % weight_sum weights) nothing ∙ zero-mod (weight_sum weights)))
      where
        nothing : reward * get_or weights k 0 ≡ 0
        nothing = rw z (omega arith)

    -- equal weights have equal remainders
    equal_remainders : (i j : ℕ) → get_or weights i 0 ≡ get_or weights j 0 → remainder_of reward weights j ≡ remainder_of reward weights i
    unfolding remainder_of
    equal_remainders i j e = ap (λ (w : ℕ). reward * w % weight_sum weights) (sym e)

    -- and the earlier of their clients comes first
    equal_parts : (i j : ℕ) → i < j → j < length weights → get_or weights i 0 ≡ get_or weights j 0 → part_of reward weights j ≤ part_of reward weights i
    unfolding part_of
    equal_parts i j l lj e =
        let first = ranked_less (remainder_of reward weights) (length weights) i j (omega arith)
        (before_tie _ i _ j (equal_remainders i j e) ∙ lt-ltb i j l) in
        omega (arith, floor_grows reward weights some i j (omega arith), unit_grows i j first)

    -- a larger weight with the same floor has the larger remainder, unless nothing is split
    larger_remainder : (i j : ℕ) → get_or weights j 0 < get_or weights i 0 → floor_of reward weights i ≡ floor_of reward weights j
        → (reward ≡ 0) ⊎ (remainder_of reward weights j < remainder_of reward weights i)
    larger_remainder i j l e = go (ℕ_discrete reward 0)
      where
        go : Dec (reward ≡ 0) → (reward ≡ 0) ⊎ (remainder_of reward weights j < remainder_of reward weights i)
        go (yes q) = inl q
        go (no d) =
            let more : reward * get_or weights j 0 < reward * get_or weights i 0 = mul-lt-mul_of_pos_left l (omega arith) in
            inr (omega (arith, more, division reward weights i, division reward weights j, ap (λ (f : ℕ). f * weight_sum weights) e))

    -- a reward of 0 leaves nothing
    nothing_left : (k : ℕ) → reward ≡ 0 → unit k ≡ 0
    nothing_left k z = no_unit k (none k z)
      where
        none : (k : ℕ) → reward ≡ 0 → remainder_of reward weights k ≡ 0
        none k z = omega (arith, division reward weights k, ap (λ (r : ℕ). r * get_or weights k 0) z)

    larger_part : (i j : ℕ) → i < length weights → get_or weights j 0 < get_or weights i 0 → part_of reward weights j ≤ part_of reward weights i
    unfolding part_of
    larger_part i j li l = go (ℕ_discrete (floor_of reward weights i) (floor_of reward weights j))
      where
        floors : floor_of reward weights j ≤ floor_of reward weights i
        floors = floor_grows reward weights some i j (omega arith)

        go : Dec (floor_of reward weights i ≡ floor_of reward weights j) → floor_of reward weights j + unit j ≤ floor_of reward weights i + unit i
        go (no d) = omega (arith, floors, unit_le (gets_unit reward weights j))
        go (yes e) =
            ⊎_elim (λ z. omega (arith, floors, nothing_left j z))
            (λ r. omega (arith, floors, unit_grows i j (ranked_larger (remainder_of reward weights) (length weights) i j li r))) (larger_remainder i j l e)

-- ---- the parts of an accepted call

-- an accepted call has passed the three tests
tests_passed : (a b c : Bool) (l parts : List ℕ) → (if a then refused 28 else if b then refused 13 else if c then refused 29 else accepted l) ≡ accepted parts
    → (c ≡ false) × (parts ≡ l)
tests_passed a b c l parts e =
    let p = test_passed a 28 (if b then refused 13 else if c then refused 29 else accepted l) parts e in
    let q = test_passed b 13 (if c then refused 29 else accepted l) parts p.1 in
    let r = test_passed c 29 (accepted l) parts q.1 in
    (r.0, let d : accepted l ≡ accepted parts = r.1 in cc)

module _ (reward : ℕ) (weights : List ℕ) (room : ℕ) (parts : List ℕ) (done : split_call reward weights room ≡ accepted parts) where
  passed : (0 < weight_sum weights) × (parts ≡ parts_of reward weights)
  unfolding split_call
  passed =
      let t = tests_passed (ltb 64 (length weights) || not (eqb room (length weights))) (leb word (weight_sum weights)) (eqb (weight_sum weights) 0)
      (parts_of reward weights) parts done in
      let n : weight_sum weights ≡ 0 → ⊥ = eqb-false (weight_sum weights) 0 t.0 in
      (omega arith, t.1)

  part_at : (k : ℕ) → k < length weights → get_or parts k 0 ≡ part_of reward weights k
  unfolding parts_of
  part_at k l = ap (λ (p : List ℕ). get_or p k 0) passed.1 ∙ get_or_tabulate (length weights) (part_of reward weights) k l

  pub as_many_parts_as_weights : length parts ≡ length weights
  unfolding parts_of
  as_many_parts_as_weights = ap length passed.1 ∙ length_tabulate (length weights) (part_of reward weights)

  -- 'The parts add up to the reward exactly.'
  pub parts_add_up : sum_below (length parts) (λ k. get_or parts k 0) ≡ reward
  parts_add_up =
      ap (λ (n : ℕ). sum_below n (λ k. get_or parts k 0)) as_many_parts_as_weights
      ∙ sum_same (λ k. get_or parts k 0) (part_of reward weights) (length weights) part_at
      ∙ sum_of_parts reward weights passed.0

  -- 'each client gets reward times weight over the weight sum, rounded down', or one unit more
  pub floor_or_one_more : (k : ℕ) → k < length weights
      → (get_or parts k 0 ≡ floor_of reward weights k) ⊎ (get_or parts k 0 ≡ floor_of reward weights k + 1)
  floor_or_one_more k l = ⊎_elim (λ u. inl (part_at k l ∙ u)) (λ u. inr (part_at k l ∙ u)) (floor_or_more reward weights k)

  -- a client with a larger weight never gets less
  pub larger_weight_gets_no_less : (i j : ℕ) → i < length weights → j < length weights → get_or weights j 0 < get_or weights i 0
      → get_or parts j 0 ≤ get_or parts i 0
  larger_weight_gets_no_less i j li lj h = omega (arith, part_at i li, part_at j lj, larger_part reward weights passed.0 i j li h)

  -- 'ties to the earlier client': nor does the earlier of two with equal weights
  pub earlier_gets_no_less : (i j : ℕ) → i < j → j < length weights → get_or weights i 0 ≡ get_or weights j 0 → get_or parts j 0 ≤ get_or parts i 0
  earlier_gets_no_less i j l lj e = omega (arith, part_at i (omega arith), part_at j lj, equal_parts reward weights passed.0 i j l lj e)

  -- 'A client with a weight at least as large as another's never gets more than one unit less.'
  pub at_most_one_unit_less : (i j : ℕ) → i < length weights → j < length weights → get_or weights j 0 ≤ get_or weights i 0
      → get_or parts j 0 ≤ get_or parts i 0 + 1
  at_most_one_unit_less i j li lj h = go (lt_or_le (get_or weights j 0) (get_or weights i 0)) (lt_or_le i j)
    where
      floors : floor_of reward weights j ≤ floor_of reward weights i
      floors = floor_grows reward weights passed.0 i j h

      go : (get_or weights j 0 < get_or weights i 0) ⊎ (get_or weights i 0 ≤ get_or weights j 0) → (i < j) ⊎ (j ≤ i) → get_or parts j 0 ≤ get_or parts i 0 + 1
      go (inl l) s = omega (arith, larger_weight_gets_no_less i j li lj l)
      go (inr l) (inl s) = omega (arith, earlier_gets_no_less i j s lj (omega arith))
      go (inr l) (inr s) =
          ⊎_elim (λ u. ⊎_elim (λ v. omega (arith, floors)) (λ v. omega (arith, floors)) (floor_or_one_more i li))
          (λ u. ⊎_elim (λ v. omega (arith, floors)) (λ v. omega (arith, floors)) (floor_or_one_more i li)) (floor_or_one_more j lj)

  -- a weight of 0 gets 0
  pub no_weight_no_part : (k : ℕ) → k < length weights → get_or weights k 0 ≡ 0 → get_or parts k 0 ≡ 0
  no_weight_no_part k l z = part_at k l ∙ no_part reward weights passed.0 k z

-- ---- a fact of weights alone

-- two accepted calls on the same reward and weights have the same parts, whatever the output lists held
pub parts_of_weights_alone : (reward : ℕ) (weights : List ℕ) (room room' : ℕ) (parts parts' : List ℕ) → split_call reward weights room ≡ accepted parts
    → split_call reward weights room' ≡ accepted parts' → parts ≡ parts'
parts_of_weights_alone reward weights room room' parts parts' d d' = (passed reward weights room parts d).1 ∙ sym (passed reward weights room' parts' d').1

-- ---- the output list

-- a refused call changes no word
pub refused_changes_nothing : (reward : ℕ) (weights found : List ℕ) (k : ℕ) → split_call reward weights (length found) ≡ refused k
    → split_parts reward weights found ≡ found
unfolding split_parts
refused_changes_nothing reward weights found k e = rw e

-- an accepted one leaves its parts there
pub accepted_leaves_parts : (reward : ℕ) (weights found parts : List ℕ) → split_call reward weights (length found) ≡ accepted parts
    → split_parts reward weights found ≡ parts
unfolding split_parts
accepted_leaves_parts reward weights found parts e = rw e
