-- A threshold found among the remainders, and that it tells just the clients of the lowest ranks. Assumes nothing.
use mathlib.Core.Path.{◌≡◌, sym, ap, ◌∙◌}
use mathlib.Core.Logic.{◌⊎◌, inl, inr}
use mathlib.Core.Bool.{Bool, true, false}
use mathlib.Core.List.{List, ◌∷◌, ◌++◌}
use Prim.Native.Nat.{ℕ, suc, ◌+◌, ◌-◌, ◌≤◌, ◌<◌}
use native.Mathlib.Decide.{ℕ_discrete}
use native.Mathlib.Omega.{arith}
use lib.Dec.{ltb, leb, eqb}
use lib.ListN.{get_or, length-append}
use lib.Seq.{length-take-le}
use borrow.Author.Tests.{lt-ltb, le-ltb, le-leb, leb-true, eq-eqb, ne_eqb}
use Rattle.std.specs.Prelude.{cond, length, take}
use Rattle.std.specs.List.{count_by}
use Rattle.std.specs.List.Sorted.{IsPermutation, IsSplitAround}
use Rattle.std.specs.Ordering.{nat_cmp}
use Rattle.std.proofs.lemmas.List.Sorted.{sum_by-IsPermutation, length_permutation}
use Rattle.std.proofs.lemmas.List.Sums.{sum_by-append, sum_by-cons, count_by-le-length}
use Rattle.std.proofs.lemmas.Map.Keys.{ge_from_not_lt}
use Rattle.types.proofs.ListLaws.{count_taken, count_no, count_all}
use Rattle.types.specs.Base.{count_below}
use Rattle.types.proofs.Below.{lt_or_le, ltb_same}
use Rattle.split.specs.declared.Threshold.{Threshold}
use Rattle.split.specs.Split.{rank_of}
use Rattle.split.specs.Steps.{ThresholdOf, passes}
use Rattle.split.proofs.OrderLaws.{rank_is, rank_above, rank_under}

-- ---- what passes

module _ (t : Threshold) (remainders : List ℕ) (k : ℕ) where
  pub passes_larger : t.remainder < get_or remainders k 0 → passes t remainders k ≡ true
  unfolding passes
  passes_larger h = rw (lt-ltb t.remainder (get_or remainders k 0) h)

  pub passes_tie : get_or remainders k 0 ≡ t.remainder
      → passes t remainders k ≡ ltb (count_below k (λ j. eqb (get_or remainders j 0) t.remainder)) t.units
  unfolding passes
  passes_tie q = rw (le-ltb t.remainder (get_or remainders k 0) (omega arith), eq-eqb (get_or remainders k 0) t.remainder q)

  pub passes_less : get_or remainders k 0 < t.remainder → passes t remainders k ≡ false
  unfolding passes
  passes_less h = rw (le-ltb t.remainder (get_or remainders k 0) (omega arith), ne_eqb (get_or remainders k 0) t.remainder (λ q. omega arith))

module _ (remainders : List ℕ) (n left : ℕ) (t : Threshold) (o : ThresholdOf remainders n left t) where
  abbrev rest : ℕ → ℕ
  rest k = get_or remainders k 0

  abbrev larger : ℕ
  larger = count_below n (λ j. ltb t.remainder (rest j))

  -- just the clients that pass have a rank below the units left
  pub passes_is : (k : ℕ) → k < n → ltb (rank_of n rest k) left ≡ passes t remainders k
  passes_is k l = go (lt_or_le t.remainder (rest k)) (ℕ_discrete (rest k) t.remainder)
    where
      under : t.remainder < rest k → rank_of n rest k < larger
      under h = rank_under rest n k (λ j. ltb t.remainder (rest j)) l (λ j p. lt-ltb t.remainder (rest j) (omega arith))

      tied : rest k ≡ t.remainder → rank_of n rest k + t.units ≡ left + count_below k (λ j. eqb (rest j) t.remainder)
      tied q =
          omega (
            arith,
            o.above,
            rank_is rest n k (omega arith),
            ap (λ (x : ℕ). count_below n (λ j. ltb x (rest j))) q,
            ap (λ (x : ℕ). count_below k (λ j. eqb (rest j) x)) q,
          )

      above : rest k < t.remainder → count_below n (λ j. leb t.remainder (rest j)) ≤ rank_of n rest k
      above h = rank_above rest n k (λ j. leb t.remainder (rest j)) (λ j p. omega (arith, leb-true t.remainder (rest j) p))

      go : (t.remainder < rest k) ⊎ (rest k ≤ t.remainder) → Dec (rest k ≡ t.remainder) → ltb (rank_of n rest k) left ≡ passes t remainders k
      go (inl h) d = lt-ltb (rank_of n rest k) left (omega (arith, o.above, under h)) ∙ sym (passes_larger t remainders k h)
      go (inr h) (yes q) = ltb_same _ _ _ _ (λ p. omega (arith, tied q)) (λ p. omega (arith, tied q)) ∙ sym (passes_tie t remainders k q)
      go (inr h) (no d) =
          let less : rest k < t.remainder = omega arith in
          le-ltb (rank_of n rest k) left (omega (arith, o.enough, above less)) ∙ sym (passes_less t remainders k less)

-- ---- what a selection finds

module _ (xs front back : List ℕ) (x : ℕ) (moved : IsPermutation xs (front ++ x ∷ back)) (split : IsSplitAround nat_cmp front x back) where
  counted : (p : ℕ → Bool) → count_by p xs ≡ count_by p front + (cond (p x) 1 0 + count_by p back)
  counted p =
      sym (sum_by-IsPermutation (λ (y : ℕ). cond (p y) 1 0) xs (front ++ x ∷ back) moved)
      ∙ sum_by-append (λ (y : ℕ). cond (p y) 1 0) front (x ∷ back)
      ∙ ap (λ (c : ℕ). count_by p front + c) (sum_by-cons (λ (y : ℕ). cond (p y) 1 0) x back)

  -- what is larger stands behind it
  pub larger_behind : count_by (λ y. ltb x y) xs ≡ count_by (λ y. ltb x y) back
  larger_behind =
      omega (
        arith,
        counted (λ y. ltb x y),
        count_no (λ y. ltb x y) front (λ k l. le-ltb x (get_or front k 0) (ge_from_not_lt x (get_or front k 0) (split.0 k 0 l))),
        ap {B = ℕ} (λ (t : Bool). cond t 1 0) (le-ltb x x (omega arith)),
      )

  -- all that stands behind it is at least as large
  pub least_of : suc (length back) ≤ count_by (λ y. leb x y) xs
  least_of =
      omega (
        arith,
        counted (λ y. leb x y),
        count_all (λ y. leb x y) back (λ k l. le-leb x (get_or back k 0) (ge_from_not_lt (get_or back k 0) x (split.1 k 0 l))),
        ap {B = ℕ} (λ (t : Bool). cond t 1 0) (le-leb x x (omega arith)),
      )

-- the threshold that a selection of the element at n - left finds
module _ (remainders front back : List ℕ) (x n left : ℕ) (some : 0 < left) (most : left ≤ n) (long : n ≤ length remainders)
    (moved : IsPermutation (take n remainders) (front ++ x ∷ back)) (at : length front ≡ n - left) (split : IsSplitAround nat_cmp front x back) where
  behind : suc (length back) ≡ left
  behind = omega (arith, length_permutation _ _ moved, length-append front (x ∷ back), length-take-le n remainders long)

  pub larger_le : count_by (λ y. ltb x y) back ≤ left
  larger_le = omega (arith, behind, count_by-le-length (λ (y : ℕ). ltb x y) back)

  pub threshold_found : ThresholdOf remainders n left (record { remainder = x; units = left - count_by (λ y. ltb x y) back })
  threshold_found = record {
    above = omega (arith, count_taken (λ y. ltb x y) n remainders long, larger_behind _ _ _ _ moved split, larger_le);
    enough = omega (arith, behind, count_taken (λ y. leb x y) n remainders long, least_of _ _ _ _ moved split);
  }
