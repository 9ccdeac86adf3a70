-- The order of the remainders is strict: of two clients just one comes before the other. Assumes nothing.
use mathlib.Core.Path.{◌≡◌, refl, sym, ap, ◌∙◌}
use mathlib.Core.Logic.{◌≢◌, ◌⊎◌, inl, inr, ⊎_elim}
use mathlib.Core.Bool.{Bool, true, false, ◌&&◌, true≢false}
use Prim.Native.Nat.{ℕ, ◌+◌, ◌≤◌, ◌<◌}
use native.Mathlib.Decide.{ℕ_discrete}
use native.Mathlib.Omega.{arith}
use lib.Dec.{ltb, eqb}
use borrow.Author.Tests.{ltb-true, lt-ltb, le-ltb, eq-eqb, ne_eqb}
use Rattle.types.specs.Base.{count_below}
use Rattle.types.proofs.Below.{and_right, lt_or_le, count_same, count_grows, count_less, count_either, count_skips}
use Rattle.split.specs.Split.{comes_before, rank_of}
use Rattle.split.proofs.RankLaws.{Strict, ranks_below, rank_less}

before_larger : (a i b j : ℕ) → b < a → comes_before a i b j ≡ true
unfolding comes_before
before_larger a i b j l = rw (lt-ltb b a l)

-- equal remainders are told apart by place only
pub before_tie : (a i b j : ℕ) → b ≡ a → comes_before a i b j ≡ ltb i j
unfolding comes_before
before_tie a i b j q = rw (le-ltb b a (omega arith), eq-eqb b a q)

before_smaller : (a i b j : ℕ) → a ≤ b → b ≢ a → comes_before a i b j ≡ false
unfolding comes_before
before_smaller a i b j l n = rw (le-ltb b a l, ne_eqb b a n)

says_before : (a i b j : ℕ) → (b < a) ⊎ ((b ≡ a) × (i < j)) → comes_before a i b j ≡ true
says_before a i b j (inl l) = before_larger a i b j l
says_before a i b j (inr (q, l)) = before_tie a i b j q ∙ lt-ltb i j l

before_says : (a i b j : ℕ) → comes_before a i b j ≡ true → (b < a) ⊎ ((b ≡ a) × (i < j))
before_says a i b j e = go (lt_or_le b a) (ℕ_discrete b a)
  where
    go : (b < a) ⊎ (a ≤ b) → Dec (b ≡ a) → (b < a) ⊎ ((b ≡ a) × (i < j))
    go (inl l) d = inl l
    go (inr l) (yes q) = inr (q, ltb-true i j (sym (before_tie a i b j q) ∙ e))
    go (inr l) (no n) = absurd (true≢false (sym e ∙ before_smaller a i b j l n))

module _ (f : ℕ → ℕ) where
  abbrev order : ℕ → ℕ → Bool
  order i j = comes_before (f i) i (f j) j

  through : (i j k : ℕ) → order i j ≡ true → order j k ≡ true → order i k ≡ true
  through i j k p q =
      says_before (f i) i (f k) k
      (⊎_elim (λ u. ⊎_elim (λ v. inl (omega arith)) (λ v. inl (omega arith)) (before_says (f j) j (f k) k q))
      (λ u. ⊎_elim (λ v. inl (omega arith)) (λ v. inr (omega arith, omega arith)) (before_says (f j) j (f k) k q))
      (before_says (f i) i (f j) j p))

  itself : (i : ℕ) → order i i ≡ false
  itself i = before_tie (f i) i (f i) i refl ∙ le-ltb i i (omega arith)

  either : (i j : ℕ) → i ≢ j → order i j ≡ false → order j i ≡ true
  either i j n e = go (lt_or_le (f i) (f j)) (ℕ_discrete (f j) (f i)) (lt_or_le j i)
    where
      go : (f i < f j) ⊎ (f j ≤ f i) → Dec (f j ≡ f i) → (j < i) ⊎ (i ≤ j) → order j i ≡ true
      go (inl l) d s = says_before (f j) j (f i) i (inl l)
      go (inr l) (yes q) (inl s) = says_before (f j) j (f i) i (inr (sym q, s))
      go (inr l) (yes q) (inr s) = absurd (true≢false (sym (says_before (f i) i (f j) j (inr (q, omega arith))) ∙ e))
      go (inr l) (no d) s = absurd (true≢false (sym (says_before (f i) i (f j) j (inl (omega arith))) ∙ e))

  strict : Strict order
  strict = record { itself = itself; either = either; through = through }

  -- just m of n clients have a rank below m
  pub clients_below : (n m : ℕ) → m ≤ n → count_below n (λ i. ltb (rank_of n f i) m) ≡ m
  unfolding rank_of
  clients_below n m h = ranks_below order strict n m h

  -- who comes before another has a lower rank
  pub ranked_less : (n i j : ℕ) → i < n → order i j ≡ true → rank_of n f i < rank_of n f j
  unfolding rank_of
  ranked_less n i j l e = rank_less order strict n i j l e

  pub ranked_larger : (n i j : ℕ) → i < n → f j < f i → rank_of n f i < rank_of n f j
  ranked_larger n i j l h = ranked_less n i j l (before_larger (f i) i (f j) j h)

  -- all remainders above another come before it
  pub rank_above : (n i : ℕ) (t : ℕ → Bool) → ((k : ℕ) → t k ≡ true → f i < f k) → count_below n t ≤ rank_of n f i
  unfolding rank_of
  rank_above n i t h = count_grows t (λ k. order k i) n (λ k p. before_larger (f k) k (f i) i (h k p))

  -- client j has client i's remainder and stands earlier
  abbrev tied : (i j : ℕ) → Bool
  tied i j = eqb (f i) (f j) && ltb j i

  at_least : (k i : ℕ) → order k i ≡ true → f i ≤ f k
  at_least k i e = ⊎_elim (λ u. omega arith) (λ u. omega arith) (before_says (f k) k (f i) i e)

  -- and of those that are at least as large all but itself may
  pub rank_under : (n i : ℕ) (t : ℕ → Bool) → i < n → ((k : ℕ) → f i ≤ f k → t k ≡ true) → rank_of n f i < count_below n t
  unfolding rank_of
  rank_under n i t l h = count_less (λ k. order k i) t n i l (λ k p. h k (at_least k i p)) (itself i) (h i (omega arith))

  -- a rank: how many remainders are larger, and how many earlier ones are equal
  pub rank_is : (n i : ℕ) → i ≤ n → rank_of n f i ≡ count_below n (λ j. ltb (f i) (f j)) + count_below i (λ j. eqb (f j) (f i))
  unfolding rank_of comes_before
  rank_is n i l =
      count_either (λ j. ltb (f i) (f j)) (tied i) n (λ j e. larger j (ltb-true (f i) (f j) e))
      ∙ ap (λ (c : ℕ). count_below n (λ j. ltb (f i) (f j)) + c) (count_skips (tied i) i n l later ∙ count_same (tied i) (λ j. eqb (f j) (f i)) i earlier)
    where
      larger : (j : ℕ) → f i < f j → tied i j ≡ false
      larger j h = rw (ne_eqb (f i) (f j) (λ q. omega arith))

      later : (j : ℕ) → i ≤ j → j < n → tied i j ≡ false
      later j h b = and_right (eqb (f i) (f j)) (ltb j i) (le-ltb j i h)

      earlier : (j : ℕ) → j < i → tied i j ≡ eqb (f j) (f i)
      earlier j h = go (ℕ_discrete (f j) (f i))
        where
          go : Dec (f j ≡ f i) → tied i j ≡ eqb (f j) (f i)
          go (yes q) = rw (eq-eqb (f i) (f j) (sym q), eq-eqb (f j) (f i) q, lt-ltb j i h)
          go (no d) = rw (ne_eqb (f i) (f j) (λ q. d (sym q)), ne_eqb (f j) (f i) d)

-- ranks are of the remainders alone
pub rank_same : (n : ℕ) (f g : ℕ → ℕ) → ((k : ℕ) → k < n → f k ≡ g k) → (i : ℕ) → i < n → rank_of n f i ≡ rank_of n g i
unfolding rank_of
rank_same n f g h i l =
    count_same (λ k. comes_before (f k) k (f i) i) (λ k. comes_before (g k) k (g i) i) n (λ k p. rw (h k p, h i l))
