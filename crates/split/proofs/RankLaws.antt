-- The ranks of n clients in a strict order: just as many are below m as m says. Assumes nothing.
use mathlib.Core.Path.{◌≡◌, refl, sym, ap, ◌∙◌}
use mathlib.Core.Logic.{◌≢◌, ◌⊎◌, inl, inr}
use mathlib.Core.Bool.{Bool, true, false, true≢false}
use Prim.Native.Nat.{ℕ, zero, suc, ◌+◌, ◌≤◌, ◌<◌}
use native.Mathlib.Omega.{arith}
use lib.Dec.{ltb}
use borrow.Author.Tests.{lt-ltb, le-ltb}
use Rattle.types.specs.Base.{count_below, to_nat}
use Rattle.types.proofs.Below.{lt_or_le, ltb_same, count_same, count_le, count_grows, count_less}

-- a rank r that moves up by d where it is p or higher: m is passed as before, where m is no higher than p, and one later, where it is
moved_low : (r d p m : ℕ) → m ≤ p → ((d ≡ 0) × (r < p)) ⊎ ((d ≡ 1) × (p ≤ r)) → ltb (r + d) m ≡ ltb r m
moved_low r d p m h (inl w) = ltb_same (r + d) m r m (λ q. omega arith) (λ q. omega arith)
moved_low r d p m h (inr w) = ltb_same (r + d) m r m (λ q. omega arith) (λ q. omega arith)

moved_high : (r d p m : ℕ) → p ≤ m → ((d ≡ 0) × (r < p)) ⊎ ((d ≡ 1) × (p ≤ r)) → ltb (r + d) (suc m) ≡ ltb r m
moved_high r d p m h (inl w) = ltb_same (r + d) (suc m) r m (λ q. omega arith) (λ q. omega arith)
moved_high r d p m h (inr w) = ltb_same (r + d) (suc m) r m (λ q. omega arith) (λ q. omega arith)

-- no client comes before itself, of two one comes before the other, and what comes before goes through
pub record Strict (b : ℕ → ℕ → Bool) : Type 0 where
  pub itself : (i : ℕ) → b i i ≡ false
  pub either : (i j : ℕ) → i ≢ j → b i j ≡ false → b j i ≡ true
  pub through : (i j k : ℕ) → b i j ≡ true → b j k ≡ true → b i k ≡ true

module _ (b : ℕ → ℕ → Bool) (s : Strict b) where
  abbrev ahead : ℕ → ℕ → ℕ
  ahead n i = count_below n (λ j. b j i)

  not_back : (i j : ℕ) → b i j ≡ true → b j i ≡ false
  not_back i j e = go (b j i) (λ q. true≢false (sym (s.through i j i e q) ∙ s.itself i))
    where
      go : (t : Bool) → (t ≡ true → ⊥) → t ≡ false
      go true h = absurd (h refl)
      go false h = refl

  -- one client more, n: it moves those behind it up by one, and they are the ones that had its rank or a higher one
  moved : (n i : ℕ) → i < n → ((to_nat (b n i) ≡ 0) × (ahead n i < ahead n n)) ⊎ ((to_nat (b n i) ≡ 1) × (ahead n n ≤ ahead n i))
  moved n i l = go (b i n) refl
    where
      go : (t : Bool) → b i n ≡ t → ((to_nat (b n i) ≡ 0) × (ahead n i < ahead n n)) ⊎ ((to_nat (b n i) ≡ 1) × (ahead n n ≤ ahead n i))
      go true e = inl (ap to_nat (not_back i n e), count_less (λ j. b j i) (λ j. b j n) n i l (λ j p. s.through j i n p e) (s.itself i) e)
      go false e =
          let back : b n i ≡ true = s.either i n (λ q. omega arith) e in
          inr (ap to_nat back, count_grows (λ j. b j n) (λ j. b j i) n (λ j p. s.through j n i p back))

  -- just m of n clients have a rank below m
  pub ranks_below : (n m : ℕ) → m ≤ n → count_below n (λ i. ltb (ahead n i) m) ≡ m
  unfolding count_below
  ranks_below zero m h = omega arith
  ranks_below (suc n) m h = go m h (lt_or_le (ahead n n) m) (ranks_below n)
    where
      go : (m : ℕ) → m ≤ suc n → (ahead n n < m) ⊎ (m ≤ ahead n n) → ((k : ℕ) → k ≤ n → count_below n (λ i. ltb (ahead n i) k) ≡ k)
          → count_below n (λ i. ltb (ahead (suc n) i) m) + to_nat (ltb (ahead n n + to_nat (b n n)) m) ≡ m
      go zero h (inl l) r = absurd (omega arith)
      go (suc m) h (inl l) r =
          let own : ltb (ahead n n + to_nat (b n n)) (suc m) ≡ true = lt-ltb (ahead n n + to_nat (b n n)) (suc m) (omega (arith, ap to_nat (s.itself n))) in
          let same = count_same (λ i. ltb (ahead (suc n) i) (suc m)) (λ i. ltb (ahead n i) m) n
          (λ i k. moved_high (ahead n i) (to_nat (b n i)) (ahead n n) m (omega arith) (moved n i k)) in
          omega (arith, same, r m (omega arith), ap to_nat own)
      go m h (inr l) r =
          let own : ltb (ahead n n + to_nat (b n n)) m ≡ false = le-ltb (ahead n n + to_nat (b n n)) m (omega arith) in
          let same = count_same (λ i. ltb (ahead (suc n) i) m) (λ i. ltb (ahead n i) m) n
          (λ i k. moved_low (ahead n i) (to_nat (b n i)) (ahead n n) m l (moved n i k)) in
          omega (arith, same, r m (omega (arith, count_le (λ j. b j n) n)), ap to_nat own)

  -- who comes before another has a lower rank
  pub rank_less : (n i j : ℕ) → i < n → b i j ≡ true → ahead n i < ahead n j
  rank_less n i j l e = count_less (λ k. b k i) (λ k. b k j) n i l (λ k p. s.through k i j p e) (s.itself i) e
