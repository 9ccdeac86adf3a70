-- Sums, tests, counts and the first that passes, over the numbers below n, one number more. Assumes nothing.
use mathlib.Core.Path.{◌≡◌, refl, sym, ap, ◌∙◌}
use mathlib.Core.Bool.{Bool, true, false, ◌&&◌, ◌||◌}
use mathlib.Core.Logic.{◌⊎◌, inl, inr, ⊎_elim}
use Prim.Native.Nat.{ℕ, zero, suc, ◌+◌, ◌-◌, ◌*◌, ◌≤◌, ◌<◌, zero-le, suc-le-suc}
use native.Mathlib.Nat.{add-zero, add-suc, add-mul, add-le-add, sub-zero}
use native.Mathlib.Numerals.{add-one}
use native.Mathlib.Decide.{ℕ_discrete}
use native.Mathlib.Omega.{arith}
use lib.Dec.{ltb}
use borrow.Author.Tests.{lt-ltb, le-ltb}
use Rattle.types.specs.Base.{sum_below, all_below, any_below, count_below, to_nat, one_more, first_below}

-- ---- tests

pub lt_or_le : (a b : ℕ) → (a < b) ⊎ (b ≤ a)
lt_or_le zero zero = inr zero-le
lt_or_le zero (suc b) = inl (suc-le-suc zero-le)
lt_or_le (suc a) zero = inr zero-le
lt_or_le (suc a) (suc b) = ⊎_elim (λ p. inl (suc-le-suc p)) (λ q. inr (suc-le-suc q)) (lt_or_le a b)

-- two tests that follow from each other give the same
pub ltb_same : (a b c d : ℕ) → (a < b → c < d) → (c < d → a < b) → ltb a b ≡ ltb c d
ltb_same a b c d f g =
    ⊎_elim (λ l. lt-ltb a b l ∙ sym (lt-ltb c d (f l)))
    (λ l. le-ltb a b l ∙ sym (le-ltb c d (⊎_elim (λ k. absurd (let z = g k in omega arith)) (λ k. k) (lt_or_le c d))))
    (lt_or_le a b)

-- ---- and, or

pub and_left : (a b : Bool) → a ≡ false → (a && b) ≡ false
and_left a b e = rw e

pub and_right : (a b : Bool) → b ≡ false → (a && b) ≡ false
and_right true b e = e
and_right false b e = refl

pub and_both : (a b : Bool) → (a && b) ≡ true → (a ≡ true) × (b ≡ true)
and_both true b e = (refl, e)
and_both false b e = let z : false ≡ true = e in (z, cc)

or_left : (a b : Bool) → a ≡ true → (a || b) ≡ true
or_left a b e = rw e

or_right : (a b : Bool) → b ≡ true → (a || b) ≡ true
or_right true b e = refl
or_right false b e = e

or_false : (a b : Bool) → b ≡ false → (a || b) ≡ true → a ≡ true
or_false true b q e = refl
or_false false b q e = absurd (let z : false ≡ true = sym q ∙ e in cc)

-- ---- a sum

pub sum_none : (f : ℕ → ℕ) → 0 ≡ sum_below 0 f
unfolding sum_below
sum_none f = refl

pub sum_more : (f : ℕ → ℕ) (n : ℕ) → sum_below (n + 1) f ≡ sum_below n f + f n
unfolding sum_below
sum_more f n = rw (add-one n)

pub sum_same : (f g : ℕ → ℕ) (n : ℕ) → ((i : ℕ) → i < n → f i ≡ g i) → sum_below n f ≡ sum_below n g
unfolding sum_below
sum_same f g zero h = refl
sum_same f g (suc n) h = rw (sum_same f g n (λ i l. h i (omega arith)), h n (omega arith))

-- sums only grow
pub sum_grows : (f : ℕ → ℕ) (m n : ℕ) → m ≤ n → sum_below m f ≤ sum_below n f
unfolding sum_below
sum_grows f m zero h = let q : m ≡ 0 = omega arith in omega (arith, ap (λ (k : ℕ). sum_below k f) q)
sum_grows f m (suc n) h = go (ℕ_discrete m (suc n)) (λ l. sum_grows f m n l)
  where
    go : Dec (m ≡ suc n) → (m ≤ n → sum_below m f ≤ sum_below n f) → sum_below m f ≤ sum_below n f + f n
    go (yes q) r = omega (arith, ap (λ (k : ℕ). sum_below k f) q)
    go (no q) r = omega (arith, r (omega arith))

-- terms that are 0 add nothing
pub sum_skips : (f : ℕ → ℕ) (m n : ℕ) → m ≤ n → ((i : ℕ) → m ≤ i → i < n → f i ≡ 0) → sum_below n f ≡ sum_below m f
unfolding sum_below
sum_skips f m zero h e = let q : 0 ≡ m = omega arith in ap (λ (k : ℕ). sum_below k f) q
sum_skips f m (suc n) h e = go (ℕ_discrete m (suc n)) (λ l. sum_skips f m n l (λ i a b. e i a (omega arith)))
  where
    go : Dec (m ≡ suc n) → (m ≤ n → sum_below n f ≡ sum_below m f) → sum_below n f + f n ≡ sum_below m f
    go (yes q) r = sym (ap (λ (k : ℕ). sum_below k f) q)
    go (no q) r = omega (arith, r (omega arith), e n (omega arith) (omega arith))

-- the first m terms, then the others
pub sum_after : (f : ℕ → ℕ) (m n : ℕ) → sum_below (m + n) f ≡ sum_below m f + sum_below n (λ i. f (m + i))
unfolding sum_below
sum_after f m zero = rw (add-zero m) (sym (add-zero (sum_below m f)))
sum_after f m (suc n) = rw (add-suc m n) (omega (arith, sum_after f m n))

pub sum_le : (f g : ℕ → ℕ) (n : ℕ) → ((i : ℕ) → i < n → f i ≤ g i) → sum_below n f ≤ sum_below n g
unfolding sum_below
sum_le f g zero h = omega arith
sum_le f g (suc n) h = omega (arith, sum_le f g n (λ i l. h i (omega arith)), h n (omega arith))

-- two sums of the same numbers
pub sums_le : (f g h : ℕ → ℕ) (n : ℕ) → ((i : ℕ) → i < n → f i + g i ≤ h i) → sum_below n f + sum_below n g ≤ sum_below n h
unfolding sum_below
sums_le f g h zero e = omega arith
sums_le f g h (suc n) e = omega (arith, sums_le f g h n (λ i l. e i (omega arith)), e n (omega arith))

-- what bounds each term bounds the sum
pub sum_scaled : (c y : ℕ) (f g : ℕ → ℕ) (n : ℕ) → ((i : ℕ) → i < n → c * f i ≤ y * g i) → c * sum_below n f ≤ y * sum_below n g
unfolding sum_below
sum_scaled c y f g zero h = omega arith
sum_scaled c y f g (suc n) h = omega (arith, sum_scaled c y f g n (λ i l. h i (omega arith)), h n (omega arith))

-- one term is at most the whole
pub sum_term : (f : ℕ → ℕ) (n i : ℕ) → i < n → f i ≤ sum_below n f
unfolding sum_below
sum_term f zero i l = absurd (omega arith)
sum_term f (suc n) i l = go (ℕ_discrete i n) (sum_term f n i)
  where
    go : Dec (i ≡ n) → (i < n → f i ≤ sum_below n f) → f i ≤ sum_below n f + f n
    go (yes q) r = omega (arith, ap f q)
    go (no q) r = omega (arith, r (omega arith))

-- the last m terms, counted down, and the others in front of them
pub sum_down : (f : ℕ → ℕ) (m n : ℕ) → m ≤ n → sum_below m (λ k. f (n - 1 - k)) + sum_below (n - m) f ≡ sum_below n f
unfolding sum_below
sum_down f zero n l = omega (arith, ap (λ (k : ℕ). sum_below k f) (sub-zero n))
sum_down f (suc m) n l =
    let q : n - m ≡ suc (n - suc m) = omega arith in
    let p : n - 1 - m ≡ n - suc m = omega arith in
    omega (arith, sum_down f m n (omega arith), ap (λ (k : ℕ). sum_below k f) q, ap f p)

-- ---- a test of every number

module _ (f : ℕ → Bool) where
  pub all_none : all_below 0 f ≡ true
  unfolding all_below
  all_none = refl

  pub all_more : (n : ℕ) → all_below n f ≡ true → f n ≡ true → all_below (n + 1) f ≡ true
  unfolding all_below
  all_more n h e = rw (add-one n, h, e)

  pub all_each : (n : ℕ) → ((i : ℕ) → i < n → f i ≡ true) → all_below n f ≡ true
  unfolding all_below
  all_each zero h = refl
  all_each (suc n) h = rw (all_each n (λ i l. h i (omega arith)), h n (omega arith))

  pub all_not : (n i : ℕ) → i < n → f i ≡ false → all_below n f ≡ false
  unfolding all_below
  all_not zero i l e = absurd (omega arith)
  all_not (suc n) i l e = go (ℕ_discrete i n) (λ k. all_not n i k e)
    where
      go : Dec (i ≡ n) → (i < n → all_below n f ≡ false) → (all_below n f && f n) ≡ false
      go (yes q) r = and_right (all_below n f) (f n) (ap f (sym q) ∙ e)
      go (no q) r = and_left (all_below n f) (f n) (r (omega arith))

  pub all_at : (n i : ℕ) → i < n → all_below n f ≡ true → f i ≡ true
  unfolding all_below
  all_at zero i l e = absurd (omega arith)
  all_at (suc n) i l e = go (ℕ_discrete i n) (λ k. all_at n i k (and_both (all_below n f) (f n) e).0)
    where
      go : Dec (i ≡ n) → (i < n → f i ≡ true) → f i ≡ true
      go (yes q) r = ap f q ∙ (and_both (all_below n f) (f n) e).1
      go (no q) r = r (omega arith)

pub all_same : (f g : ℕ → Bool) (n : ℕ) → ((i : ℕ) → i < n → f i ≡ g i) → all_below n f ≡ all_below n g
unfolding all_below
all_same f g zero h = refl
all_same f g (suc n) h = rw (all_same f g n (λ i l. h i (omega arith)), h n (omega arith))

-- ---- a test of some number

module _ (f : ℕ → Bool) where
  pub any_at : (n i : ℕ) → i < n → f i ≡ true → any_below n f ≡ true
  unfolding any_below
  any_at zero i l e = absurd (omega arith)
  any_at (suc n) i l e = go (ℕ_discrete i n) (λ k. any_at n i k e)
    where
      go : Dec (i ≡ n) → (i < n → any_below n f ≡ true) → (any_below n f || f n) ≡ true
      go (yes q) r = or_right (any_below n f) (f n) (ap f (sym q) ∙ e)
      go (no q) r = or_left (any_below n f) (f n) (r (omega arith))

pub any_same : (f g : ℕ → Bool) (n : ℕ) → ((i : ℕ) → i < n → f i ≡ g i) → any_below n f ≡ any_below n g
unfolding any_below
any_same f g zero h = refl
any_same f g (suc n) h = rw (any_same f g n (λ i l. h i (omega arith)), h n (omega arith))

-- the number that a test holds of
pub any_found : (f : ℕ → Bool) (n : ℕ) → any_below n f ≡ true → (i : ℕ) × (i < n) × (f i ≡ true)
unfolding any_below
any_found f zero e = absurd cc
any_found f (suc n) e = go (f n) refl (any_found f n)
  where
    go : (t : Bool) → f n ≡ t → (any_below n f ≡ true → (i : ℕ) × (i < n) × (f i ≡ true)) → (i : ℕ) × (i < suc n) × (f i ≡ true)
    go true q r = (n, omega arith, q)
    go false q r =
        let x : (i : ℕ) × (i < n) × (f i ≡ true) = r (or_false (any_below n f) (f n) q e) in
        (x.0, omega (arith, x.1), x.2)

-- ---- a count

pub count_none : (f : ℕ → Bool) → count_below 0 f ≡ 0
unfolding count_below
count_none f = refl

pub count_more : (f : ℕ → Bool) (n : ℕ) → count_below (suc n) f ≡ count_below n f + to_nat (f n)
unfolding count_below
count_more f n = refl

-- tests that agree have the same count
pub count_same : (f g : ℕ → Bool) (n : ℕ) → ((i : ℕ) → i < n → f i ≡ g i) → count_below n f ≡ count_below n g
unfolding count_below
count_same f g zero h = refl
count_same f g (suc n) h = rw (count_same f g n (λ i l. h i (omega arith)), h n (omega arith))

pub count_le : (f : ℕ → Bool) (n : ℕ) → count_below n f ≤ n
unfolding count_below
count_le f zero = omega arith
count_le f (suc n) = go (f n) (count_le f n)
  where
    go : (t : Bool) → count_below n f ≤ n → count_below n f + to_nat t ≤ suc n
    go true h = omega arith
    go false h = omega arith

pub count_each : (f : ℕ → Bool) (n : ℕ) → ((i : ℕ) → i < n → f i ≡ true) → count_below n f ≡ n
unfolding count_below
count_each f zero h = refl
count_each f (suc n) h = rw (count_each f n (λ i l. h i (omega arith)), h n (omega arith)) (omega arith)

-- a count is a sum of ones
count_sum : (f : ℕ → Bool) (n : ℕ) → count_below n f ≡ sum_below n (λ i. to_nat (f i))
unfolding sum_below count_below
count_sum f zero = refl
count_sum f (suc n) = rw (count_sum f n)

pub to_nat_le : (a b : Bool) → (a ≡ true → b ≡ true) → to_nat a ≤ to_nat b
to_nat_le true b h = rw (h refl) (omega arith)
to_nat_le false b h = zero-le

-- a test that passes wherever another does counts as many
pub count_grows : (f g : ℕ → Bool) (n : ℕ) → ((i : ℕ) → f i ≡ true → g i ≡ true) → count_below n f ≤ count_below n g
unfolding count_below
count_grows f g zero h = omega arith
count_grows f g (suc n) h = omega (arith, count_grows f g n h, to_nat_le (f n) (g n) (h n))

-- and more, if it passes once where the other fails
pub count_less : (f g : ℕ → Bool) (n m : ℕ) → m < n → ((i : ℕ) → f i ≡ true → g i ≡ true) → f m ≡ false → g m ≡ true
    → count_below n f < count_below n g
unfolding count_below
count_less f g zero m l h e d = absurd (omega arith)
count_less f g (suc n) m l h e d = go (ℕ_discrete m n) (λ k. count_less f g n m k h e d)
  where
    go : Dec (m ≡ n) → (m < n → count_below n f < count_below n g) → count_below n f + to_nat (f n) < count_below n g + to_nat (g n)
    go (yes q) r = omega (arith, count_grows f g n h, ap to_nat (ap f (sym q) ∙ e), ap to_nat (ap g (sym q) ∙ d))
    go (no q) r = omega (arith, r (omega arith), to_nat_le (f n) (g n) (h n))

-- two tests of which never both pass
pub count_either : (f g : ℕ → Bool) (n : ℕ) → ((i : ℕ) → f i ≡ true → g i ≡ false) → count_below n (λ i. f i || g i) ≡ count_below n f + count_below n g
unfolding count_below
count_either f g zero h = refl
count_either f g (suc n) h = omega (arith, count_either f g n h, one (f n) (h n))
  where
    one : (t : Bool) → (t ≡ true → g n ≡ false) → to_nat (t || g n) ≡ to_nat t + to_nat (g n)
    one true k = omega (arith, ap to_nat (k refl))
    one false k = omega arith

-- the first, then the others
pub count_front : (f : ℕ → Bool) (n : ℕ) → count_below (suc n) f ≡ to_nat (f 0) + count_below n (λ i. f (suc i))
unfolding count_below
count_front f zero = omega arith
count_front f (suc n) = omega (arith, count_front f n)

-- terms with a unit more where a test passes
pub sum_units : (f : ℕ → ℕ) (t : ℕ → Bool) (n : ℕ) → sum_below n (λ k. f k + to_nat (t k)) ≡ sum_below n f + count_below n t
unfolding sum_below count_below
sum_units f t zero = refl
sum_units f t (suc n) = omega (arith, sum_units f t n)

-- numbers that fail the test are not counted
pub count_skips : (f : ℕ → Bool) (m n : ℕ) → m ≤ n → ((i : ℕ) → m ≤ i → i < n → f i ≡ false) → count_below n f ≡ count_below m f
count_skips f m n h e = count_sum f n ∙ sum_skips (λ i. to_nat (f i)) m n h (λ i a b. ap to_nat (e i a b)) ∙ sym (count_sum f m)

-- terms of at most m each, and nothing where a test fails
pub sum_counted : (f : ℕ → ℕ) (t : ℕ → Bool) (m n : ℕ) → ((i : ℕ) → f i ≤ to_nat (t i) * m) → sum_below n f ≤ count_below n t * m
unfolding sum_below count_below
sum_counted f t m zero h = omega arith
sum_counted f t m (suc n) h = rw (add-mul (count_below n t) (to_nat (t n)) m) (add-le-add (sum_counted f t m n h) (h n))

-- ---- the first

-- no number below n passes the test; what a loop that looks for the first keeps
pub record NoneBelow (f : ℕ → Bool) (n : ℕ) : Type 0 where
  pub none : (i : ℕ) → i < n → f i ≡ false

pub none_start : (f : ℕ → Bool) → NoneBelow f 0
none_start f = record { none = λ i l. absurd (omega arith) }

pub none_more : (f : ℕ → Bool) (n : ℕ) → NoneBelow f n → f n ≡ false → NoneBelow f (n + 1)
none_more f n h e = record { none = λ i l. go i (ℕ_discrete i n) l }
  where
    go : (i : ℕ) → Dec (i ≡ n) → i < n + 1 → f i ≡ false
    go i (yes q) l = ap f q ∙ e
    go i (no q) l = h.none i (omega arith)

pub first_at : (n i : ℕ) (f : ℕ → Bool) → i < n → NoneBelow f i → f i ≡ true → i ≡ first_below n f
unfolding first_below
first_at zero i f l h t = absurd (omega arith)
first_at (suc n) zero f l h t = rw t
first_at (suc n) (suc i) f l h t =
    rw (h.none 0 (omega arith)) (ap suc (first_at n i (λ j. f (suc j)) (omega arith) (record { none = λ j k. h.none (suc j) (omega arith) }) t))

pub first_none : (n : ℕ) (f : ℕ → Bool) → NoneBelow f n → n ≡ first_below n f
unfolding first_below
first_none zero f h = refl
first_none (suc n) f h = rw (h.none 0 (omega arith)) (ap suc (first_none n (λ j. f (suc j)) (record { none = λ j k. h.none (suc j) (omega arith) })))

pub first_le : (n : ℕ) (f : ℕ → Bool) → first_below n f ≤ n
unfolding first_below
first_le zero f = omega arith
first_le (suc n) f = go (f 0) (first_le n (λ i. f (suc i)))
  where
    go : (t : Bool) → first_below n (λ i. f (suc i)) ≤ n → one_more t (first_below n (λ i. f (suc i))) ≤ suc n
    go true h = omega arith
    go false h = omega arith

pub first_before_law : (n i : ℕ) (f : ℕ → Bool) → i < first_below n f → f i ≡ false
unfolding first_below
first_before_law zero i f l = absurd (omega arith)
first_before_law (suc n) i f l = go i (f 0) refl l (λ j b. first_before_law n j (λ i. f (suc i)) b)
  where
    go : (i : ℕ) (t : Bool) → f 0 ≡ t → i < one_more t (first_below n (λ i. f (suc i)))
        → ((j : ℕ) → j < first_below n (λ i. f (suc i)) → f (suc j) ≡ false) → f i ≡ false
    go i true e l r = absurd (omega arith)
    go zero false e l r = e
    go (suc i) false e l r = r i (omega arith)

pub first_found : (n : ℕ) (f : ℕ → Bool) → first_below n f < n → f (first_below n f) ≡ true
unfolding first_below
first_found zero f l = absurd (omega arith)
first_found (suc n) f l = go (f 0) refl l (first_found n (λ i. f (suc i)))
  where
    go : (t : Bool) → f 0 ≡ t → one_more t (first_below n (λ i. f (suc i))) < suc n
        → (first_below n (λ i. f (suc i)) < n → f (suc (first_below n (λ i. f (suc i)))) ≡ true) → f (one_more t (first_below n (λ i. f (suc i)))) ≡ true
    go true e b h = e
    go false e b h = h (omega arith)

pub first_same : (n : ℕ) (f g : ℕ → Bool) → ((i : ℕ) → i < n → f i ≡ g i) → first_below n f ≡ first_below n g
unfolding first_below
first_same zero f g h = refl
first_same (suc n) f g h = rw (h 0 (omega arith), first_same n (λ i. f (suc i)) (λ i. g (suc i)) (λ i l. h (suc i) (omega arith)))

-- the first number that passes a test is past those that fail it
pub first_past : (n m : ℕ) (f : ℕ → Bool) → m ≤ n → NoneBelow f m → m ≤ first_below n f
unfolding first_below
first_past n zero f l h = zero-le
first_past zero (suc m) f l h = absurd (omega arith)
first_past (suc n) (suc m) f l h =
    rw (h.none 0 (omega arith)) (suc-le-suc (first_past n m (λ j. f (suc j)) (omega arith) (record { none = λ j k. h.none (suc j) (omega arith) })))
