-- Laws of looking a key up: one for each way that the search goes, and what the row says. Assumes nothing.
use mathlib.Core.Path.{◌≡◌, refl, sym, ap, subst, ◌∙◌}
use mathlib.Core.Bool.{Bool, true, false}
use mathlib.Core.List.{List}
use Prim.Native.Nat.{ℕ, zero, suc, ◌+◌, ◌-◌, ◌*◌, ◌/◌, ◌<◌, ◌≤◌}
use native.Mathlib.Nat.{add-zero, zero-add}
use native.Mathlib.Decide.{ℕ_discrete}
use native.Mathlib.Omega.{arith}
use lib.Dec.{ltb, eqb}
use lib.ListN.{get_or}
use borrow.Author.Tests.{eq-eqb, ne_eqb, ltb-true, ltb-false, eqb-true, eqb-false}
use Rattle.std.specs.Prelude.{Option, Some, None, IfSome, if◌then◌else◌}
use Rattle.std.specs.Option.{unwrap_or}
use Rattle.types.specs.Base.{word}
use Rattle.publisher_caps.specs.Key.{number_by}
use Rattle.publisher_caps.specs.declared.key.KeyNumber.{KeyNumber}
use Rattle.publisher_caps.specs.Message.{rows_of, key_at, cap_at, Whole}
use Rattle.publisher_caps.specs.Lookup.{lookup, AboveFront, BelowRest, Encloses, cap_in, cap_of}
use Rattle.publisher_caps.proofs.KeyLaws.{bytes_below, less_0}

suc_add : (a b : ℕ) → suc a + b ≡ suc (a + b)
suc_add a b = omega arith

-- ---- rows without the key

module _ (m : List ℕ) (key : ℕ) where
  -- none of `rows` rows from `from` on has the key
  abbrev pub Without : (from rows : ℕ) → Type 0
  Without from rows = (i : ℕ) → from ≤ i → i < from + rows → key_at m i ≡ key → ⊥

  pub lookup_without : (from rows : ℕ) → Without from rows → lookup m key from rows ≡ None
  unfolding lookup
  lookup_without from zero w = refl
  lookup_without from (suc rows) w =
      rw (ne_eqb (key_at m from) key (w from (omega arith) (omega arith))) (lookup_without (from + 1) rows (λ i a b. w i (omega arith) (omega arith)))

  -- rows in front that do not have it
  skip : (n from rows : ℕ) → Without from n → lookup m key (from + n) rows ≡ lookup m key from (n + rows)
  unfolding lookup
  skip zero from rows w = rw (add-zero from, zero-add rows)
  skip (suc n) from rows w =
      rw (suc_add n rows, ne_eqb (key_at m from) key (w from (omega arith) (omega arith)))
      (ap (λ (a : ℕ). lookup m key a rows) (along from n) ∙ skip n (from + 1) rows (λ i a b. w i (omega arith) (omega arith)))
    where
      along : (a b : ℕ) → a + suc b ≡ a + 1 + b
      along a b = omega arith

  -- rows behind that do not have it
  cut : (n from rows : ℕ) → Without (from + n) rows → lookup m key from n ≡ lookup m key from (n + rows)
  unfolding lookup
  cut zero from rows w = sym (rw (zero-add rows) (lookup_without from rows (λ i a b. w i (omega arith) (omega arith))))
  cut (suc n) from rows w = rw (suc_add n rows) (go (eqb (key_at m from) key) (cut n (from + 1) rows (λ i a b. w i (omega arith) (omega arith))))
    where
      go : (t : Bool) → lookup m key (from + 1) n ≡ lookup m key (from + 1) (n + rows)
          → (if t then Some from else lookup m key (from + 1) n) ≡ (if t then Some from else lookup m key (from + 1) (n + rows))
      go true e = refl
      go false e = e

  -- the first row has it
  first : (from rows : ℕ) → 0 < rows → key ≡ key_at m from → Some from ≡ lookup m key from rows
  unfolding lookup
  first from zero h e = absurd (omega arith)
  first from (suc rows) h e = rw (eq-eqb (key_at m from) key (sym e))

-- ---- the search

module _ (m : List ℕ) (whole : Whole m) where
  -- later keys are not smaller
  keys_rise : (i j : ℕ) → i ≤ j → j < rows_of m → key_at m i ≤ key_at m j
  keys_rise i j ij jr = go (ℕ_discrete i j)
    where
      go : Dec (i ≡ j) → key_at m i ≤ key_at m j
      go (yes e) = omega (arith, ap (key_at m) e)
      go (no ne) = omega (arith, whole.ordered i j (omega arith) (omega arith))

-- its answer, a number: no message has a row 1,024
abbrev pub or_none : Option ℕ → ℕ
or_none r = unwrap_or r 1_024

module _ (m : List ℕ) (whole : Whole m) (from rows key : ℕ) (within : from + rows ≤ rows_of m) where
  pub search_none : rows ≡ 0 → None ≡ lookup m key from rows
  search_none e = sym (lookup_without m key from rows (λ i a b. absurd (omega arith)))

  pub search_low : (rows ≡ 0 → ⊥) → key < key_at m (from + rows / 2) → lookup m key from (rows / 2) ≡ lookup m key from rows
  search_low pos l =
      cut m key (rows / 2) from (rows - rows / 2) (λ i a b q. omega (arith, keys_rise m whole (from + rows / 2) i a (omega arith)))
      ∙ ap (λ (n : ℕ). lookup m key from n) (omega arith)

  pub search_here : (n : ℕ) → n ≡ from + rows / 2 → (rows ≡ 0 → ⊥) → key ≡ key_at m (from + rows / 2) → Some n ≡ lookup m key from rows
  search_here n q pos e =
      ap Some q
      ∙ first m key (from + rows / 2) (rows - rows / 2) (omega arith) e
      ∙ skip m key (rows / 2) from (rows - rows / 2) (λ i a b z. omega (arith, whole.ordered i (from + rows / 2) b (omega arith)))
      ∙ ap (λ (n : ℕ). lookup m key from n) (omega arith)

  pub search_high : (rows ≡ 0 → ⊥) → key_at m (from + rows / 2) < key
      → lookup m key (from + rows / 2 + 1) (rows - rows / 2 - 1) ≡ lookup m key from rows
  search_high pos l =
      ap (λ (n : ℕ). lookup m key n (rows - rows / 2 - 1)) (along from (rows / 2))
      ∙ skip m key (rows / 2 + 1) from (rows - rows / 2 - 1) (λ i a b q. omega (arith, keys_rise m whole i (from + rows / 2) (omega arith) (omega arith)))
      ∙ ap (λ (n : ℕ). lookup m key from n) (omega arith)
    where
      along : (a b : ℕ) → a + b + 1 ≡ a + (b + 1)
      along a b = omega arith

-- ---- rows that a key can stand in alone

module _ (m : List ℕ) (whole : Whole m) where
  pub above_front : (low first rows : ℕ) (k : KeyNumber) → (low ≡ 0 → ⊥) → low ≤ rows → rows ≡ rows_of m → number_by k ≡ key_at m (low - 1)
      → k.1 < word → k.2 < word → k.3 < word → k.0 < first → AboveFront m low first
  above_front low first rows k pos le er e f1 f2 f3 h i b c d l =
      omega (arith, keys_rise m whole i (low - 1) (omega arith) (omega arith), e, less_0 k.0 k.1 k.2 k.3 first b c d h f1 f2 f3)

  pub below_rest : (high first : ℕ) (k : KeyNumber) → number_by k ≡ key_at m high → first < k.0 → BelowRest m high first
  below_rest high first k e h i b c d l n fb fc fd =
      omega (arith, keys_rise m whole high i l n, e, less_0 first b c d k.0 k.1 k.2 k.3 h fb fc fd)

  -- the search among them is one among all
  pub enclosed : (low high rows : ℕ) (k : KeyNumber) → Encloses m low high k.0 → k.1 < word → k.2 < word → k.3 < word → rows ≡ rows_of m
      → lookup m (number_by k) low (high - low) ≡ lookup m (number_by k) 0 rows
  enclosed low high rows k only f1 f2 f3 er =
      let o = only.order in
      let w = only.within in
      cut m (number_by k) (high - low) low (rows - high) (λ i a b q. omega (arith, only.below i k.1 k.2 k.3 (omega arith) (omega arith) f1 f2 f3))
      ∙ ap (λ (n : ℕ). lookup m (number_by k) n (high - low + (rows - high))) (sym (zero-add low))
      ∙ skip m (number_by k) low 0 (high - low + (rows - high)) (λ i a b q. omega (arith, only.above i k.1 k.2 k.3 (omega arith)))
      ∙ ap (λ (n : ℕ). lookup m (number_by k) 0 n) (omega arith)

-- ---- what a lookup's answer says

-- the row has the key; without one no row has it
abbrev pub Sought : List ℕ → (key from rows : ℕ) → Option ℕ → Type 0
Sought m key from rows (Some i) = (from ≤ i) × (i < from + rows) × (key_at m i ≡ key)
Sought m key from rows None = Without m key from rows

module _ (m : List ℕ) (key : ℕ) where
  looked : (from rows : ℕ) → Sought m key from rows (lookup m key from rows)
  unfolding lookup
  looked from zero = λ i a b e. omega arith
  looked from (suc rows) = go (eqb (key_at m from) key) refl (looked (from + 1) rows)
    where
      later : (r : Option ℕ) → (key_at m from ≡ key → ⊥) → Sought m key (from + 1) rows r → Sought m key from (suc rows) r
      later (Some i) ne s = (omega arith, omega arith, s.2)
      later None ne s = λ i a b e. other i a b e (ℕ_discrete i from)
        where
          other : (i : ℕ) → from ≤ i → i < from + suc rows → key_at m i ≡ key → Dec (i ≡ from) → ⊥
          other i a b e (yes q) = ne (ap (key_at m) (sym q) ∙ e)
          other i a b e (no nq) = s i (omega arith) (omega arith) e

      go : (t : Bool) → eqb (key_at m from) key ≡ t → Sought m key (from + 1) rows (lookup m key (from + 1) rows)
          → Sought m key from (suc rows) (if t then Some from else lookup m key (from + 1) rows)
      go true e s = (omega arith, omega arith, eqb-true (key_at m from) key e)
      go false e s = later (lookup m key (from + 1) rows) (eqb-false (key_at m from) key e) s

  pub lookup_says : (rows : ℕ) (r : Option ℕ) → r ≡ lookup m key 0 rows → Sought m key 0 rows r
  lookup_says rows r e = subst (Sought m key 0 rows) (sym e) (looked 0 rows)

  -- a row that is found is one of the rows, and has the key
  pub lookup_in : (rows : ℕ) (r : Option ℕ) → r ≡ lookup m key 0 rows → IfSome r (λ i. i < rows)
  lookup_in rows (Some i) e = omega (arith, lookup_says rows (Some i) e)
  lookup_in rows None e = tt

  pub lookup_inside : (rows : ℕ) (r : Option ℕ) → rows ≡ rows_of m → r ≡ lookup m key 0 rows → IfSome r (λ i. i < rows_of m)
  lookup_inside rows r q e = subst (λ (n : ℕ). IfSome r (λ i. i < n)) q (lookup_in rows r e)

  pub lookup_key : (rows i : ℕ) → Some i ≡ lookup m key 0 rows → key_at m i ≡ key
  lookup_key rows i e = (lookup_says rows (Some i) e).2

-- what the search's number says
module _ (m : List ℕ) (key rows : ℕ) (few : rows ≤ 1_024) where
  inside : (r : Option ℕ) → r ≡ lookup m key 0 rows → or_none r ≡ 1_024 → r ≡ None
  inside None e h = refl
  inside (Some i) e h = absurd (omega (arith, lookup_in m key rows (Some i) e))

  told : (r : Option ℕ) → (or_none r ≡ 1_024 → ⊥) → Some (or_none r) ≡ r
  told None ne = absurd (ne refl)
  told (Some i) ne = refl

  pub none_told : (n : ℕ) → n ≡ or_none (lookup m key 0 rows) → n ≡ 1_024 → None ≡ lookup m key 0 rows
  none_told n e h = sym (inside (lookup m key 0 rows) refl (sym e ∙ h))

  pub row_told : (n : ℕ) → n ≡ or_none (lookup m key 0 rows) → (n ≡ 1_024 → ⊥) → Some n ≡ lookup m key 0 rows
  row_told n e ne = ap Some e ∙ told (lookup m key 0 rows) (λ h. ne (e ∙ h))

-- ---- rows of a whole message

module _ (m : List ℕ) (whole : Whole m) where
  -- two rows with the same key are one
  pub rows_same : (i j : ℕ) → i < rows_of m → j < rows_of m → key_at m i ≡ key_at m j → i ≡ j
  rows_same i j hi hj e = go (ltb i j) (ltb j i) refl refl
    where
      go : (a b : Bool) → ltb i j ≡ a → ltb j i ≡ b → i ≡ j
      go true b p q = absurd (omega (arith, whole.ordered i j (ltb-true i j p) hj))
      go false true p q = absurd (omega (arith, whole.ordered j i (ltb-true j i q) hi))
      go false false p q = omega (arith, ltb-false i j p, ltb-false j i q)

  -- the row of row i's own key is row i
  pub lookup_own : (i : ℕ) → i < rows_of m → lookup m (key_at m i) 0 (rows_of m) ≡ Some i
  lookup_own i h =
      sym (first m (key_at m i) i (rows_of m - i) (omega arith) refl
      ∙ ap (λ (n : ℕ). lookup m (key_at m i) n (rows_of m - i)) (sym (zero-add i))
      ∙ skip m (key_at m i) i 0 (rows_of m - i) (λ j a b e. omega (arith, whole.ordered j i (omega arith) h))
      ∙ ap (λ (n : ℕ). lookup m (key_at m i) 0 n) (omega arith))

  pub cap_own : (i : ℕ) → i < rows_of m → cap_of m (rows_of m) (key_at m i) ≡ cap_at m i
  unfolding cap_of
  cap_own i h = ap (cap_in m) (lookup_own i h)

-- ---- caps

module _ (m : List ℕ) where
  pub cap_found : (rows key : ℕ) (r : Option ℕ) → r ≡ lookup m key 0 rows → cap_in m r ≡ cap_of m rows key
  unfolding cap_of
  cap_found rows _ r e = ap (cap_in m) e

  -- a key without a row has cap 0
  pub cap_without : (rows key : ℕ) → ((i : ℕ) → i < rows → key_at m i ≡ key → ⊥) → cap_of m rows key ≡ 0
  cap_without rows key w = sym (cap_found rows key None (sym (lookup_without m key 0 rows (λ i a b e. w i (omega arith) e))))

  -- a cap fits in a word
  pub cap_fits : ((i : ℕ) → get_or m i 0 < 256) → (rows key : ℕ) → cap_of m rows key < word
  unfolding cap_of
  cap_fits small rows key = go (lookup m key 0 rows)
    where
      go : (r : Option ℕ) → cap_in m r < word
      go (Some i) = bytes_below m small (11 + i * 40 + 32) 8
      go None = omega arith
