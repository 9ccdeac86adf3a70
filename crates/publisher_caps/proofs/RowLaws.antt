-- Laws of the keys' order: what the check's loop keeps, and what its answer says. Assumes nothing.
use mathlib.Core.Path.{◌≡◌, refl, sym, ap, ap₂, ◌∙◌}
use mathlib.Core.Logic.{⊎_elim}
use mathlib.Core.Bool.{Bool, true, false, ◌&&◌}
use mathlib.Core.List.{List, ◌∷◌}
use Prim.Native.Nat.{ℕ, zero, suc, ◌+◌, ◌-◌, ◌*◌, ◌/◌, ◌<◌, ◌≤◌}
use native.Mathlib.Nat.{eq-or-lt_of_le, add-zero, add_assoc}
use native.Mathlib.Numerals.{add-one}
use native.Mathlib.Decide.{ℕ_discrete}
use native.Mathlib.Omega.{arith}
use lib.Dec.{ltb}
use lib.ListN.{length, get_or, take, drop, replicate}
use borrow.Author.Tests.{lt-ltb, le-ltb, ltb-true, ltb-false}
use Rattle.std.specs.Simd.{first_chunks}
use Rattle.std.proofs.lemmas.List.{get_or-take, get_or-drop, length-take, length-drop, take-take, drop-take, drop-drop}
use Rattle.types.proofs.Below.{and_left, and_right, all_each, all_not, all_at}
use Rattle.types.proofs.ListLaws.{chunk_at}
use Rattle.publisher_caps.specs.Key.{big_endian, little_endian}
use Rattle.publisher_caps.specs.Message.{key_at, cap_at, key_word, row_of, key_before, ascends, none_zero}

-- ---- rows as slices of the message

taken : (k : ℕ) (xs : List ℕ) → first_chunks 40 k (take (k * 40) xs) ≡ first_chunks 40 k xs
taken zero xs = refl
taken (suc k) xs =
    let more : suc k * 40 ≡ 40 + k * 40 = omega arith in
    rw more
    (ap₂ ◌∷◌ (take-take 40 (40 + k * 40) xs (omega arith)) (ap (first_chunks 40 k) (drop-take 40 (k * 40) xs) ∙ taken k (drop 40 xs)))

-- the first rows of a message, cut where they end
pub rows_taken : (m : List ℕ) (rows : ℕ) (s : List ℕ) → s ≡ take (11 + rows * 40 - 11) (drop 11 m) → 11 + rows * 40 ≤ length m
    → first_chunks 40 (length s / 40) s ≡ first_chunks 40 rows (drop 11 m)
rows_taken m rows s es h =
    let cut : 11 + rows * 40 - 11 ≡ rows * 40 = omega arith in
    let long : length s ≡ rows * 40 = rw (es, cut, length-take (rows * 40) (drop 11 m), length-drop 11 m) (omega arith) in
    let many : length s / 40 ≡ rows = rw long (omega arith) in
    rw (many, es, cut) (taken rows (drop 11 m))

module _ (m : List ℕ) where
  -- row i of them
  pub row_at : (rows : List (List ℕ)) (n i : ℕ) (d : List ℕ) → rows ≡ first_chunks 40 n (drop 11 m) → i < n → get_or rows i d ≡ take 40 (drop (11 + i * 40) m)
  row_at rows n i d e h =
      ap (λ (l : List (List ℕ)). get_or l i d) e ∙ chunk_at 40 n i (drop 11 m) d h
      ∙ ap (λ (l : List ℕ). take 40 l) (drop-drop (i * 40) 11 m ∙ ap (λ (k : ℕ). drop k m) (omega arith))

  -- its bytes are the message's
  byte_in : (row : List ℕ) (k i : ℕ) → row ≡ take 40 (drop k m) → i < 40 → get_or row i 0 ≡ get_or m (k + i) 0
  byte_in row k i e h = ap (λ (l : List ℕ). get_or l i 0) e ∙ get_or-take 40 (drop k m) i 0 h ∙ get_or-drop k m i 0

  pub in_row : (row : List ℕ) (k at n : ℕ) → row ≡ take 40 (drop k m) → at + n ≤ 40 → big_endian row at n ≡ big_endian m (k + at) n
  unfolding big_endian
  in_row row k at zero e h = refl
  in_row row k at (suc n) e h =
      omega (arith, in_row row k at n e (omega arith), byte_in row k (at + n) e (omega arith), ap (λ (j : ℕ). get_or m j 0) (add_assoc k at n))

  pub little_in_row : (row : List ℕ) (k at n : ℕ) → row ≡ take 40 (drop k m) → at + n ≤ 40 → little_endian row at n ≡ little_endian m (k + at) n
  unfolding little_endian
  little_in_row row k at zero e h = refl
  little_in_row row k at (suc n) e h =
      omega (
        arith,
        little_in_row row k (at + 1) n e (omega arith),
        byte_in row k at e (omega arith),
        ap (λ (j : ℕ). little_endian m j n) (add_assoc k at 1),
      )

  -- what is read of row i
  module _ (row : List ℕ) (i : ℕ) (is : row ≡ take 40 (drop (11 + i * 40) m)) where
    pub first_bytes : (n : ℕ) → n ≤ 40 → big_endian row 0 n ≡ big_endian m (11 + i * 40) n
    first_bytes n h = in_row row (11 + i * 40) 0 n is (omega arith) ∙ ap (λ (k : ℕ). big_endian m k n) (add-zero (11 + i * 40))

    pub row_key_at : (n : ℕ) → n ≡ big_endian row 0 32 → n ≡ key_at m i
    row_key_at n e = e ∙ first_bytes 32 (omega arith)

    pub row_cap_at : (n : ℕ) → n ≡ big_endian row 32 8 → n ≡ cap_at m i
    row_cap_at n e = e ∙ in_row row (11 + i * 40) 32 8 is (omega arith)

    pub row_half : (n : ℕ) → n ≡ big_endian row 0 2 → n ≡ big_endian m (11 + i * 40) 2
    row_half n e = e ∙ first_bytes 2 (omega arith)

    word : (at c n : ℕ) → at ≡ c * 8 → c < 4 → n ≡ little_endian row at 8 → n ≡ key_word m i c
    unfolding key_word
    word at c n ea h e =
        e ∙ little_in_row row (11 + i * 40) at 8 is (omega arith) ∙ ap (λ (k : ℕ). little_endian m (11 + i * 40 + k) 8) ea

    pub row_told : (a b c d cap : ℕ) → a ≡ little_endian row 0 8 → b ≡ little_endian row 8 8 → c ≡ little_endian row 16 8 → d ≡ little_endian row 24 8
        → cap ≡ big_endian row 32 8 → record { pubkey = record { 0 = a; 1 = b; 2 = c; 3 = d }; cap = cap } ≡ row_of m i
    unfolding row_of
    row_told a b c d cap ea eb ec ed e =
        let wa = word 0 0 a refl (omega arith) ea in
        let wb = word 8 1 b refl (omega arith) eb in
        let wc = word 16 2 c refl (omega arith) ec in
        let wd = word 24 3 d refl (omega arith) ed in
        let we = row_cap_at cap e in
        λ j. record { pubkey = record { 0 = wa j; 1 = wb j; 2 = wc j; 3 = wd j }; cap = we j }

-- a row of zeros stands in front of the first
pub zero_row : (big_endian (replicate 40 0) 0 32 ≡ 0) × (big_endian (replicate 40 0) 0 8 ≡ 0)
unfolding big_endian
zero_row = (refl, refl)

-- each of the first i keys is above the one before it
pub record Climbs (m : List ℕ) (i : ℕ) : Type 0 where
  pub each : (j : ℕ) → j < i → key_before m j < key_at m j

and_true : (a b : Bool) → a ≡ true → b ≡ true → true ≡ (a && b)
and_true a b ea eb = rw (ea, eb)

module _ (m : List ℕ) where
  -- one more key, which is then the one before
  pub climbs_more : (i key : ℕ) → Climbs m i → key_before m i < key → key ≡ key_at m i → (key ≡ key_before m (i + 1)) × Climbs m (i + 1)
  climbs_more i key h l e = (e ∙ ap (key_before m) (sym (add-one i)), record { each = λ j k. below j k (ℕ_discrete j i) })
    where
      below : (j : ℕ) → j < i + 1 → Dec (j ≡ i) → key_before m j < key_at m j
      below j k (yes q) = rw q (omega (arith, l, e))
      below j k (no ne) = h.each j (omega arith)

  -- the row before is below: so no key is zero
  above_zero : (i : ℕ) → key_before m i < key_at m i → 0 < key_at m i
  above_zero i h = omega arith

  pub climbs_all : (i rows : ℕ) → Climbs m i → i ≡ rows → true ≡ (ascends m rows && none_zero m rows)
  unfolding ascends none_zero
  climbs_all i rows h e =
      and_true _ _
      (all_each _ (rows - 1) (λ j l. lt-ltb _ _ (rw (← add-one j) at (h.each (suc j) (omega arith)))))
      (all_each _ rows (λ j l. lt-ltb _ _ (above_zero j (h.each j (omega arith)))))

  ascends_not : (i rows : ℕ) → i + 1 < rows → key_at m (i + 1) ≤ key_at m i → ascends m rows ≡ false
  unfolding ascends
  ascends_not i rows l h = all_not _ (rows - 1) i (omega arith) (le-ltb _ _ h)

  zero_first : (rows : ℕ) → 0 < rows → key_at m 0 ≤ 0 → none_zero m rows ≡ false
  unfolding none_zero
  zero_first rows l h = all_not _ rows 0 l (le-ltb _ _ h)

  pub climbs_not : (i rows : ℕ) → i < rows → key_at m i ≤ key_before m i → false ≡ (ascends m rows && none_zero m rows)
  climbs_not zero rows l h = sym (and_right (ascends m rows) (none_zero m rows) (zero_first rows l h))
  climbs_not (suc i) rows l h = sym (and_left (ascends m rows) (none_zero m rows) (ascends_not i rows (omega arith) (rw (add-one i) h)))

  -- row i of the rows that the message is cut into
  module _ (rows : List (List ℕ)) (n i : ℕ) (d : List ℕ) (cut : rows ≡ first_chunks 40 n (drop 11 m)) (l : i < n) where
    pub key_read : big_endian (get_or rows i d) 0 32 ≡ key_at m i
    key_read = row_key_at m _ i (row_at m rows n i d cut l) _ refl

    -- the row before is not below it: so the keys do not climb
    pub key_not_above : (before : List ℕ) (t : Bool) → big_endian before 0 32 ≡ key_before m i
        → t ≡ ltb (big_endian before 0 32) (big_endian (get_or rows i d) 0 32) → t ≡ false → false ≡ (ascends m n && none_zero m n)
    key_not_above before t same test h = climbs_not i n l (omega (arith, ltb-false _ _ (sym test ∙ h), key_read, same))

  -- the tests from what they say of the keys
  pub ordered_holds : (rows : ℕ) → ((i j : ℕ) → i < j → j < rows → key_at m i < key_at m j) → ((i : ℕ) → i < rows → 0 < key_at m i)
      → true ≡ (ascends m rows && none_zero m rows)
  unfolding ascends none_zero
  ordered_holds rows ordered nonzero =
      and_true _ _
      (all_each _ (rows - 1) (λ i l. lt-ltb _ _ (ordered i (i + 1) (omega arith) (omega arith))))
      (all_each _ rows (λ i l. lt-ltb _ _ (nonzero i l)))

  -- what the tests say of the keys
  pub ascends_pairs : (rows : ℕ) → ascends m rows ≡ true → (i j : ℕ) → i < j → j < rows → key_at m i < key_at m j
  unfolding ascends
  ascends_pairs rows e i zero ij jr = absurd (omega arith)
  ascends_pairs rows e i (suc j) ij jr =
      let test : ltb (key_at m j) (key_at m (j + 1)) ≡ true = all_at (λ n. ltb (key_at m n) (key_at m (n + 1))) (rows - 1) j (omega arith) e in
      let step : key_at m j < key_at m (suc j) = rw (add-one j) at (ltb-true (key_at m j) (key_at m (j + 1)) test) in
      ⊎_elim
      (λ q. omega (arith, ap (key_at m) q, step))
      (λ (l : i < j). omega (arith, step, ascends_pairs rows e i j l (omega arith)))
      (eq-or-lt_of_le (omega arith))

  pub none_zero_each : (rows : ℕ) → none_zero m rows ≡ true → (i : ℕ) → i < rows → 0 < key_at m i
  unfolding none_zero
  none_zero_each rows e i l = ltb-true 0 (key_at m i) (all_at _ rows i l e)
