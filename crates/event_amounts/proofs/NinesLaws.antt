-- What a list's whole nines gather is what the list of words gathers. Assumes nothing.
use mathlib.Core.Path.{◌≡◌, refl, sym, ap, ◌∙◌}
use mathlib.Core.Bool.{Bool, not, ◌||◌}
use mathlib.Core.List.{List, []}
use Prim.Native.Nat.{ℕ, ◌*◌, ◌/◌, ◌<◌}
use native.Mathlib.Omega.{arith}
use lib.Dec.{ltb}
use lib.ListN.{length, get_or}
use Rattle.std.specs.Prelude.{map, Option, Some, None, if◌then◌else◌}
use Rattle.std.specs.Simd.{first_chunks}
use Rattle.std.proofs.lemmas.List.{get_or_default}
use Rattle.types.specs.Base.{word, sum_below}
use Rattle.types.proofs.Below.{sum_same, all_same}
use Rattle.positions.specs.declared.Key.{Key}
use Rattle.positions.specs.Positions.{position_from, in_publisher}
use Rattle.positions.proofs.NinesLaws.{nines_length, nine_position}
use Rattle.image.specs.Layout.{Words}
use Rattle.event_walk.specs.declared.EventAmounts.{EventAmounts}
use Rattle.event_walk.specs.Walk.{walk_length, walk_meets, walk_fits, drawn_at, slot_amount, gather_fits, read_by, reads_of}
use Rattle.event_amounts.specs.Records.{records_words}
use Rattle.event_amounts.specs.Gathered.{GatheredOf}
use Rattle.event_amounts.proofs.RecordLaws.{record_in_words, items_count, item_position}

-- lists of the same positions gather the same
module _ (E : ℕ) (w : Words) (a b : List ℕ) (publisher : Key) (from unlocking : ℕ) (count : length a / 9 ≡ length b / 9)
    (same : (i : ℕ) → i < length a / 9 → position_from a (i * 9) ≡ position_from b (i * 9)) where
  in_same : (i : ℕ) → i < length a / 9 → in_publisher a (i * 9) publisher ≡ in_publisher b (i * 9) publisher
  in_same i l =
      sym (record_in_words (position_from a (i * 9)) a (i * 9) refl publisher) ∙ record_in_words (position_from a (i * 9)) b (i * 9) (same i l) publisher

  drawn_same : (k i : ℕ) → i < length a / 9 → drawn_at E w a publisher unlocking k i ≡ drawn_at E w b publisher unlocking k i
  unfolding drawn_at
  drawn_same k i l = rw (in_same i l, same i l)

  amount_same : (k : ℕ) → slot_amount E w a publisher from unlocking k ≡ slot_amount E w b publisher from unlocking k
  unfolding slot_amount
  amount_same k =
      ap (λ (x : ℕ). if ltb k (walk_meets E w from) then x else 0)
      (sum_same (drawn_at E w a publisher unlocking k) (drawn_at E w b publisher unlocking k) (length a / 9) (drawn_same k)
      ∙ ap (λ (n : ℕ). sum_below n (drawn_at E w b publisher unlocking k)) count)

  abbrev fits_in : List ℕ → ℕ → Bool
  fits_in words i = not (in_publisher words (i * 9) publisher) || walk_fits E w (position_from words (i * 9)) from unlocking

  fits_same : gather_fits E w a publisher from unlocking ≡ gather_fits E w b publisher from unlocking
  unfolding gather_fits
  fits_same =
      rw (
        all_same (fits_in a) (fits_in b) (length a / 9) (λ i l. rw (in_same i l, same i l)),
        count,
        all_same _ (λ k. ltb (slot_amount E w b publisher from unlocking k) word) (walk_length E w) (λ k l. ap (λ (x : ℕ). ltb x word) (amount_same k)),
      )

  read_same : (i : ℕ) → i < length a / 9 → read_by E w a publisher from i ≡ read_by E w b publisher from i
  unfolding read_by
  read_same i l = rw (in_same i l)

  reads_same : reads_of E w a publisher from ≡ reads_of E w b publisher from
  unfolding reads_of
  reads_same =
      sum_same (read_by E w a publisher from) (read_by E w b publisher from) (length a / 9) read_same
      ∙ ap (λ (n : ℕ). sum_below n (read_by E w b publisher from)) count

  pub gathered_same : (r : Option EventAmounts) → GatheredOf E w a publisher from unlocking r → GatheredOf E w b publisher from unlocking r
  gathered_same (Some r) g = record {
    fits = sym fits_same ∙ g.fits;
    amounts = λ k. g.amounts k ∙ amount_same k;
    reads = g.reads ∙ reads_same;
  }
  gathered_same None e = sym fits_same ∙ e

-- a list's whole nines are its positions
module _ (words : List ℕ) (nines : List (List ℕ)) (are : nines ≡ first_chunks 9 (length words / 9) words) where
  abbrev nines_words : List ℕ
  nines_words = records_words (map (λ (nine : List ℕ). position_from nine 0) nines)

  pub nines_many : length nines ≡ length words / 9
  nines_many = ap length are ∙ nines_length (length words / 9) words

  nines_count : length nines_words / 9 ≡ length words / 9
  nines_count = items_count (λ (nine : List ℕ). position_from nine 0) nines ∙ nines_many

  nines_same : (i : ℕ) → i < length words / 9 → position_from nines_words (i * 9) ≡ position_from words (i * 9)
  nines_same i l =
      let nine : List ℕ = get_or nines i [] in
      let h : i < length nines = omega (arith, nines_many) in
      sym (item_position (λ (n : List ℕ). position_from n 0) nines i nine h (get_or_default nines i [] nine h))
      ∙ ap (λ (ns : List (List ℕ)). position_from (get_or ns i []) 0) are
      ∙ nine_position words i l []

  pub gathered_nines : (E : ℕ) (w : Words) (publisher : Key) (from unlocking : ℕ) (r : Option EventAmounts)
      → GatheredOf E w (records_words (map (λ (nine : List ℕ). position_from nine 0) nines)) publisher from unlocking r
      → GatheredOf E w words publisher from unlocking r
  gathered_nines E w publisher from unlocking r g =
      gathered_same E w nines_words words publisher from unlocking nines_count (λ i l. nines_same i (omega (arith, nines_count))) r g
