-- Laws of a list of records: its words, the record at each nine of them, and what stands of a list of anything that is a position. Assumes nothing.
use mathlib.Core.Path.{◌≡◌, refl, sym, ap, ◌∙◌}
use mathlib.Core.List.{List, [], ◌∷◌}
use Prim.Native.Nat.{ℕ, zero, suc, ◌+◌, ◌*◌, ◌/◌, ◌%◌, ◌<◌}
use native.Mathlib.Omega.{arith}
use lib.ListN.{length, get_or}
use lib.Seq.{get_or-append-add}
use Rattle.std.specs.Prelude.{map}
use Rattle.std.proofs.lemmas.List.{get_or-map, length-map}
use Rattle.positions.specs.declared.Key.{Key}
use Rattle.positions.specs.declared.position.Position.{Position}
use Rattle.positions.specs.Positions.{position_from, position_holds, in_publisher}
use Rattle.event_amounts.specs.Records.{position_words, records_words, record_holds, record_in}

-- ---- how many words

pub words_length : (ps : List Position) → length (records_words ps) ≡ length ps * 9
unfolding records_words
words_length [] = refl
words_length (p ∷ ps) = omega (arith, words_length ps)

pub words_count : (ps : List Position) → length (records_words ps) / 9 ≡ length ps
words_count ps = omega (arith, words_length ps)

pub words_whole : (ps : List Position) → length (records_words ps) % 9 ≡ 0
words_whole ps = omega (arith, words_length ps)

-- ---- reading them back

-- the words behind the first record's are those of the others
words_next : (p : Position) (ps : List Position) (a b : ℕ) → a ≡ 9 + b → get_or (records_words (p ∷ ps)) a 0 ≡ get_or (records_words ps) b 0
unfolding records_words
words_next p ps a b e = ap (λ (n : ℕ). get_or (records_words (p ∷ ps)) n 0) e ∙ get_or-append-add (position_words p) (records_words ps) b 0

position_next : (p : Position) (ps : List Position) (i : ℕ) → position_from (records_words (p ∷ ps)) (suc i * 9) ≡ position_from (records_words ps) (i * 9)
position_next p ps i =
    cc (
      words_next p ps (suc i * 9) (i * 9) (omega arith),
      words_next p ps (suc i * 9 + 1) (i * 9 + 1) (omega arith),
      words_next p ps (suc i * 9 + 2) (i * 9 + 2) (omega arith),
      words_next p ps (suc i * 9 + 3) (i * 9 + 3) (omega arith),
      words_next p ps (suc i * 9 + 4) (i * 9 + 4) (omega arith),
      words_next p ps (suc i * 9 + 5) (i * 9 + 5) (omega arith),
      words_next p ps (suc i * 9 + 5 + 1) (i * 9 + 5 + 1) (omega arith),
      words_next p ps (suc i * 9 + 5 + 2) (i * 9 + 5 + 2) (omega arith),
      words_next p ps (suc i * 9 + 5 + 3) (i * 9 + 5 + 3) (omega arith),
    )

-- the record that stands at each nine
pub words_position : (none : Position) (ps : List Position) (i : ℕ) → i < length ps → position_from (records_words ps) (i * 9) ≡ get_or ps i none
unfolding records_words
words_position none [] i l = absurd (omega arith)
words_position none (p ∷ ps) zero l = refl
words_position none (p ∷ ps) (suc i) l = position_next p ps i ∙ words_position none ps i (omega arith)

-- ---- a record is as its words are

module _ (p : Position) (words : List ℕ) (at : ℕ) (is : p ≡ position_from words at) where
  pub record_holds_words : record_holds p ≡ position_holds words at
  unfolding record_holds position_holds
  record_holds_words = ap record_holds is

  pub record_in_words : (publisher : Key) → record_in p publisher ≡ in_publisher words at publisher
  unfolding record_in in_publisher
  record_in_words publisher = ap (λ (q : Position). record_in q publisher) is

-- ---- a list of anything that is a position

module _ {T : Type 0} (as_position : T → Position) (xs : List T) where
  pub items_count : length (records_words (map as_position xs)) / 9 ≡ length xs
  items_count = words_count (map as_position xs) ∙ length-map xs as_position

  pub item_position : (i : ℕ) (x : T) → i < length xs → x ≡ get_or xs i x → as_position x ≡ position_from (records_words (map as_position xs)) (i * 9)
  item_position i x l is =
      ap as_position is
      ∙ sym (get_or-map as_position xs i x (as_position x) l)
      ∙ sym (words_position (as_position x) (map as_position xs) i (omega (arith, length-map xs as_position)))
