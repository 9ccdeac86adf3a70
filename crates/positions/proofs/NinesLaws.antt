-- The whole nines of a list of words, and what each says as words of the list. Assumes nothing.
use mathlib.Core.Path.{◌≡◌, refl, ap, ◌∙◌}
use mathlib.Core.Bool.{Bool}
use mathlib.Core.List.{List, []}
use Prim.Native.Nat.{ℕ, zero, suc, ◌+◌, ◌*◌, ◌/◌, ◌<◌}
use native.Mathlib.Omega.{arith}
use lib.ListN.{length, get_or, take, drop}
use Rattle.std.specs.Prelude.{IsTrue, ◌↔◌, All, Any}
use Rattle.std.specs.Simd.{first_chunks}
use Rattle.std.proofs.lemmas.List.{get_or-take, get_or-drop}
use Rattle.types.specs.Base.{all_below, any_below}
use Rattle.types.proofs.Below.{all_same, any_same}
use Rattle.types.proofs.ListLaws.{all_list, any_list, chunk_at}
use Rattle.positions.specs.declared.Key.{Key}
use Rattle.positions.proofs.KeyLaws.{by_words}
use Rattle.positions.specs.Positions.{key_from, position_from, position_holds, in_publisher}

-- the first n nines are n
pub nines_length : (n : ℕ) (words : List ℕ) → length (first_chunks 9 n words) ≡ n
nines_length zero words = refl
nines_length (suc n) words = ap (λ (k : ℕ). suc k) (nines_length n (drop 9 words))

-- nine i of a list's whole nines, whatever stands for one past the last
module _ (words : List ℕ) (i : ℕ) (inside : i < length words / 9) (d : List ℕ) where
  abbrev nine : List ℕ
  nine = get_or (first_chunks 9 (length words / 9) words) i d

  nine_is : nine ≡ take 9 (drop (i * 9) words)
  nine_is = chunk_at 9 (length words / 9) i words d inside

  -- its words
  pub nine_word : (k : ℕ) → k < 9 → get_or nine k 0 ≡ get_or words (i * 9 + k) 0
  nine_word k h = ap (λ (l : List ℕ). get_or l k 0) nine_is ∙ (get_or-take 9 (drop (i * 9) words) k 0 h ∙ get_or-drop (i * 9) words k 0)

  first : get_or nine 0 0 ≡ get_or words (i * 9) 0
  first = nine_word 0 (omega arith) ∙ ap (λ (k : ℕ). get_or words k 0) (omega arith)

  pub nine_key : key_from nine 5 ≡ key_from words (i * 9 + 5)
  nine_key =
      by_words (key_from nine 5) (key_from words (i * 9 + 5)) (nine_word 5 (omega arith))
      (at 6 1 (omega arith) refl) (at 7 2 (omega arith) refl) (at 8 3 (omega arith) refl)
    where
      at : (k j : ℕ) → k < 9 → k ≡ 5 + j → get_or nine k 0 ≡ get_or words (i * 9 + 5 + j) 0
      at k j h e = nine_word k h ∙ ap (λ (n : ℕ). get_or words n 0) (omega arith)

  pub nine_position : position_from nine 0 ≡ position_from words (i * 9)
  nine_position =
      let e0 = first in
      let e1 = nine_word 1 (omega arith) in
      let e2 = nine_word 2 (omega arith) in
      let e3 = nine_word 3 (omega arith) in
      let e4 = nine_word 4 (omega arith) in
      let k = nine_key in
      λ j. record {
        kind = e0 j;
        amount = record { 0 = e1 j };
        activation_epoch = record { 0 = e2 j };
        start_flag = e3 j;
        unlocking_start = record { 0 = e4 j };
        publisher = k j;
      }

  pub nine_holds : position_holds nine 0 ≡ position_holds words (i * 9)
  unfolding position_holds
  nine_holds = rw (first, nine_word 3 (omega arith))

  pub nine_in_publisher : (publisher : Key) → in_publisher nine 0 publisher ≡ in_publisher words (i * 9) publisher
  unfolding in_publisher
  nine_in_publisher publisher = rw (first, nine_key)

-- a test of each nine is a test of the words that each begins at
module _ (words : List ℕ) (test : List ℕ → ℕ → Bool)
    (same : (i : ℕ) → i < length words / 9 → (d : List ℕ) → test (get_or (first_chunks 9 (length words / 9) words) i d) 0 ≡ test words (i * 9)) where
  abbrev count : ℕ
  count = length words / 9

  abbrev nine_test : ℕ → Bool
  nine_test i = test (get_or (first_chunks 9 count words) i []) 0

  pub all_nines : (answer : Bool) → (IsTrue answer ↔ All (λ (nine : List ℕ). IsTrue (test nine 0)) (first_chunks 9 count words))
      → answer ≡ all_below count (λ (i : ℕ). test words (i * 9))
  all_nines answer h =
      all_list (λ (nine : List ℕ). test nine 0) (first_chunks 9 count words) [] answer h
      ∙ (ap (λ (n : ℕ). all_below n nine_test) (nines_length count words) ∙ all_same nine_test (λ (i : ℕ). test words (i * 9)) count (λ i l. same i l []))

  pub any_nines : (answer : Bool) → (IsTrue answer ↔ Any (λ (nine : List ℕ). IsTrue (test nine 0)) (first_chunks 9 count words))
      → answer ≡ any_below count (λ (i : ℕ). test words (i * 9))
  any_nines answer h =
      any_list (λ (nine : List ℕ). test nine 0) (first_chunks 9 count words) [] answer h
      ∙ (ap (λ (n : ℕ). any_below n nine_test) (nines_length count words) ∙ any_same nine_test (λ (i : ℕ). test words (i * 9)) count (λ i l. same i l []))
