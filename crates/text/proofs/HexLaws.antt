-- Laws of hexadecimal digits and the bytes that they spell. Assumes nothing.
use Rattle.std.proofs.Common.{◌≡◌, ℕ, ◌+◌, ◌*◌, ◌/◌, ◌<◌, ◌≤◌, List, [], ◌∷◌, zero, suc, Bool, true, false, refl, min, leb}
use Rattle.std.proofs.Common.{leb-true, leb-false, eq-eqb, length, length-take, take, drop, get_or, set, Option, Some, is_some}
use Rattle.std.proofs.Common.{arith, sym, ap, ap₂, add-one, ◌∙◌}
use Rattle.types.proofs.ListLaws.{chunk_at}
use Rattle.std.specs.Simd.{first_chunks}
use Rattle.std.proofs.lemmas.List.{take_all, get_or-take, get_or-drop}
use Rattle.std.proofs.lemmas.Grind.{common_steps}
use Rattle.text.specs.Hex.{nibble_of, all_hex, pair_of, byte_at, stored, even_of, bytes_of}

-- every digit of a list of digits has a value
pub hex_at : (s : List ℕ) (i : ℕ) → all_hex s ≡ true → i < length s → is_some (nibble_of (get_or s i 0)) ≡ true
unfolding all_hex
hex_at [] i h l = absurd (omega arith)
hex_at (b ∷ s) zero h l = grind (arith, common_steps)
hex_at (b ∷ s) (suc i) h l = grind (arith, common_steps, hex_at s i)

-- so two of them spell a byte
pub hex_pair : (s : List ℕ) (i : ℕ) → all_hex s ≡ true → i + 1 < length s → is_some (pair_of (get_or s i 0) (get_or s (i + 1) 0)) ≡ true
unfolding pair_of
hex_pair s i h l = grind (arith, common_steps, hex_at s i h (omega arith), hex_at s (i + 1) h l)

-- no more bytes are counted than there is room for
pub bytes_count : (s : List ℕ) (room n : ℕ) → bytes_of s room ≡ Some n → n ≤ room
unfolding bytes_of even_of
bytes_count s room n e = grind (arith, common_steps, length-take (room * 2) s)

-- of an even number of digits that there is room for, all of them are bytes
pub bytes_all : (s : List ℕ) (room n : ℕ) → n ≡ min (room * 2) (length s) → n / 2 * 2 ≡ n → true ≡ all_hex (take n s) → Some (n / 2) ≡ bytes_of s room
unfolding bytes_of even_of
bytes_all s room n is h e = rw (length-take (room * 2) s, ← is, eq-eqb _ _ h, looked_at, ← e)
  where
    looked_at : take (room * 2) s ≡ take n s
    looked_at = go (leb (room * 2) (length s)) refl
      where
        go : (t : Bool) → leb (room * 2) (length s) ≡ t → take (room * 2) s ≡ take n s
        go true q = let l = leb-true _ _ q in let m : n ≡ room * 2 = omega arith in rw m
        go false q = let l = leb-false _ _ q in rw (take_all (room * 2) s (omega arith), take_all n s (omega arith))

-- the digits of pair i
module _ (l : List ℕ) (pairs : List (List ℕ)) (n i : ℕ) (are : pairs ≡ first_chunks 2 n l) (inside : i < n) (d : List ℕ) where
  digit : (k : ℕ) → k < 2 → get_or (get_or pairs i d) k 0 ≡ get_or l (i * 2 + k) 0
  digit k h =
      ap (λ (p : List (List ℕ)). get_or (get_or p i d) k 0) are ∙ ap (λ (p : List ℕ). get_or p k 0) (chunk_at 2 n i l d inside)
      ∙ (get_or-take 2 (drop (i * 2) l) k 0 h ∙ get_or-drop (i * 2) l k 0)

  pub pair_digits : pair_of (get_or (get_or pairs i d) 0 0) (get_or (get_or pairs i d) 1 0) ≡ pair_of (get_or l (i * 2) 0) (get_or l (i * 2 + 1) 0)
  pair_digits = ap₂ pair_of (digit 0 (omega arith) ∙ ap (λ (k : ℕ). get_or l k 0) (omega arith)) (digit 1 (omega arith))

-- one more byte
pub stored_more : (s out init : List ℕ) (m i w : ℕ) (r : Option ℕ) → out ≡ stored s i init
    → r ≡ pair_of (get_or (take m s) (i * 2) 0) (get_or (take m s) (i * 2 + 1) 0) → i * 2 + 1 < m → r ≡ Some w → set out i w ≡ stored s (i + 1) init
unfolding stored byte_at
stored_more s out init m i w r e q h t =
    let first : get_or (take m s) (i * 2) 0 ≡ get_or s (i * 2) 0 = get_or-take m s (i * 2) 0 (omega arith) in
    let second : get_or (take m s) (i * 2 + 1) 0 ≡ get_or s (i * 2 + 1) 0 = get_or-take m s (i * 2 + 1) 0 h in
    let spells : Some w ≡ pair_of (get_or s (i * 2) 0) (get_or s (i * 2 + 1) 0) = sym t ∙ (q ∙ ap₂ pair_of first second) in
    rw (add-one i, e, stored, ← spells)
