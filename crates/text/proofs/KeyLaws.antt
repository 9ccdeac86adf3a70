-- Laws of a key's words, by the bytes that its digits spell. Assumes nothing.
use Rattle.std.proofs.Common.{◌≡◌, ℕ, ◌+◌, ◌*◌, ◌/◌, ◌<◌, ◌≤◌, List, [], ◌∷◌, zero, suc, Option, None, Some, Bool}
use Rattle.std.proofs.Common.{true, false, cond, sym, ap, ◌∙◌, lit≤, refl, length, take, drop, get_or, arith}
use Rattle.std.proofs.lemmas.Grind.{common_steps, elements}
use Rattle.std.proofs.lemmas.List.{get_or-take, get_or-drop, take_all, drop-drop}
use Rattle.std.specs.Simd.{first_chunks}
use Rattle.std.specs.Int.{from_le_bytes, w64}
use Rattle.text.specs.Hex.{all_hex, byte_at, stored, even_of, bytes_of, spelled}
use Rattle.text.specs.Key.{low_first, word_at, key_of}

length-stored : (s : List ℕ) (n : ℕ) (out : List ℕ) → length (stored s n out) ≡ length out
unfolding stored
length-stored s zero out = grind arith
length-stored s (suc n) out = grind (arith, common_steps, length-stored s n out)

-- a byte that is stored is the one that its two digits spell
stored_at : (s : List ℕ) (n : ℕ) (out : List ℕ) (j : ℕ) → j < n → n ≤ length out → get_or (stored s n out) j 0 ≡ byte_at s (j * 2)
unfolding stored
stored_at s zero out j h l = absurd (omega arith)
stored_at s (suc n) out j h l = grind (arith, common_steps, elements, length-stored s n out, stored_at s n out j)

-- eight bytes as a number, the lowest first
module _ (l : List ℕ) where
  pub low_first_sum :
      from_le_bytes w64 l
      ≡ get_or l 0 0 + get_or l 1 0 * 0x100 + get_or l 2 0 * 0x1_0000 + get_or l 3 0 * 0x100_0000 + get_or l 4 0 * 0x1_0000_0000
      + get_or l 5 0 * 0x100_0000_0000 + get_or l 6 0 * 0x1_0000_0000_0000 + get_or l 7 0 * 0x100_0000_0000_0000
  low_first_sum = refl

  word_of : (s : List ℕ) (i : ℕ) → ((j k : ℕ) → j < 8 → k ≡ i + j * 2 → get_or l j 0 ≡ byte_at s k) → from_le_bytes w64 l ≡ low_first s i 8
  unfolding low_first
  word_of s i h =
      let a = h 0 i (omega arith) (omega arith) in
      let b = h 1 (i + 2) (omega arith) (omega arith) in
      let c = h 2 (i + 2 + 2) (omega arith) (omega arith) in
      let d = h 3 (i + 2 + 2 + 2) (omega arith) (omega arith) in
      let e = h 4 (i + 2 + 2 + 2 + 2) (omega arith) (omega arith) in
      let f = h 5 (i + 2 + 2 + 2 + 2 + 2) (omega arith) (omega arith) in
      let g = h 6 (i + 2 + 2 + 2 + 2 + 2 + 2) (omega arith) (omega arith) in
      let m = h 7 (i + 2 + 2 + 2 + 2 + 2 + 2 + 2) (omega arith) (omega arith) in
      rw low_first_sum (omega arith)

-- a word of a key is what its sixteen digits spell
word_is : (s b out : List ℕ) (at : ℕ) → b ≡ stored s 32 out → 32 ≤ length out → at + 8 ≤ 32 → from_le_bytes w64 (take 8 (drop at b)) ≡ low_first s (at * 2) 8
word_is s b out at e l h =
    word_of (take 8 (drop at b)) s (at * 2) (λ (j k : ℕ) n q.
    let r : get_or b (at + j) 0 ≡ byte_at s ((at + j) * 2) = rw e (stored_at s 32 out (at + j) (omega arith) l) in
    let m : (at + j) * 2 ≡ k = omega arith in
    rw (get_or-take 8 (drop at b) j 0 n, get_or-drop at b j 0, ← m) r)

-- the four words of 32 bytes, eight bytes each
pub four_words : (b : List ℕ) (words : List (List ℕ)) → words ≡ first_chunks 8 (length b / 8) b → length b ≡ 32
    → words ≡ (take 8 (drop 0 b) ∷ take 8 (drop 8 b) ∷ take 8 (drop 16 b) ∷ take 8 (drop 24 b) ∷ [])
four_words b words e l =
    let four : length b / 8 ≡ 4 = omega arith in
    let third : drop 8 (drop 8 b) ≡ drop 16 b = drop-drop 8 8 b in
    let fourth : drop 8 (drop 8 (drop 8 b)) ≡ drop 24 b = drop-drop 8 8 (drop 8 b) ∙ drop-drop 16 8 b in
    e ∙ ap (λ (n : ℕ). first_chunks 8 n b) four ∙ (λ i. take 8 b ∷ take 8 (drop 8 b) ∷ take 8 (third i) ∷ take 8 (fourth i) ∷ [])

-- what the bytes of 64 digits come to
module _ (s : List ℕ) (long : length s ≡ 64) where
  bytes_are : bytes_of s 32 ≡ cond (all_hex s) (Some 32) None
  unfolding bytes_of even_of
  bytes_are = let e : take 64 s ≡ s = take_all 64 s (omega arith) in rw (e, long)

  key_are : key_of s ≡ cond (all_hex s) (Some (word_at s 0 ∷ word_at s 16 ∷ word_at s 32 ∷ word_at s 48 ∷ [])) None
  unfolding key_of
  key_are = rw long

  pub key_none : bytes_of s 32 ≡ None → None ≡ key_of s
  key_none e = rw key_are (go (all_hex s) _ (sym bytes_are ∙ e))
    where
      go : (h : Bool) (k : List ℕ) → cond {A = Option ℕ} h (Some 32) None ≡ None → None ≡ cond h (Some k) None
      go true k q = cc
      go false k q = refl

  pub key_some :
      (n a b c d : ℕ) (bytes out : List ℕ) → length out ≡ 32 → bytes_of s 32 ≡ Some n → bytes ≡ spelled (Some n) s out →
      a ≡ from_le_bytes w64 (take 8 (drop 0 bytes)) → b ≡ from_le_bytes w64 (take 8 (drop 8 bytes)) →
      c ≡ from_le_bytes w64 (take 8 (drop 16 bytes)) → d ≡ from_le_bytes w64 (take 8 (drop 24 bytes)) → Some (a ∷ b ∷ c ∷ d ∷ []) ≡ key_of s
  unfolding spelled
  key_some n a b c d bytes out l e f i j k m = rw key_are (go (all_hex s) (sym bytes_are ∙ e))
    where
      go : (h : Bool) → cond {A = Option ℕ} h (Some 32) None ≡ Some n
          → Some (a ∷ b ∷ c ∷ d ∷ []) ≡ cond h (Some (word_at s 0 ∷ word_at s 16 ∷ word_at s 32 ∷ word_at s 48 ∷ [])) None
      go true q =
          let g : bytes ≡ stored s 32 out = cc in
          let w = λ (at : ℕ) (t : at + 8 ≤ 32). word_is s bytes out at g (omega arith) t in
          let w0 = i ∙ w 0 (lit≤ tt) in
          let w1 = j ∙ w 8 (lit≤ tt) in
          let w2 = k ∙ w 16 (lit≤ tt) in
          let w3 = m ∙ w 24 (lit≤ tt) in
          rw (w0, w1, w2, w3)
      go false q = cc
