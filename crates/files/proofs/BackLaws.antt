-- What is given as bytes is taken back as the same words. Assumes nothing.
use mathlib.Core.Path.{◌≡◌, refl, sym, ap, ◌∙◌}
use mathlib.Core.List.{List, ◌++◌, append_assoc}
use Prim.Native.Nat.{ℕ, zero, suc, ◌+◌, ◌*◌, ◌/◌, ◌%◌, ◌^◌, ◌≤◌, ◌<◌}
use native.Mathlib.Nat.{add-zero, mod-eq_of_lt}
use native.Mathlib.Omega.{arith}
use lib.ListN.{length, get_or, take, length-append}
use lib.Seq.{take-suc, get_or-append-add}
use Rattle.files.specs.Words.{word_at, words_of, eight, bytes_of}

length_eight : (w : ℕ) → length (eight w) ≡ 8
unfolding eight
length_eight w = refl

length_bytes : (l : List ℕ) (n : ℕ) → length (bytes_of l n) ≡ n * 8
unfolding bytes_of
length_bytes l zero = refl
length_bytes l (suc n) = length-append (bytes_of l n) (eight (get_or l n 0)) ∙ omega (arith, length_bytes l n, length_eight (get_or l n 0))

digits : (w : ℕ) → w < 2 ^ 64
    → w % 256 + 256 * (w / 256 % 256 + 256 * (w / 256 ^ 2 % 256 + 256 * (w / 256 ^ 3 % 256 + 256 * (w / 256 ^ 4 % 256 + 256 * (w / 256 ^ 5 % 256
    + 256 * (w / 256 ^ 6 % 256 + 256 * (w / 256 ^ 7 % 256))))))) ≡ w
digits w h =
    join _ _ _ _ _ _ _ _ _ _ _ _ _ _ _ _
    (digit w (w / 256) refl)
    (digit (w / 256) (w / 256 ^ 2) (omega arith))
    (digit (w / 256 ^ 2) (w / 256 ^ 3) (omega arith))
    (digit (w / 256 ^ 3) (w / 256 ^ 4) (omega arith))
    (digit (w / 256 ^ 4) (w / 256 ^ 5) (omega arith))
    (digit (w / 256 ^ 5) (w / 256 ^ 6) (omega arith))
    (digit (w / 256 ^ 6) (w / 256 ^ 7) (omega arith))
    (sym (mod-eq_of_lt (top w h)))
  where
    digit : (y z : ℕ) → y / 256 ≡ z → y ≡ y % 256 + 256 * z
    digit y z e = omega arith

    top : (y : ℕ) → y < 2 ^ 64 → y / 256 ^ 7 < 256
    top y l = omega arith

    join : (a b c d e f g h a' b' c' d' e' f' g' h' : ℕ) → a ≡ a' + 256 * b → b ≡ b' + 256 * c → c ≡ c' + 256 * d → d ≡ d' + 256 * e
        → e ≡ e' + 256 * f → f ≡ f' + 256 * g → g ≡ g' + 256 * h → h ≡ h'
        → a' + 256 * (b' + 256 * (c' + 256 * (d' + 256 * (e' + 256 * (f' + 256 * (g' + 256 * h')))))) ≡ a
    join a b c d e f g h a' b' c' d' e' f' g' h' ea eb ec ed ee ef eg eh = omega arith

-- the word of eight bytes behind others
word_back : (front back : List ℕ) (w : ℕ) → w < 2 ^ 64 → word_at (front ++ (eight w ++ back)) (length front) ≡ w
unfolding word_at eight
word_back front back w h =
    let l = eight w ++ back in
    rw (
      ap (λ (k : ℕ). get_or (front ++ l) k 0) (sym (add-zero (length front))) ∙ get_or-append-add front l 0 0,
      get_or-append-add front l 1 0,
      get_or-append-add front l 2 0,
      get_or-append-add front l 3 0,
      get_or-append-add front l 4 0,
      get_or-append-add front l 5 0,
      get_or-append-add front l 6 0,
      get_or-append-add front l 7 0,
    )
    (digits w h)

-- an image whose words are given as bytes and taken back is the same
pub words_back : (l back : List ℕ) (n : ℕ) → n ≤ length l → ((i : ℕ) → get_or l i 0 < 2 ^ 64) → words_of (bytes_of l n ++ back) n ≡ take n l
unfolding words_of bytes_of
words_back l back zero h small = refl
words_back l back (suc n) h small =
    let rest = eight (get_or l n 0) ++ back in
    let front = bytes_of l n in
    let e : bytes_of l (suc n) ++ back ≡ front ++ rest = append_assoc front (eight (get_or l n 0)) back in
    let w : word_at (front ++ rest) (n * 8) ≡ get_or l n 0 = rw (length_bytes l n) at (word_back front back (get_or l n 0) (small n)) in
    ap (λ (s : List ℕ). words_of s (suc n)) e ∙ rw (words_back l rest n (omega arith) small, w) (sym (take-suc l n 0 (omega arith)))
