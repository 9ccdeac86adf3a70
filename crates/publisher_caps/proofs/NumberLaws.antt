-- Laws of keys and their numbers: keys of the image with the same number are the same, word by word. Assumes nothing.
use mathlib.Core.Path.{◌≡◌, sym, ap, ◌∙◌}
use Prim.Native.Nat.{ℕ, ◌+◌, ◌*◌, ◌/◌, ◌%◌, ◌^◌, ◌<◌}
use native.Mathlib.Nat.{mod-lt, mod-eq_of_lt}
use native.Mathlib.Omega.{arith}
use Rattle.types.specs.Base.{word}
use Rattle.positions.specs.declared.Key.{Key}
use Rattle.positions.proofs.KeyLaws.{by_words}
use Rattle.publisher_caps.specs.Key.{swapped, number_of}
use Rattle.publisher_caps.proofs.KeyLaws.{turned, swap_sum, pair_same}

-- the words of a key are words
abbrev pub KeyFits : Key → Type 0
KeyFits k = (k.0 < word) × (k.1 < word) × (k.2 < word) × (k.3 < word)

-- ---- a word swapped twice is the word

digits : (x : ℕ) → x < word
    → x ≡ x / 2 ^ 56 % 256 * 2 ^ 56 + x / 2 ^ 48 % 256 * 2 ^ 48 + x / 2 ^ 40 % 256 * 2 ^ 40 + x / 2 ^ 32 % 256 * 2 ^ 32
    + x / 2 ^ 24 % 256 * 2 ^ 24 + x / 2 ^ 16 % 256 * 2 ^ 16 + x / 256 % 256 * 2 ^ 8 + x % 256
digits x h =
    join _ _ _ _ _ _ _ _ _ _ _ _ _ _ _ _
    (digit (x) (x / 256) (omega arith))
    (digit (x / 256) (x / 2 ^ 16) (omega arith))
    (digit (x / 2 ^ 16) (x / 2 ^ 24) (omega arith))
    (digit (x / 2 ^ 24) (x / 2 ^ 32) (omega arith))
    (digit (x / 2 ^ 32) (x / 2 ^ 40) (omega arith))
    (digit (x / 2 ^ 40) (x / 2 ^ 48) (omega arith))
    (digit (x / 2 ^ 48) (x / 2 ^ 56) (omega arith))
    (sym (mod-eq_of_lt (top x h)))
  where
    digit : (y z : ℕ) → y / 256 ≡ z → y ≡ z * 256 + y % 256
    digit y z e = omega arith

    top : (y : ℕ) → y < word → y / 2 ^ 56 < 256
    top y l = omega arith

    join : (a b c d e f g h a' b' c' d' e' f' g' h' : ℕ) → a ≡ b * 256 + a' → b ≡ c * 256 + b' → c ≡ d * 256 + c' → d ≡ e * 256 + d'
        → e ≡ f * 256 + e' → f ≡ g * 256 + f' → g ≡ h * 256 + g' → h ≡ h'
        → a ≡ h' * 2 ^ 56 + g' * 2 ^ 48 + f' * 2 ^ 40 + e' * 2 ^ 32 + d' * 2 ^ 24 + c' * 2 ^ 16 + b' * 2 ^ 8 + a'
    join a b c d e f g h a' b' c' d' e' f' g' h' ea eb ec ed ee ef eg eh = omega arith

pub swapped_twice : (x : ℕ) → x < word → swapped (swapped x) ≡ x
swapped_twice x h =
    turned _ _ _ _ _ _ _ _ (low 56) (low 48) (low 40) (low 32) (low 24) (low 16) (low 8) (mod-lt x (omega arith)) (swapped x) (sym (swap_sum x))
    ∙ sym (digits x h)
  where
    low : (k : ℕ) → x / 2 ^ k % 256 < 256
    low k = mod-lt (x / 2 ^ k) (omega arith)

pub swapped_fits : (x : ℕ) → swapped x < word
swapped_fits x =
    fits (x % 256) (x / 256 % 256) (x / 2 ^ 16 % 256) (x / 2 ^ 24 % 256) (x / 2 ^ 32 % 256) (x / 2 ^ 40 % 256) (x / 2 ^ 48 % 256) (x / 2 ^ 56 % 256)
    (mod-lt x (omega arith)) (low 8) (low 16) (low 24) (low 32) (low 40) (low 48) (low 56) (swapped x) (sym (swap_sum x))
  where
    low : (k : ℕ) → x / 2 ^ k % 256 < 256
    low k = mod-lt (x / 2 ^ k) (omega arith)

    fits : (a b c d e f g h : ℕ) → a < 256 → b < 256 → c < 256 → d < 256 → e < 256 → f < 256 → g < 256 → h < 256 → (s : ℕ)
        → s ≡ a * 2 ^ 56 + b * 2 ^ 48 + c * 2 ^ 40 + d * 2 ^ 32 + e * 2 ^ 24 + f * 2 ^ 16 + g * 2 ^ 8 + h → s < word
    fits a b c d e f g h la lb lc ld le lf lg lh s q = omega arith

pub swapped_same : (x y : ℕ) → x < word → y < word → swapped x ≡ swapped y → x ≡ y
swapped_same x y hx hy e = sym (swapped_twice x hx) ∙ ap swapped e ∙ swapped_twice y hy

-- ---- numbers

module _ (a b : Key) (fa : KeyFits a) (fb : KeyFits b) where
  -- keys with the same number have the same words
  pub number_words : number_of a ≡ number_of b → (a.0 ≡ b.0) × (a.1 ≡ b.1) × (a.2 ≡ b.2) × (a.3 ≡ b.3)
  number_words e =
      let t3 = pair_same _ _ _ _ (swapped_fits a.3) (swapped_fits b.3) e in
      let t2 = pair_same _ _ _ _ (swapped_fits a.2) (swapped_fits b.2) t3.0 in
      let t1 = pair_same _ _ _ _ (swapped_fits a.1) (swapped_fits b.1) t2.0 in (
        swapped_same _ _ fa.0 fb.0 t1.0,
        swapped_same _ _ fa.1 fb.1 t1.1,
        swapped_same _ _ fa.2 fb.2 t2.1,
        swapped_same _ _ fa.3 fb.3 t3.1,
      )

  -- so they are the same
  pub same_number : number_of a ≡ number_of b → a ≡ b
  same_number e = let w = number_words e in by_words a b w.0 w.1 w.2 w.3
