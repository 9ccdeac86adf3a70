-- Keys of 64 hexadecimal digits. Assumes nothing.
use Rattle.std.specs.Prelude.{ℕ, zero, suc, ◌+◌, ◌*◌, cond, List, [], ◌∷◌, eqb, length, Option, None, Some}
use Rattle.text.specs.Hex.{all_hex, byte_at}

-- the number of n bytes that are spelled from place i on, the first byte being the lowest
unfoldable pub low_first : List ℕ → (i n : ℕ) → ℕ
low_first s i zero = 0
low_first s i (suc n) = byte_at s i + 256 * low_first s (i + 2) n

-- the word of eight bytes
abbrev pub word_at : List ℕ → (i : ℕ) → ℕ
word_at s i = low_first s i 8

-- 32 bytes in order, as four words
unfoldable pub key_of : List ℕ → Option (List ℕ)
key_of s = cond (eqb (length s) 64) (cond (all_hex s) (Some (word_at s 0 ∷ word_at s 16 ∷ word_at s 32 ∷ word_at s 48 ∷ [])) None) None
