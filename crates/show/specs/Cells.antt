-- Numbers and keys as people read them. Assumes nothing.
use Rattle.std.specs.Prelude.{cond, List, [], ◌∷◌, ◌++◌, length, ℕ, ◌-◌, ◌/◌, ◌%◌, ◌^◌, ltb, codes, ℤ, pos, neg_ℤ}
use Rattle.std.specs.List.{repeat}
use Rattle.io.specs.Digits.{hex_digit_ascii}
use Rattle.types.specs.Base.{half, word}
use Rattle.positions.specs.declared.Key.{Key}
use Rattle.positions.specs.Key.{same_key}
use Rattle.image.specs.Seats.{zero_key}

-- a text in a column of so many places, to the right; a longer one moves the rest of its line
unfoldable pub to_right : (places : ℕ) → List ℕ → List ℕ
to_right places text = repeat (places - length text) (codes " ") ++ text

-- a signed word: from 2^63 on it stands for itself less 2^64
unfoldable pub signed_of : ℕ → ℤ
signed_of w = cond (ltb w half) (pos w) (neg_ℤ (pos (word - w)))

-- a byte's two hexadecimal digits
abbrev pub hex_byte : ℕ → List ℕ
hex_byte b = hex_digit_ascii (b / 16) ∷ hex_digit_ascii (b % 16) ∷ []

-- the lowest four bytes of a word, the lowest first
unfoldable pub four_bytes_of : ℕ → List ℕ
four_bytes_of w = hex_byte (w % 256) ++ (hex_byte (w / 256 % 256) ++ (hex_byte (w / 256 ^ 2 % 256) ++ hex_byte (w / 256 ^ 3 % 256)))

-- a key's first four bytes, two dots, its last four
unfoldable pub short_key : Key → List ℕ
short_key k = four_bytes_of k.0 ++ (46 ∷ 46 ∷ four_bytes_of (k.3 / 2 ^ 32))

-- the same, or `none` for the zero key
unfoldable pub short_text : Key → List ℕ
short_text k = cond (same_key k zero_key) (codes "none") (short_key k)
