-- A key as a number below 2^256: its 32 bytes in order, the first the highest. Keys compare by bytes as these numbers do. Assumes nothing.
use Rattle.std.specs.Prelude.{List, [], ◌∷◌, ℕ, zero, suc, ◌+◌, ◌*◌, ◌/◌, ◌%◌, ◌^◌, get_or}
use Rattle.types.specs.Base.{word}
use Rattle.positions.specs.declared.Key.{Key}
use Rattle.publisher_caps.specs.declared.key.KeyNumber.{KeyNumber}

-- the `count` bytes from `at` on as a big-endian number
unfoldable pub big_endian : List ℕ → (at count : ℕ) → ℕ
big_endian m at zero = 0
big_endian m at (suc count) = big_endian m at count * 256 + get_or m (at + count) 0

-- the same bytes as a little-endian number
unfoldable pub little_endian : List ℕ → (at count : ℕ) → ℕ
little_endian m at zero = 0
little_endian m at (suc count) = get_or m at 0 + 256 * little_endian m (at + 1) count

-- the eight bytes of a little-endian word, the lowest first
abbrev pub bytes_of : ℕ → List ℕ
bytes_of x =
    x % 256 ∷ x / 256 % 256 ∷ x / 256 ^ 2 % 256 ∷ x / 256 ^ 3 % 256 ∷ x / 256 ^ 4 % 256 ∷ x / 256 ^ 5 % 256 ∷ x / 256 ^ 6 % 256
    ∷ x / 256 ^ 7 % 256 ∷ []

-- a little-endian word's bytes as a big-endian number
unfoldable pub swapped : ℕ → ℕ
swapped x = big_endian (bytes_of x) 0 8

-- a number and one word below it
unfoldable pub pair : (high low : ℕ) → ℕ
pair high low = high * word + low

-- four words, the highest first
abbrev pub number : (a b c d : ℕ) → ℕ
number a b c d = pair (pair (pair a b) c) d

-- a key of the image, whose words are little-endian
abbrev pub number_of : Key → ℕ
number_of k = number (swapped k.0) (swapped k.1) (swapped k.2) (swapped k.3)

-- the same of a key whose words are such numbers already
abbrev pub number_by : KeyNumber → ℕ
number_by k = number k.0 k.1 k.2 k.3
