-- Item 1's marks for up to 1,024 rows: row i is bit i mod 64 of word i / 64. Assumes nothing.
use Rattle.std.specs.Prelude.{Bool, ◌&&◌, List, ℕ, ◌/◌, ◌%◌, ◌^◌, ltb, eqb, get_or, set, if◌then◌else◌}
use Rattle.std.specs.Int.Bits.{bit_or}
use Rattle.types.specs.Base.{count_below}

-- bit b of a word
abbrev pub bit_at : (w b : ℕ) → ℕ
bit_at w b = w / 2 ^ b % 2

-- whether row i is marked; rows count from 0, and from 1,024 on none ever is
unfoldable pub marked : List ℕ → ℕ → Bool
marked words i = ltb i 1_024 && eqb (bit_at (get_or words (i / 64) 0) (i % 64)) 1

-- the marks with row i marked too
unfoldable pub with_mark : List ℕ → ℕ → List ℕ
with_mark words i = if ltb i 1_024 then set words (i / 64) (bit_or (get_or words (i / 64) 0) (2 ^ (i % 64))) else words

-- how many rows are marked
abbrev pub marked_rows : List ℕ → ℕ
marked_rows words = count_below 1_024 (marked words)
