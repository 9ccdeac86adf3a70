-- Item 2: the row of a key, and a key's cap. Assumes nothing.
use Rattle.std.specs.Prelude.{List, Option, Some, None, ℕ, zero, suc, ◌+◌, ◌≤◌, ◌<◌, eqb, if◌then◌else◌}
use Rattle.types.specs.Base.{word}
use Rattle.publisher_caps.specs.Key.{number}
use Rattle.publisher_caps.specs.Message.{rows_of, key_at, cap_at}

-- the first of `rows` rows from `from` on that has the key, looked for row by row
unfoldable pub lookup : List ℕ → (key from rows : ℕ) → Option ℕ
lookup m key from zero = None
lookup m key from (suc rows) = if eqb (key_at m from) key then Some from else lookup m key (from + 1) rows

-- the cap of a row that was found
abbrev pub cap_in : List ℕ → Option ℕ → ℕ
cap_in m (Some i) = cap_at m i
cap_in m None = 0

-- 'A publisher without a row has cap 0': the cap of a key among the first `rows` rows
unfoldable pub cap_of : List ℕ → (rows key : ℕ) → ℕ
cap_of m rows key = cap_in m (lookup m key 0 rows)

-- keys with this first word are above those of the rows in front of `low`
abbrev pub AboveFront : List ℕ → (low first : ℕ) → Type 0
AboveFront m low first = (i b c d : ℕ) → i < low → key_at m i < number first b c d

-- they are below those of the rows from `high` on
abbrev pub BelowRest : List ℕ → (high first : ℕ) → Type 0
BelowRest m high first = (i b c d : ℕ) → high ≤ i → i < rows_of m → b < word → c < word → d < word → number first b c d < key_at m i

-- so one of them stands in the rows from `low` up to `high`, if in any
pub record Encloses (m : List ℕ) (low high first : ℕ) : Type 0 where
  pub order : low ≤ high
  pub within : high ≤ rows_of m
  pub above : AboveFront m low first
  pub below : BelowRest m high first
