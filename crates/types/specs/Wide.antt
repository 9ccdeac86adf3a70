-- Numbers of two words. Assumes nothing.
use Rattle.std.specs.Prelude.{ℕ, ◌+◌, ◌*◌, ltb, if◌then◌else◌, Option, Some, None}
use Rattle.types.specs.Base.{word}
use Rattle.types.specs.declared.wide.Wide.{Wide}

-- the number of two words
unfoldable pub wide_of : Wide → ℕ
wide_of n = n.hi * word + n.lo

-- a number, where it is a word
unfoldable pub fit_of : ℕ → Option ℕ
fit_of n = if ltb n word then Some n else None
