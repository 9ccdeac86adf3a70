-- Item 1: the floor of a product over a divisor, with its remainder. Assumes nothing.
use Rattle.std.specs.Prelude.{◌≡◌, ℕ, ◌+◌, ◌*◌, ◌/◌, ◌%◌, ◌<◌, ltb, if◌then◌else◌, Option, Some, None}
use Rattle.types.specs.Base.{word}
use Rattle.types.specs.declared.mul_div.Divided.{Divided}

-- the floor of a * b over d and the remainder, where that floor is a word; a divisor of 0 is never so
unfoldable pub mul_div_of : (a b d : ℕ) → Option Divided
mul_div_of a b d = if ltb (a * b) (d * word) then Some (record { quotient = a * b / d; remainder = a * b % d }) else None

-- q and r are the quotient and the remainder of n by d, which is not 0
pub record Division (n d q r : ℕ) : Type 0 where
  pub whole : q * d + r ≡ n
  pub small : r < d
