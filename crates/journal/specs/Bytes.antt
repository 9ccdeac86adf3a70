-- Lists of bytes. Assumes nothing.
use Rattle.std.specs.Prelude.{◌≡◌, ℕ, ◌-◌, Bool, true, false, cond, List, length, ◌==◌, take, Option, None, Some, IfSome, slice_get, slice_index}
use Rattle.std.specs.List.{list_any}
use Rattle.journal.specs.declared.input.Over.{Over}
use Rattle.journal.specs.declared.input.Over.TheVariants.{Spaces, Item, Line}
use Rattle.journal.specs.declared.input.Stop.{Stop}
use Rattle.journal.specs.declared.input.Stop.TheVariants.{Byte, End, TooLong}

-- whether a list holds the byte b
abbrev pub has : ℕ → List ℕ → Bool
has b s = list_any (λ x. x == b) s

-- the byte at place `at` of the unread bytes, which end at `end`
abbrev pub at_hand : (buffer : List ℕ) (at end : ℕ) → Option ℕ
at_hand buffer at end = slice_get (take end buffer) at

-- a byte that is told stands there
abbrev pub AtHand : Option ℕ → (buffer : List ℕ) (at end : ℕ) → Type 0
AtHand byte buffer at end = IfSome byte (λ b. at_hand buffer at end ≡ Some b)

-- and so does one that ended an item
abbrev pub StopsAt : Stop → (buffer : List ℕ) (at end : ℕ) → Type 0
StopsAt (Byte b) buffer at end = at_hand buffer at end ≡ Some b
StopsAt End buffer at end = Unit {0}
StopsAt TooLong buffer at end = Unit {0}

-- whether a byte is passed over: of spaces a space alone, of an item's rest all but a space, of a line's rest all; a line's end never is
abbrev pub is_over : Over → (byte : ℕ) → Bool
is_over Spaces byte = byte == 32
is_over Item byte = cond (byte == 10) false (cond (byte == 32) false true)
is_over Line byte = cond (byte == 10) false true

-- whether a line ends at what stands there: a line's end, or no byte
abbrev pub ends_at : Option ℕ → Bool
ends_at None = true
ends_at (Some byte) = byte == 10

-- whether a carriage return before what ended an item is no part of it: where the line's end or the input's follows
abbrev pub ends_line : Stop → Bool
ends_line (Byte byte) = byte == 10
ends_line End = true
ends_line TooLong = false

-- an item as it counts
abbrev pub counted_of : List ℕ → Stop → List ℕ
counted_of s stop = cond (ends_line stop) (cond (slice_index s (length s - 1) == 13) (take (length s - 1) s) s) s
