-- Fields as they are read: what is wrong with one, and what is stored of it. Assumes nothing.
use Rattle.std.specs.Prelude.{◌≡◌, ℕ, ◌+◌, ◌<◌, ◌≤◌, Bool, false, cond, List, ◌++◌, length, take, drop, min, nat_le, Option, None, Some, Result, Ok, Err, IfOk}
use Rattle.std.specs.Option.{ok_or}
use Rattle.std.specs.Str.{bytes_eq}
use Rattle.text.specs.declared.items.WordError.{WordError}
use Rattle.text.specs.Hex.{bytes_of, spelled}
use Rattle.text.specs.Items.{items}
use Rattle.text.specs.Words.{dash, comma, words_of, numbers, laid, list_of, listed}
use Rattle.journal.specs.declared.calls.Kind.{Kind}
use Rattle.journal.specs.declared.calls.Kind.TheVariants as kind
use Rattle.journal.specs.declared.calls.Call.{Call}
use Rattle.journal.specs.declared.fault.Fault.{Fault}
use Rattle.journal.specs.declared.fault.Fault.TheVariants.{TooFew, TooMany, NotMessage, LongPath, LongField}
use Rattle.journal.specs.declared.input.Stop.{Stop}
use Rattle.journal.specs.declared.input.Stop.TheVariants.{TooLong}
use Rattle.journal.specs.Calls.{whole_of}

-- a message: how many bytes it has, or what is wrong; `-` is the empty one
unfoldable pub message_of : List ℕ → (room : ℕ) → Result ℕ Fault
message_of s room = cond (bytes_eq s dash) (Ok 0) (ok_or (bytes_of s room) NotMessage)

pub record MessageRead (s old new : List ℕ) (result : Result ℕ Fault) : Type 0 where
  pub within : IfOk result (λ count. count ≤ length old)
  pub told : result ≡ message_of s (length old)
  pub kept : new ≡ cond (bytes_eq s dash) old (spelled (bytes_of s (length old)) s old)

-- a path: its bytes stand at the start, where they have room
pub record PathRead (s old new : List ℕ) (result : Result ℕ Fault) : Type 0 where
  pub within : IfOk result (λ count. count ≤ length old)
  pub told : result ≡ cond (nat_le (length s) (length old)) (Ok (length s)) (Err LongPath)
  pub kept : new ≡ cond (nat_le (length s) (length old)) (s ++ drop (length s) old) old

-- a list, or a part of one, which has a word at least where there is room
unfoldable pub part_of : (whole : Bool) → List ℕ → (room : ℕ) → Result ℕ WordError
part_of whole s room = cond whole (list_of s room) (words_of (items comma s) room 0)

unfoldable pub parted : (whole : Bool) → List ℕ → List ℕ → List ℕ
parted whole s out = cond whole (listed s out) (laid (numbers (items comma s)) out)

pub record ListRead (whole : Bool) (s old new : List ℕ) (result : Result ℕ WordError) : Type 0 where
  pub within : IfOk result (λ count. count ≤ length old)
  pub grows : whole ≡ false → 0 < length old → IfOk result (λ count. 0 < count)
  pub told : result ≡ part_of whole s (length old)
  pub kept : new ≡ parted whole s old

-- the room for a list: 257 positions of nine words for positions, 65 weights, what is left for an image
abbrev pub room_of : Kind → (left : ℕ) → ℕ
room_of kind.Positions left = min left 2313
room_of kind.Weights left = min left 65
room_of _ left = left

-- an item that the buffer can't hold: a message may go beyond
abbrev pub unended_of : Kind → Stop → Result (Unit {0}) Fault
unended_of kind.Message TooLong = Ok tt
unended_of _ TooLong = Err LongField
unended_of _ _ = Ok tt

-- a call that ends after k fields
abbrev pub cut_of : Call → (k : ℕ) → Result (Unit {0}) Fault
cut_of call k = cond (whole_of call k) (Ok tt) (Err TooFew)

-- the field that is wrong of a line of which k fields were read: the next one, which may be missing; a field too many has no name
abbrev pub wrong_field : Fault → (k : ℕ) → Option ℕ
wrong_field TooMany k = None
wrong_field _ k = Some k

-- the values of one field more, those before it as they were
abbrev pub OneMore : {T : Type 0} → List T → List T → Type 0
OneMore old new = (take (length old) new ≡ old) × (length new ≡ length old + 1)
