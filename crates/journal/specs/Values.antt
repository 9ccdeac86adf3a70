-- Fields of one value. Assumes nothing.
use Rattle.std.specs.Prelude.{ℕ, cond, List, Option, None, Some, Result, Ok, Err, codes, slice_get}
use Rattle.std.specs.Str.{bytes_eq}
use Rattle.text.specs.declared.NumberError.{NumberError}
use Rattle.text.specs.Decimal.{number_of}
use Rattle.text.specs.Key.{key_of}
use Rattle.positions.specs.declared.position.PositionState.{PositionState}
use Rattle.positions.specs.declared.position.PositionState.TheVariants.{UNLOCKED}
use Rattle.journal.specs.declared.calls.Kind.{Kind}
use Rattle.journal.specs.declared.calls.Kind.TheVariants as kind
use Rattle.journal.specs.declared.calls.Call.{Call as Call·call}
use Rattle.journal.specs.declared.fault.Fault.{Fault}
use Rattle.journal.specs.declared.fault.Fault.TheVariants.{UnknownCall, NotKey, NotState}
use Rattle.journal.specs.declared.values.Value.{Value}
use Rattle.journal.specs.declared.values.Value.TheVariants.{Number, Key, NoKey, State, Call}
use Rattle.journal.specs.Calls.{call_of}
use Rattle.journal.specs.Faults.{number_fault}
use Rattle.journal.specs.States.{state_of}

abbrev pub number_value : Result ℕ NumberError → Result Value Fault
number_value (Ok n) = Ok (Number n)
number_value (Err e) = Err (number_fault e)

abbrev pub key_value : Option (List ℕ) → Result Value Fault
key_value (Some words) = Ok (Key words)
key_value None = Err NotKey

abbrev pub state_value : Option PositionState → Result Value Fault
state_value (Some state) = Ok (State state)
state_value None = Err NotState

abbrev pub call_value : Option Call·call → Result Value Fault
call_value (Some call) = Ok (Call call)
call_value None = Err UnknownCall

-- a field of one value: a number, a state, a call, a key, or a key or none
abbrev pub value_of : Kind → List ℕ → Result Value Fault
value_of kind.Number s = number_value (number_of s)
value_of kind.State s = state_value (state_of s)
value_of kind.Call s = call_value (call_of s)
value_of kind.KeyOrNone s = cond (bytes_eq s (codes "none")) (Ok NoKey) (key_value (key_of s))
value_of kind.Key s = key_value (key_of s)
value_of kind.Message s = key_value (key_of s)
value_of kind.Path s = key_value (key_of s)
value_of kind.Positions s = key_value (key_of s)
value_of kind.Weights s = key_value (key_of s)
value_of kind.Words s = key_value (key_of s)

-- a number, 0 where there is none
abbrev pub number_in : Option Value → ℕ
number_in (Some (Number n)) = n
number_in _ = 0

-- a key, if there is one
abbrev pub key_in : Option Value → Option (List ℕ)
key_in (Some (Key words)) = Some words
key_in _ = None

-- a state, UNLOCKED where there is none
abbrev pub state_in : Option Value → PositionState
state_in (Some (State state)) = state
state_in _ = UNLOCKED

-- a call, if there is one
abbrev pub call_in : Option Value → Option Call·call
call_in (Some (Call call)) = Some call
call_in _ = None

-- the same of field k of a line
abbrev pub number_at : List Value → (k : ℕ) → ℕ
number_at values k = number_in (slice_get values k)

abbrev pub key_at : List Value → (k : ℕ) → Option (List ℕ)
key_at values k = key_in (slice_get values k)

abbrev pub state_at : List Value → (k : ℕ) → PositionState
state_at values k = state_in (slice_get values k)

abbrev pub call_at : List Value → (k : ℕ) → Option Call·call
call_at values k = call_in (slice_get values k)

-- what is said of a value that is stored
abbrev pub told_of : Result Value Fault → Result (Unit {0}) Fault
told_of (Ok value) = Ok tt
told_of (Err fault) = Err fault
