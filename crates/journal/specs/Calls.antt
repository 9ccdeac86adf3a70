-- The calls: their names, and their fields. Assumes nothing.
use Rattle.std.specs.Prelude.{ℕ, Bool, true, false, List, [], ◌∷◌, Option, None, Some, codes, map, slice_get}
use Rattle.std.specs.Borrow.{Bor}
use Rattle.std.specs.List.{find}
use Rattle.std.specs.Str.{bytes_eq}
use Rattle.journal.specs.declared.calls.Kind.{Kind}
use Rattle.journal.specs.declared.calls.Kind.TheVariants as kind
use Rattle.journal.specs.declared.calls.Call.{Call}
use Rattle.journal.specs.declared.calls.Call.TheVariants.{New, Settings, Image, Nonzero, Load, Save, Fresh, Advance, Forecast, Payment, Add, Remove}
use Rattle.journal.specs.declared.calls.Call.TheVariants.{CreateSlashEvent, Slash, Fee, StakeAccount, Show, State, Split, Help, Quit}

abbrev pub calls : List Call
calls =
    New
    ∷ Settings
    ∷ Image
    ∷ Nonzero
    ∷ Load
    ∷ Save
    ∷ Fresh
    ∷ Advance
    ∷ Forecast
    ∷ Payment
    ∷ Add
    ∷ Remove
    ∷ CreateSlashEvent
    ∷ Slash
    ∷ Fee
    ∷ StakeAccount
    ∷ Show
    ∷ State
    ∷ Split
    ∷ Help
    ∷ Quit
    ∷ []

abbrev pub call_name : Call → List ℕ
call_name New = codes "new"
call_name Settings = codes "settings"
call_name Image = codes "image"
call_name Nonzero = codes "nonzero"
call_name Load = codes "load"
call_name Save = codes "save"
call_name Fresh = codes "fresh"
call_name Advance = codes "advance"
call_name Forecast = codes "forecast"
call_name Payment = codes "payment"
call_name Add = codes "add"
call_name Remove = codes "remove"
call_name CreateSlashEvent = codes "create-slash-event"
call_name Slash = codes "slash"
call_name Fee = codes "fee"
call_name StakeAccount = codes "stake-account"
call_name Show = codes "show"
call_name State = codes "state"
call_name Split = codes "split"
call_name Help = codes "help"
call_name Quit = codes "quit"

-- the call of a name
abbrev pub call_of : List ℕ → Option Call
call_of name = find (λ call. bytes_eq (call_name call) name) calls

-- fields by name and kind
abbrev pub number : List ℕ → List ℕ × Kind
number name = (name, kind.Number)

abbrev pub key : List ℕ → List ℕ × Kind
key name = (name, kind.Key)

abbrev pub key_or_none : List ℕ → List ℕ × Kind
key_or_none name = (name, kind.KeyOrNone)

abbrev pub positions : List ℕ → List ℕ × Kind
positions name = (name, kind.Positions)

-- NOW PUBLISHER ACCOUNT, which the calls on an account's stake begin with
abbrev pub delegation : List (List ℕ × Kind) → List (List ℕ × Kind)
delegation rest = number (codes "NOW") ∷ key (codes "PUBLISHER") ∷ key (codes "ACCOUNT") ∷ rest

-- NOW Y CUSTODY VERIFIED CAPS
abbrev pub epoch_fields : List (List ℕ × Kind)
epoch_fields =
    number (codes "NOW")
    ∷ number (codes "Y")
    ∷ number (codes "CUSTODY")
    ∷ number (codes "VERIFIED")
    ∷ (codes "CAPS", kind.Message)
    ∷ []

-- the fields of each call in order
abbrev pub fields_of : Call → List (List ℕ × Kind)
fields_of New = number (codes "P") ∷ number (codes "E") ∷ []
fields_of Settings = number (codes "SECONDS") ∷ number (codes "UNLOCKING") ∷ []
fields_of Image = (codes "WORDS", kind.Words) ∷ []
fields_of Nonzero = []
fields_of Load = (codes "PATH", kind.Path) ∷ []
fields_of Save = (codes "PATH", kind.Path) ∷ []
fields_of Fresh = number (codes "EPOCH") ∷ []
fields_of Advance = epoch_fields
fields_of Forecast = epoch_fields
fields_of Payment =
    delegation
    (number (codes "RECORD_EPOCH")
    ∷ number (codes "NEXT_INDEX")
    ∷ key_or_none (codes "PUBLISHER_ACCOUNT")
    ∷ number (codes "CUSTODY_FLAG")
    ∷ positions (codes "POSITIONS")
    ∷ [])
fields_of Add = delegation (number (codes "AMOUNT") ∷ [])
fields_of Remove = delegation (number (codes "AMOUNT") ∷ (codes "STATE", kind.State) ∷ [])
fields_of CreateSlashEvent = number (codes "NOW") ∷ key (codes "PUBLISHER") ∷ number (codes "INDEX") ∷ []
fields_of Slash =
    delegation
    (number (codes "RECORD_EPOCH")
    ∷ number (codes "NEXT_INDEX")
    ∷ number (codes "INDEX")
    ∷ number (codes "EVENT_EPOCH")
    ∷ number (codes "LOCKED")
    ∷ number (codes "PREUNLOCKING")
    ∷ [])
fields_of Fee = number (codes "FEE") ∷ []
fields_of StakeAccount =
    key (codes "PUBLISHER")
    ∷ key (codes "SIGNER")
    ∷ key (codes "AUTHORITY")
    ∷ key_or_none (codes "OLD")
    ∷ key_or_none (codes "OLD_OWNER")
    ∷ positions (codes "OLD_POSITIONS")
    ∷ key_or_none (codes "NEW")
    ∷ positions (codes "NEW_POSITIONS")
    ∷ []
fields_of Show = []
fields_of State = number (codes "EPOCH") ∷ positions (codes "POSITION") ∷ []
fields_of Split = number (codes "REWARD") ∷ (codes "WEIGHTS", kind.Weights) ∷ []
fields_of Help = (codes "CALL", kind.Call) ∷ []
fields_of Quit = []

-- a list of fields as it is read
abbrev pub fields_as : List (Bor (List ℕ) × Kind) → List (List ℕ × Kind)
fields_as fields = map (λ field. (field.0.now, field.1)) fields

-- the kind of field k of a call, if there is one
abbrev pub kind_of : Call → (k : ℕ) → Option Kind
kind_of call k = slice_get (map (λ field. field.1) (fields_of call)) k

-- whether a field may be missing: none is left, or only the call that `help` may have, or the words that `image` may
abbrev pub may_miss : Option Kind → Bool
may_miss None = true
may_miss (Some kind.Number) = false
may_miss (Some kind.Key) = false
may_miss (Some kind.KeyOrNone) = false
may_miss (Some kind.State) = false
may_miss (Some kind.Message) = false
may_miss (Some kind.Path) = false
may_miss (Some kind.Positions) = false
may_miss (Some kind.Weights) = false
may_miss (Some kind.Words) = true
may_miss (Some kind.Call) = true

-- whether a call with its first k fields is whole
abbrev pub whole_of : Call → (k : ℕ) → Bool
whole_of call k = may_miss (kind_of call k)
