-- What is wrong with a line whose fields are each right, and why a line isn't answered with `ok`. Assumes nothing.
use Rattle.std.specs.Prelude.{ℕ, ◌==◌, cond, List, Option, None, Some, Result, Ok, Err}
use Rattle.positions.specs.declared.Key.{Key}
use Rattle.types.specs.declared.refusals.Refusal.TheVariants.{InvalidImage}
use Rattle.files.specs.declared.LoadError.{LoadError}
use Rattle.files.specs.declared.LoadError.TheVariants as load
use Rattle.files.specs.declared.SaveError.{SaveError}
use Rattle.files.specs.declared.SaveError.TheVariants as save
use Rattle.journal.specs.declared.fault.Fault.{Fault}
use Rattle.journal.specs.declared.fault.Fault.TheVariants as fault
use Rattle.journal.specs.declared.values.Value.{Value}
use Rattle.mirror.specs.declared.failure.FieldFault.{FieldFault}
use Rattle.mirror.specs.declared.failure.Failure.{Failure}
use Rattle.mirror.specs.declared.failure.Failure.TheVariants.{Refused, Wrong}
use Rattle.mirror.specs.Args.{key_or_none}

-- an account that is there has its owner, an absent one has none
abbrev pub owner_fault : (account owner : Option Key) → Result (Unit {0}) Fault
owner_fault (Some account) None = Err fault.NoOwner
owner_fault None (Some owner) = Err fault.NoAccount
owner_fault (Some account) (Some owner) = Ok tt
owner_fault None None = Ok tt

-- an absent account has no positions; `words` is how many words their list has
abbrev pub positions_fault : (account : Option Key) → (words : ℕ) → Result (Unit {0}) Fault
positions_fault (Some account) words = Ok tt
positions_fault None words = cond (words == 0) (Ok tt) (Err fault.NoAccount)

-- the first of two faults, each with the place of its field
abbrev pub at_field : (field : ℕ) → Result (Unit {0}) Fault → Result (Unit {0}) FieldFault → Result (Unit {0}) FieldFault
at_field k (Err f) rest = Err (record { field = k; fault = f })
at_field k (Ok u) rest = rest

-- the old account's owner, its positions, then the new one's, whose owner is not asked for; `old` and `new` are how many words the lists have
abbrev pub accounts_fault : List Value → (old new : ℕ) → Result (Unit {0}) FieldFault
accounts_fault values old new =
    at_field 4 (owner_fault (key_or_none values 3) (key_or_none values 4))
    (at_field 5 (positions_fault (key_or_none values 3) old)
    (at_field 7 (positions_fault (key_or_none values 6) new)
    (Ok tt)))

-- a file that ends within a word is no image: refusal 1. A path is its call's first field
abbrev pub load_failure : LoadError → Failure
load_failure load.NotWhole = Refused InvalidImage
load_failure load.CannotRead = Wrong (record { field = 0; fault = fault.NoFile })

abbrev pub save_failure : SaveError → Failure
save_failure save.CannotWrite = Wrong (record { field = 0; fault = fault.CannotWrite })
save_failure save.FolderUnwritten = Wrong (record { field = 0; fault = fault.FolderUnwritten })
