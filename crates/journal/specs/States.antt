-- The states of a position by name. Assumes nothing.
use Rattle.std.specs.Prelude.{ℕ, List, [], ◌∷◌, Option, codes}
use Rattle.std.specs.List.{find}
use Rattle.std.specs.Str.{bytes_eq}
use Rattle.positions.specs.declared.position.PositionState.{PositionState}
use Rattle.positions.specs.declared.position.PositionState.TheVariants.{UNLOCKED, LOCKING, LOCKED, PREUNLOCKING, UNLOCKING}

abbrev pub states : List PositionState
states = LOCKING ∷ LOCKED ∷ PREUNLOCKING ∷ UNLOCKING ∷ UNLOCKED ∷ []

abbrev pub state_name : PositionState → List ℕ
state_name LOCKING = codes "LOCKING"
state_name LOCKED = codes "LOCKED"
state_name PREUNLOCKING = codes "PREUNLOCKING"
state_name UNLOCKING = codes "UNLOCKING"
state_name UNLOCKED = codes "UNLOCKED"

-- the state of a name
abbrev pub state_of : List ℕ → Option PositionState
state_of name = find (λ state. bytes_eq (state_name state) name) states
