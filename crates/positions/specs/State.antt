-- Item 6: the state of a position in an epoch. Assumes nothing.
use Rattle.std.specs.Prelude.{Bool, true, false, not, List, ℕ, ◌+◌, ◌≡◌, ◌<◌, ltb, leb, eqb, length, get_or, if◌then◌else◌, Result, Ok, Err}
use Rattle.types.specs.Base.{word, Outcome, refused, accepted}
use Rattle.types.specs.Refusals.{invalid_positions, does_not_fit}
use Rattle.positions.specs.declared.position.Position.{Position}
use Rattle.positions.specs.declared.position.PositionState.{PositionState}
use Rattle.positions.specs.declared.position.PositionState.TheVariants.{UNLOCKED, LOCKING, LOCKED, PREUNLOCKING, UNLOCKING}
use Rattle.positions.specs.declared.position.UnknownState.{UnknownState}
use Rattle.positions.specs.Positions.{position_from, position_holds}

-- 'Before activation LOCKING; no start LOCKED; before start PREUNLOCKING; before start + unlocking length UNLOCKING; else UNLOCKED. Once
-- activated, a start + unlocking length past 64 bits is 13.' There is a start where the flag is 1.
unfoldable pub state_by : (activation flag start epoch unlocking : ℕ) → Outcome PositionState
state_by activation flag start epoch unlocking =
    if ltb epoch activation then accepted LOCKING
    else if not (eqb flag 1) then accepted LOCKED
    else if leb word (start + unlocking) then refused does_not_fit
    else if ltb epoch start then accepted PREUNLOCKING
    else if ltb epoch (start + unlocking) then accepted UNLOCKING
    else accepted UNLOCKED

-- the same of a position
abbrev pub state_of : Position → (epoch unlocking : ℕ) → Outcome PositionState
state_of p epoch unlocking = state_by p.activation_epoch.0 p.start_flag p.unlocking_start.0 epoch unlocking

-- a state's number, by the Rust's order
abbrev pub state_number : PositionState → ℕ
state_number UNLOCKED = 0
state_number LOCKING = 1
state_number LOCKED = 2
state_number PREUNLOCKING = 3
state_number UNLOCKING = 4

-- the state that has a number, or that none has it
abbrev pub StateNumbered : ℕ → Result PositionState UnknownState → Type 0
StateNumbered n (Ok s) = state_number s ≡ n
StateNumbered n (Err e) = (4 < n) × (e.0 ≡ n)

-- item 6 of a list of words that is one position. Refusal 4, 'positions: not whole nines, over 256, kind, flag', is due for any length but
-- nine, and where kind or flag is wrong; and for kind 0, since an empty position has no state
unfoldable pub state_call : List ℕ → (epoch unlocking : ℕ) → Outcome PositionState
state_call words epoch unlocking =
    if not (eqb (length words) 9) then refused invalid_positions
    else if not (position_holds words 0) then refused invalid_positions
    else if eqb (get_or words 0 0) 0 then refused invalid_positions
    else state_of (position_from words 0) epoch unlocking

-- item 8: 'LOCKED and PREUNLOCKING add'
abbrev pub adds : PositionState → Bool
adds UNLOCKED = false
adds LOCKING = false
adds LOCKED = true
adds PREUNLOCKING = true
adds UNLOCKING = false
