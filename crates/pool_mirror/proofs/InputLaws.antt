-- What the calls are given: keys of four words, and states by their numbers. Assumes nothing.
use mathlib.Core.Path.{◌≡◌, refl}
use Prim.Native.Nat.{ℕ}
use borrow.Author.Tests.{ne_eqb}
use Rattle.positions.specs.declared.position.PositionState.{PositionState}
use Rattle.positions.specs.declared.position.PositionState.TheVariants.{LOCKING, LOCKED, PREUNLOCKING, UNLOCKING, UNLOCKED}
use Rattle.positions.specs.State.{state_number}
use Rattle.pool_mirror.specs.Inputs.{state_of}

-- a number that is no state's
pub is_other : (n : ℕ) → (n ≡ 0 → ⊥) → (n ≡ 1 → ⊥) → (n ≡ 2 → ⊥) → (n ≡ 3 → ⊥) → UNLOCKING ≡ state_of n
unfolding state_of
is_other n a b c d = rw (ne_eqb _ _ a, ne_eqb _ _ b, ne_eqb _ _ c, ne_eqb _ _ d) refl

-- the number that is answered for a state is one that a remove takes for it
pub state_number_read : (s : PositionState) → state_of (state_number s) ≡ s
unfolding state_of
state_number_read UNLOCKED = refl
state_number_read LOCKING = refl
state_number_read LOCKED = refl
state_number_read PREUNLOCKING = refl
state_number_read UNLOCKING = refl
