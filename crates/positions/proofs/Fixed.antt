-- What fixes a state and the answer of a state's number. Assumes nothing.
use mathlib.Core.Path.{◌≡◌, refl, sym, ap, ◌∙◌}
use Prim.Native.Nat.{ℕ, ◌≤◌}
use native.Mathlib.Omega.{arith}
use lib.Dec.{eqb}
use Rattle.std.specs.Prelude.{Result, Ok, Err, if◌then◌else◌}
use Rattle.types.proofs.Fixed.{by_return}
use Rattle.positions.specs.declared.position.PositionState.{PositionState}
use Rattle.positions.specs.declared.position.PositionState.TheVariants.{UNLOCKED, LOCKING, LOCKED, PREUNLOCKING, UNLOCKING}
use Rattle.positions.specs.declared.position.UnknownState.{UnknownState}
use Rattle.positions.specs.State.{state_number, StateNumbered}

state_from : ℕ → PositionState
state_from n =
    if eqb n 0 then UNLOCKED
    else if eqb n 1 then LOCKING
    else if eqb n 2 then LOCKED
    else if eqb n 3 then PREUNLOCKING
    else UNLOCKING

again : (s : PositionState) → state_from (state_number s) ≡ s
unfolding state_from
again UNLOCKED = refl
again LOCKING = refl
again LOCKED = refl
again PREUNLOCKING = refl
again UNLOCKING = refl

-- states with the same number are the same
pub state_number_fixes : (a b : PositionState) → state_number a ≡ state_number b → a ≡ b
state_number_fixes = by_return state_number state_from again

state_few : (s : PositionState) → state_number s ≤ 4
state_few UNLOCKED = omega arith
state_few LOCKING = omega arith
state_few LOCKED = omega arith
state_few PREUNLOCKING = omega arith
state_few UNLOCKING = omega arith

-- and a number has one answer
pub state_numbered_fixes : (n : ℕ) (x y : Result PositionState UnknownState) → StateNumbered n x → StateNumbered n y → x ≡ y
state_numbered_fixes n (Ok a) (Ok b) p q = ap Ok (state_number_fixes a b (p ∙ sym q))
state_numbered_fixes n (Ok a) (Err e) p q = absurd (omega (arith, state_few a))
state_numbered_fixes n (Err e) (Ok b) p q = absurd (omega (arith, state_few b))
state_numbered_fixes n (Err e) (Err f) p q = ap Err (λ i. record { 0 = (p.1 ∙ sym q.1) i })
