-- The view of a side fixes it. Assumes nothing.
use Rattle.std.proofs.Common.{◌≡◌, refl}
use Rattle.types.proofs.Fixed.{by_return}
use Rattle.delegation.specs.declared.DelegationState.{DelegationState}
use Rattle.delegation.specs.Side.{Side, side_of}

abbrev state : Side → DelegationState
state s = record { total_delegation = record { 0 = s.total }; delta_delegation = s.change }

-- two sides with the same total and change are the same
pub side_of_fixes : (a b : DelegationState) → side_of a ≡ side_of b → a ≡ b
side_of_fixes = by_return side_of state (λ a. refl)
