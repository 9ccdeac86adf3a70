-- What item 6 says at its edges, and what refusals 4, 24 and 27 look at, on the definitions. Assumes nothing.
use mathlib.Core.Path.{◌≡◌, refl}
use mathlib.Core.Bool.{true, false}
use mathlib.Core.List.{[], ◌∷◌, ◌++◌}
use Prim.Native.Nat.{◌-◌, ◌*◌, ◌^◌}
use lib.ListN.{replicate}
use Rattle.types.specs.Base.{refused, accepted, all_below, any_below}
use Rattle.types.specs.Refusals.{invalid_positions, does_not_fit}
use Rattle.positions.specs.declared.Key.{Key}
use Rattle.positions.specs.declared.position.PositionState.TheVariants.{LOCKING, LOCKED, PREUNLOCKING, UNLOCKING}
use Rattle.positions.specs.Key.{same_key}
use Rattle.positions.specs.State.{state_by, state_call, adds}
use Rattle.positions.specs.Positions.{position_holds, positions_hold, in_publisher, has_publisher}

-- ---- states at the edges; document 01's own example stands with the others that are marked P, in integrity_pool

-- without a start
pub at_5_locked : state_by 5 0 8 5 1 ≡ accepted LOCKED
unfolding state_by
at_5_locked = refl

-- the last end of unlocking that is a word, and the first that is not
pub last_end : state_by 5 1 (2 ^ 64 - 2) 5 1 ≡ accepted PREUNLOCKING
unfolding state_by
last_end = refl

pub past_end : state_by 5 1 (2 ^ 64 - 1) 5 1 ≡ refused does_not_fit
unfolding state_by
past_end = refl

-- but not before activation
pub past_end_locking : state_by 5 1 (2 ^ 64 - 1) 4 1 ≡ accepted LOCKING
unfolding state_by
past_end_locking = refl

-- of a list: a voting position has a state too, an empty one has none, and nor have two
pub voting_locked : state_call (1 ∷ 0 ∷ 5 ∷ replicate 6 0) 5 1 ≡ accepted LOCKED
unfolding state_call position_holds state_by
voting_locked = refl

pub empty_has_none : state_call (replicate 9 0) 5 1 ≡ refused invalid_positions
unfolding state_call position_holds state_by
empty_has_none = refl

pub two_have_none : state_call (replicate 18 1) 5 1 ≡ refused invalid_positions
unfolding state_call position_holds state_by
two_have_none = refl

-- item 8: 'LOCKED and PREUNLOCKING add'
pub preunlocking_adds : adds PREUNLOCKING ≡ true
preunlocking_adds = refl

pub unlocking_adds_nothing : adds UNLOCKING ≡ false
unlocking_adds_nothing = refl

-- ---- refusal 4

pub no_positions : positions_hold [] ≡ true
unfolding positions_hold all_below
no_positions = refl

-- the table's example, 'kind 3'
pub kind_3 : positions_hold (3 ∷ replicate 8 0) ≡ false
unfolding positions_hold position_holds all_below
kind_3 = refl

pub voting_flag_2 : positions_hold (1 ∷ 0 ∷ 0 ∷ 2 ∷ replicate 5 0) ≡ false
unfolding positions_hold position_holds all_below
voting_flag_2 = refl

pub pool_with_zero_key : positions_hold (2 ∷ 0 ∷ 0 ∷ 1 ∷ replicate 5 0) ≡ true
unfolding positions_hold position_holds all_below
pool_with_zero_key = refl

-- in an empty one the flag is not looked at
pub empty_flag_2 : positions_hold (0 ∷ 0 ∷ 0 ∷ 2 ∷ replicate 5 0) ≡ true
unfolding positions_hold position_holds all_below
empty_flag_2 = refl

pub ten_words : positions_hold (replicate 10 0) ≡ false
unfolding positions_hold position_holds all_below
ten_words = refl

pub empty_256 : positions_hold (replicate (256 * 9) 0) ≡ true
unfolding positions_hold position_holds all_below
empty_256 = refl

-- empty ones count
pub empty_257 : positions_hold (replicate (257 * 9) 0) ≡ false
unfolding positions_hold position_holds all_below
empty_257 = refl

-- ---- refusals 24 and 27

abbrev publisher : Key
publisher = record { 0 = 7; 1 = 8; 2 = 9; 3 = 10 }

pub pool_in_publisher : has_publisher (replicate 9 0 ++ (2 ∷ 0 ∷ 0 ∷ 0 ∷ 0 ∷ 7 ∷ 8 ∷ 9 ∷ 10 ∷ [])) publisher ≡ true
unfolding has_publisher in_publisher same_key any_below
pool_in_publisher = refl

pub voting_in_none : has_publisher (1 ∷ 0 ∷ 0 ∷ 0 ∷ 0 ∷ 7 ∷ 8 ∷ 9 ∷ 10 ∷ []) publisher ≡ false
unfolding has_publisher in_publisher same_key any_below
voting_in_none = refl

pub pool_in_another : has_publisher (2 ∷ 0 ∷ 0 ∷ 0 ∷ 0 ∷ 7 ∷ 8 ∷ 9 ∷ 11 ∷ []) publisher ≡ false
unfolding has_publisher in_publisher same_key any_below
pool_in_another = refl
