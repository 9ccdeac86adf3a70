-- One side's total and change (items 4 and 9 of document 01), on numbers. The change is the word of the image. Assumes nothing.
use Rattle.std.specs.Prelude.{ℕ, ◌+◌, ◌-◌, ◌%◌, Bool, ◌&&◌, ltb, nat_le, nat_lt, if◌then◌else◌}
use Rattle.types.specs.Base.{word, half, Outcome, refused, accepted, map_outcome}
use Rattle.types.specs.Refusals.{does_not_fit, unexpected_position_state}
use Rattle.positions.specs.declared.position.PositionState.{PositionState}
use Rattle.positions.specs.declared.position.PositionState.TheVariants.{LOCKING, LOCKED, PREUNLOCKING, UNLOCKING, UNLOCKED}
use Rattle.delegation.specs.declared.DelegationState.{DelegationState}

-- a side (document 01's term): its total, and its signed change as a word
pub record Side : Type 0 where
  pub total : ℕ
  pub change : ℕ

-- ---- a signed word: from `half` on it stands for itself less `word`

-- an amount added; 13: the amount or the sum is above 2^63 - 1
unfoldable pub raised_of : (change amount : ℕ) → Outcome ℕ
raised_of change amount =
    if nat_le half amount then refused does_not_fit
    else if nat_lt change half && nat_le half (change + amount) then refused does_not_fit
    else accepted ((change + amount) % word)

-- an amount taken off; 13: the amount is above 2^63 - 1, or the difference below -2^63
unfoldable pub lowered_of : (change amount : ℕ) → Outcome ℕ
lowered_of change amount =
    if nat_le half amount then refused does_not_fit
    else if nat_le half change && nat_lt change (half + amount) then refused does_not_fit
    else accepted ((change + word - amount) % word)

-- ---- roll (item 4): total becomes total + change, change 0; a total or a sum outside 0 to 2^63 - 1 is 13

-- the total with its change
unfoldable pub rolled : (total change : ℕ) → ℕ
rolled total change = if nat_lt change half then total + change else total - (word - change)

-- the total and the sum lie in 0 to 2^63 - 1
unfoldable pub roll_fits : (total change : ℕ) → Bool
roll_fits total change = nat_lt total half && (if ltb change half then nat_lt (total + change) half else nat_le (word - change) total)

unfoldable pub roll_of : (total change : ℕ) → Outcome Side
roll_of total change = if roll_fits total change then accepted (record { total = rolled total change; change = 0 }) else refused does_not_fit

-- ---- item 9's changes

-- add: the amount joins the change
unfoldable pub add_of : (total change amount : ℕ) → Outcome Side
add_of total change amount = map_outcome (λ c. record { total = total; change = c }) (raised_of change amount)

-- remove: LOCKED and LOCKING subtract, UNLOCKED nothing, the others are 15
abbrev pub remove_in : PositionState → (total change amount : ℕ) → Outcome Side
remove_in LOCKED total change amount = map_outcome (λ c. record { total = total; change = c }) (lowered_of change amount)
remove_in LOCKING total change amount = map_outcome (λ c. record { total = total; change = c }) (lowered_of change amount)
remove_in UNLOCKED total change amount = accepted (record { total = total; change = change })
remove_in PREUNLOCKING total change amount = refused unexpected_position_state
remove_in UNLOCKING total change amount = refused unexpected_position_state

-- 13 for the amount comes first, UNLOCKED too
unfoldable pub remove_of : (total change amount : ℕ) → PositionState → Outcome Side
remove_of total change amount state = if nat_le half amount then refused does_not_fit else remove_in state total change amount

-- slash: locked plus preunlocking leave the total, preunlocking joins the change; 13: they are above the total, or the change does not fit
unfoldable pub slash_of : (total change locked preunlocking : ℕ) → Outcome Side
slash_of total change locked preunlocking =
    if nat_lt total (locked + preunlocking) then refused does_not_fit
    else map_outcome (λ c. record { total = total - (locked + preunlocking); change = c }) (raised_of change preunlocking)

-- ---- a side by the numbers it holds

abbrev pub side_of : DelegationState → Side
side_of s = record { total = s.total_delegation.0; change = s.delta_delegation }
