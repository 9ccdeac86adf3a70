-- Item 5 of document 01: the adjustment of y; on a drained custody, request [8] of document 02. Assumes nothing.
use Rattle.std.specs.Prelude.{ℕ, ◌+◌, ◌-◌, ◌*◌, ◌/◌, leb, ltb, if◌then◌else◌}
use Rattle.types.specs.Base.{M, word, Outcome, refused, accepted}
use Rattle.types.specs.Refusals.{does_not_fit}
use Rattle.event.specs.declared.adjust.Adjusted.{Adjusted}

-- y', which the events get, and the amount set aside (document 01's term)
pub record Adjustment : Type 0 where
  pub y : ℕ
  pub set_aside : ℕ

-- R = T times y over M
unfoldable pub rewards_of : (T y : ℕ) → ℕ
rewards_of T y = T * y / M

-- y' = y times A over R, and T times y' over M is set aside
unfoldable pub lowered_by : (T y A R : ℕ) → Adjustment
lowered_by T y A R = record { y = y * A / R; set_aside = rewards_of T (y * A / R) }

-- [8] 'Such an advance now passes: y' is 0, nothing is set aside'
abbrev pub nothing : Adjustment
nothing = record { y = 0; set_aside = 0 }

-- if R + claimable exceeds custody, A = custody less claimable, and y is lowered to what A covers; else y' = y and R is set aside. 13: R + claimable is
-- past a word. [8]: claimable over custody.
unfoldable pub adjust_of : (T y claimable custody : ℕ) → Outcome Adjustment
adjust_of T y claimable custody =
    if leb word (rewards_of T y + claimable) then refused does_not_fit
    else if leb (rewards_of T y + claimable) custody then accepted (record { y = y; set_aside = rewards_of T y })
    else if ltb custody claimable then accepted nothing
    else accepted (lowered_by T y (custody - claimable) (rewards_of T y))

-- an adjustment by the numbers it holds
abbrev pub adjusted_as : Adjusted → Adjustment
adjusted_as a = record { y = a.y.0; set_aside = a.set_aside.0 }
