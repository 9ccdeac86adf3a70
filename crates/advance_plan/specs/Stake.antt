-- Eligible amounts and ratios as the code holds them: of one seat, and of all seats with their table. Assumes nothing.
use Rattle.std.specs.Prelude.{◌≡◌, ℕ, zero, suc, ◌<◌, List, [], ◌∷◌, flat_map, slice_index, slice_index_or, if◌then◌else◌}
use Rattle.types.specs.Base.{Outcome, refused, accepted, sum_below, all_below}
use Rattle.types.specs.Refusals.{does_not_fit}
use Rattle.types.specs.Wide.{wide_of}
use Rattle.image.specs.Layout.{self, other, delegation_fees, seat, Words}
use Rattle.advance_plan.specs.declared.stake.SeatEligible.{SeatEligible}
use Rattle.advance_plan.specs.declared.stake.SeatEpochs.{SeatEpochs}
use Rattle.advance_plan.specs.declared.stake.EligibleSums.{EligibleSums}
use Rattle.advance_plan.specs.declared.table.SeatTable.{SeatTable}
use Rattle.advance_plan.specs.Advance.{total_in, seat_rolls, eligible_at, ratio_at, eligible_in, ratio_in, seat_cap}

-- ---- one seat

unfoldable pub seat_eligible : (cap self_total other_total : ℕ) → SeatEligible
seat_eligible cap self_total other_total = record {
  total_eligible_delegation = record { 0 = eligible_at cap self_total other_total };
  self_reward_ratio = record { 0 = ratio_at cap self_total other_total self };
  other_reward_ratio = record { 0 = ratio_at cap self_total other_total other };
}

-- seat s in the k-th passed epoch
abbrev pub seat_in : Words → (cap k s : ℕ) → SeatEligible
seat_in w cap k s = seat_eligible cap (total_in w k s self) (total_in w k s other)

-- in the first passed epoch and in a later one, where both sides roll
unfoldable pub seat_epochs : Words → (cap s : ℕ) → Outcome SeatEpochs
seat_epochs w cap s = if seat_rolls w s then accepted (record { first = seat_in w cap 0 s; later = seat_in w cap 1 s }) else refused does_not_fit

-- ---- all seats

-- sums of eligible amounts over the seats, in the first passed epoch and in a later one
pub record Sums : Type 0 where
  pub first : ℕ
  pub later : ℕ

-- 13 where a side does not roll
unfoldable pub sums_of : Words → (cap : ℕ → ℕ) → (seats : ℕ) → Outcome Sums
sums_of w cap seats =
    if all_below seats (seat_rolls w) then accepted (record { first = sum_below seats (eligible_in w cap 0); later = sum_below seats (eligible_in w cap 1) })
    else refused does_not_fit

-- sums by the numbers they hold
abbrev pub sums_as : EligibleSums → Sums
sums_as sums = record { first = wide_of sums.first; later = wide_of sums.later }

-- ---- the table

-- a seat's words in an event: self ratio, other ratio, fee
abbrev pub shares_of : SeatEligible → (fee : ℕ) → List ℕ
shares_of x fee = x.self_reward_ratio.0 ∷ x.other_reward_ratio.0 ∷ fee ∷ []

-- a list has these words of each of the first n seats in the k-th passed epoch
pub record Shared (w : Words) (cap : ℕ → ℕ) (k n : ℕ) (l : List (List ℕ)) : Type 0 where
  pub share : (s : ℕ) → s < n → slice_index_or l s [] ≡ ratio_in w cap k s self ∷ ratio_in w cap k s other ∷ w (seat s delegation_fees) ∷ []

-- both of its lists are: one for the first passed epoch, one for every later one
pub record Tabled {P : ℕ} (w : Words) (cap : ℕ → ℕ) (n : ℕ) (t : SeatTable P) : Type 0 where
  pub first : Shared w cap 0 n t.first_shares
  pub later : Shared w cap 1 n t.later_shares

-- the words for the k-th passed epoch, seat after seat
abbrev pub shares_in : {P : ℕ} → SeatTable P → (k : ℕ) → List ℕ
shares_in t zero = flat_map (λ x. x) t.first_shares
shares_in t (suc k) = flat_map (λ x. x) t.later_shares

-- the caps of the first n seats' keys are in a list
pub record Capped (w : Words) (m : List ℕ) (n : ℕ) (caps : List ℕ) : Type 0 where
  pub cap : (s : ℕ) → s < n → slice_index caps s ≡ seat_cap w m s
