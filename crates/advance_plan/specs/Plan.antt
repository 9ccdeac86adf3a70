-- What is worked out before the first write, as the code answers it. Assumes nothing.
use Rattle.std.specs.Prelude.{◌≡◌, ℕ, ◌+◌, ◌-◌, ◌/◌, ◌<◌, ◌≤◌, Bool, true, false, not, List, Option, Some, None, ◌==◌, nat_le, if◌then◌else◌}
use Rattle.types.specs.Base.{word, half, Outcome, refused, accepted, all_below}
use Rattle.types.specs.Refusals.{unverified_publisher_caps, pool_data_already_up_to_date, outdated_publisher_caps, does_not_fit}
use Rattle.types.specs.BoolArray.{marked}
use Rattle.publisher_caps.specs.Message.{rows_of}
use Rattle.event.specs.Adjust.{Adjustment, adjust_of}
use Rattle.image.specs.Layout.{last_updated_epoch, claimable_rewards, num_events, head, Words}
use Rattle.image.specs.Seats.{seats_of}
use Rattle.advance_plan.specs.declared.Given.{Given}
use Rattle.advance_plan.specs.declared.plan.AdvancePlan.{AdvancePlan}
use Rattle.advance_plan.specs.declared.table.SeatTable.{SeatTable}
use Rattle.advance_plan.specs.Advance.{seat_cap, seat_rolls, eligible_sum, forecast_sum, matched_row, passed_of, adjustment_of}
use Rattle.advance_plan.specs.Stake.{Tabled}

-- the event count is that of a pool that has been checked, and an epoch has a length
pub record Ready (w : Words) (g : Given) : Type 0 where
  pub count : w (head num_events) < half
  pub lasts : 1 ≤ g.epoch_duration

-- ---- refusals 7, 8, 13 for a negative time, and 9, or the epochs passed

unfoldable pub due_of : (last time : ℕ) → Given → Outcome ℕ
due_of last time g =
    if not (g.is_verified == 1) then refused unverified_publisher_caps
    else if nat_le g.current_epoch last then refused pool_data_already_up_to_date
    else if nat_le half time then refused does_not_fit
    else if not (g.current_epoch == time / g.epoch_duration) then refused outdated_publisher_caps
    else accepted (g.current_epoch - last)

-- ---- the sum of eligible amounts

-- an advance's T, or the forecast's own sum, every passed epoch at the rolled totals
unfoldable pub sum_of : (every_rolled : Bool) → Words → (cap : ℕ → ℕ) → (seats passed : ℕ) → ℕ
sum_of true w cap seats passed = forecast_sum w cap seats passed
sum_of false w cap seats passed = eligible_sum w cap seats passed

-- item 5 where that sum is a word and n stays below 2^63, else 13
unfoldable pub adjust_fit : Option ℕ → (n passed claimable : ℕ) → Given → Outcome Adjustment
adjust_fit (Some sum) n passed claimable g =
    if nat_le half (n + passed) then refused does_not_fit else adjust_of sum g.y claimable g.pool_reward_custody_balance
adjust_fit None n passed claimable g = refused does_not_fit

-- ---- the plan

-- items 4 and 5's answer, with an advance's sum or the forecast's
unfoldable pub planned_of : (every_rolled : Bool) → (P : ℕ) → Words → List ℕ → Given → Outcome Adjustment
planned_of every_rolled P w m g = adjustment_of P w m g (sum_of every_rolled w (seat_cap w m) (seats_of P w) (passed_of w g))

-- a plan by the figures it holds
abbrev pub planned_as : AdvancePlan → Adjustment
planned_as plan = record { y = plan.y.0; set_aside = plan.set_aside.0 }

-- all that a writer of the advance needs
pub record Worked {Q : ℕ} (P : ℕ) (w : Words) (m : List ℕ) (plan : AdvancePlan) (t : SeatTable Q) (epoch : ℕ) : Type 0 where
  pub seats_is : plan.seats ≡ seats_of P w
  pub rolls : all_below plan.seats (seat_rolls w) ≡ true
  pub table : Tabled w (seat_cap w m) plan.seats t
  pub room : plan.seats ≤ Q
  pub marks : (j : ℕ) → j < rows_of m → marked plan.marks.words j ≡ matched_row w m plan.seats j
  pub unmarked : (j : ℕ) → rows_of m ≤ j → marked plan.marks.words j ≡ false
  pub later : w (head last_updated_epoch) < epoch
  pub count : w (head num_events) + (epoch - w (head last_updated_epoch)) < half
  pub covers : w (head claimable_rewards) + plan.set_aside.0 < word
