-- Items 4 and 5 of document 01: an advance and a forecast, over the image's words by name. Assumes nothing.
use Rattle.std.specs.Prelude.{ℕ, zero, suc, ◌+◌, ◌-◌, ◌/◌, ◌%◌, min, Bool, not, ◌&&◌, List, ◌==◌, nat_eq, nat_le, nat_lt, if◌then◌else◌}
use Rattle.types.specs.Base.{word, half, Outcome, refused, map_outcome, sum_below, all_below, any_below, count_below}
use Rattle.types.specs.Refusals.{unverified_publisher_caps, pool_data_already_up_to_date, outdated_publisher_caps, does_not_fit}
use Rattle.publisher_caps.specs.Key.{number_of}
use Rattle.publisher_caps.specs.Lookup.{cap_of}
use Rattle.publisher_caps.specs.Message.{time_of, negative_time, rows_of, key_at, key_word}
use Rattle.event.specs.Eligible.{self_eligible, other_eligible, self_ratio, other_ratio}
use Rattle.event.specs.Adjust.{Adjustment, adjust_of}
use Rattle.delegation.specs.Side.{rolled, roll_fits}
use Rattle.image.specs.Layout.{Whose, self, other, last_updated_epoch, claimable_rewards, num_events, publishers, total_delegation}
use Rattle.image.specs.Layout.{delta_delegation, publisher_stake_accounts, num_slash_events, delegation_fees, Slot, event_epoch}
use Rattle.image.specs.Layout.{event_y, extra_space, Share, reward_ratio, event_fee, Field, head, seat, slot, share, Words}
use Rattle.image.specs.Seats.{publisher_at, seats_of}
-- current_epoch, y, pool_reward_custody_balance, epoch_duration, is_verified
use Rattle.advance_plan.specs.declared.Given.{Given}

-- ---- caps (item 2)

-- a seat's key as a number: its bytes in order, the first the highest
unfoldable pub key_number : Words → (s : ℕ) → ℕ
key_number w s = number_of (publisher_at w s)

-- a publisher without a row has cap 0
unfoldable pub seat_cap : Words → List ℕ → (s : ℕ) → ℕ
seat_cap w m s = cap_of m (rows_of m) (key_number w s)

-- ---- totals (item 4)

-- 'The first passed epoch uses the totals as they stand', 'later epochs use the new totals': total + change
abbrev pub total_in : Words → (k s : ℕ) → Whose → ℕ
total_in w zero s d = w (seat s (total_delegation d))
total_in w (suc k) s d = rolled (w (seat s (total_delegation d))) (w (seat s (delta_delegation d)))

-- 'a total or a sum outside 0 to 2^63 - 1 is 13', on either side
unfoldable pub seat_rolls : Words → (s : ℕ) → Bool
seat_rolls w s =
    roll_fits (w (seat s (total_delegation self))) (w (seat s (delta_delegation self)))
    && roll_fits (w (seat s (total_delegation other))) (w (seat s (delta_delegation other)))

-- ---- eligible amounts and ratios (item 3)

-- of the two sides' totals, under a cap
unfoldable pub eligible_at : (cap self_total other_total : ℕ) → ℕ
eligible_at cap self_total other_total = self_eligible cap self_total + other_eligible cap self_total other_total

unfoldable pub ratio_at : (cap self_total other_total : ℕ) → Whose → ℕ
ratio_at cap self_total other_total self = self_ratio cap self_total
ratio_at cap self_total other_total other = other_ratio cap self_total other_total

-- of seat s in the k-th passed epoch, from 0; `cap` gives each seat's cap
unfoldable pub eligible_in : Words → (cap : ℕ → ℕ) → (k s : ℕ) → ℕ
eligible_in w cap k s = eligible_at (cap s) (total_in w k s self) (total_in w k s other)

unfoldable pub ratio_in : Words → (cap : ℕ → ℕ) → (k s : ℕ) → Whose → ℕ
ratio_in w cap k s d = ratio_at (cap s) (total_in w k s self) (total_in w k s other) d

-- 'T is the sum of eligible over seats and passed epochs'
unfoldable pub eligible_sum : Words → (cap : ℕ → ℕ) → (seats passed : ℕ) → ℕ
eligible_sum w cap seats passed = sum_below passed (λ k. sum_below seats (eligible_in w cap k))

-- the forecast's own sum: 'every passed epoch at the rolled totals'
unfoldable pub forecast_sum : Words → (cap : ℕ → ℕ) → (seats passed : ℕ) → ℕ
forecast_sum w cap seats passed = sum_below passed (λ k. sum_below seats (eligible_in w cap (suc k)))

-- ---- rows (item 5)

-- row j is marked as matched: its key is that of a seat
unfoldable pub matched_row : Words → List ℕ → (seats j : ℕ) → Bool
matched_row w m seats j = any_below seats (λ s. nat_eq (key_number w s) (key_at m j))

-- 'Unmatched rows then take seats in row order while any is left': word c of seat s's key once the first j rows have been seen, `taken` being
-- the rows that take none
unfoldable pub key_after : Words → List ℕ → (taken : ℕ → Bool) → (seats j s c : ℕ) → ℕ
key_after w m taken seats zero s c = w (seat s (publishers c))
key_after w m taken seats (suc j) s c =
    if not (taken j) && s == seats + (j - count_below j taken) then key_word m j c else key_after w m taken seats j s c

-- ---- events (item 4)

-- an event's epoch and y; spare words stay
abbrev pub slot_word : Slot → (epoch y found : ℕ) → ℕ
slot_word event_epoch epoch y found = epoch
slot_word event_y epoch y found = y
slot_word (extra_space c) epoch y found = found

-- a seat's words in the event of the k-th passed epoch: 'each occupied seat's ratios and fee'
abbrev pub share_word : Words → (cap : ℕ → ℕ) → (k s : ℕ) → Share → ℕ
share_word w cap k s (reward_ratio d) = ratio_in w cap k s d
share_word w cap k s event_fee = w (seat s delegation_fees)

-- 'event n + k at slot (n + k) mod E gets epoch last + k': the k-th passed epoch writes its own event's words, of the occupied seats, and no others
unfoldable pub event_written : (E : ℕ) → Words → (cap : ℕ → ℕ) → (seats y k : ℕ) → Field → (found : ℕ) → ℕ
event_written E w cap seats y k (head h) found = found
event_written E w cap seats y k (seat s x) found = found
event_written E w cap seats y k (slot t x) found =
    if t == (w (head num_events) + k) % E then slot_word x (w (head last_updated_epoch) + k) y found else found
event_written E w cap seats y k (share t s x) found =
    if t == (w (head num_events) + k) % E && nat_lt s seats then share_word w cap k s x else found

-- the words once the first k passed epochs have written their events, one after the other
unfoldable pub events_after : (E : ℕ) → Words → (cap : ℕ → ℕ) → (seats y k : ℕ) → Words
events_after E w cap seats y zero f = w f
events_after E w cap seats y (suc k) f = event_written E w cap seats y k f (events_after E w cap seats y k f)

-- ---- the calls

abbrev pub passed_of : Words → Given → ℕ
passed_of w g = g.current_epoch - w (head last_updated_epoch)

-- y' and the amount set aside, or refusals 7, 8, 13 for a negative time, 9, other 13, in this order. The sum of eligible amounts is given.
unfoldable pub adjustment_of : (P : ℕ) → Words → List ℕ → Given → (sum : ℕ) → Outcome Adjustment
adjustment_of P w m g sum =
    if not (g.is_verified == 1) then refused unverified_publisher_caps
    else if nat_le g.current_epoch (w (head last_updated_epoch)) then refused pool_data_already_up_to_date
    else if negative_time m then refused does_not_fit
    else if not (g.current_epoch == time_of m / g.epoch_duration) then refused outdated_publisher_caps
    else if not (all_below (seats_of P w) (seat_rolls w)) then refused does_not_fit
    else if nat_le word sum then refused does_not_fit
    else if nat_le half (w (head num_events) + passed_of w g) then refused does_not_fit
    else adjust_of sum g.y (w (head claimable_rewards)) g.pool_reward_custody_balance

-- an advance's answer: y', the amount set aside, and how many rows are marked as matched, how many seated, how many dropped
pub record Advanced : Type 0 where
  pub y : ℕ
  pub set_aside : ℕ
  pub matched : ℕ
  pub seated : ℕ
  pub dropped : ℕ

unfoldable pub matched_rows : (P : ℕ) → Words → List ℕ → ℕ
matched_rows P w m = count_below (rows_of m) (matched_row w m (seats_of P w))

-- of the unmatched rows as many are seated as seats are left, the others dropped
unfoldable pub answer_with : (P : ℕ) → Words → List ℕ → Adjustment → Advanced
answer_with P w m a = record {
  y = a.y;
  set_aside = a.set_aside;
  matched = matched_rows P w m;
  seated = min (rows_of m - matched_rows P w m) (P - seats_of P w);
  dropped = rows_of m - matched_rows P w m - (P - seats_of P w);
}

unfoldable pub advance_of : (P : ℕ) → Words → List ℕ → Given → Outcome Advanced
advance_of P w m g = map_outcome (answer_with P w m) (adjustment_of P w m g (eligible_sum w (seat_cap w m) (seats_of P w) (passed_of w g)))

-- added by us: 'what an advance would set aside, taking every passed epoch at the rolled totals; refusals as advance, with its own sum in place of T'
unfoldable pub forecast_of : (P : ℕ) → Words → List ℕ → Given → Outcome ℕ
forecast_of P w m g = map_outcome (λ a. a.set_aside) (adjustment_of P w m g (forecast_sum w (seat_cap w m) (seats_of P w) (passed_of w g)))

-- the words after an accepted advance with this y' and this amount set aside
abbrev pub advanced_words : (P E : ℕ) → Words → List ℕ → (epoch y set_aside : ℕ) → Words
advanced_words P E w m epoch y set_aside (head last_updated_epoch) = epoch
advanced_words P E w m epoch y set_aside (head claimable_rewards) = w (head claimable_rewards) + set_aside
advanced_words P E w m epoch y set_aside (head num_events) = w (head num_events) + (epoch - w (head last_updated_epoch))
advanced_words P E w m epoch y set_aside (seat s (publishers c)) = key_after w m (matched_row w m (seats_of P w)) (seats_of P w) (rows_of m) s c
advanced_words P E w m epoch y set_aside (seat s (total_delegation d)) = if nat_lt s (seats_of P w) then total_in w 1 s d else w (seat s (total_delegation d))
advanced_words P E w m epoch y set_aside (seat s (delta_delegation d)) = if nat_lt s (seats_of P w) then 0 else w (seat s (delta_delegation d))
advanced_words P E w m epoch y set_aside (seat s (publisher_stake_accounts c)) = w (seat s (publisher_stake_accounts c))
advanced_words P E w m epoch y set_aside (seat s num_slash_events) = w (seat s num_slash_events)
advanced_words P E w m epoch y set_aside (seat s delegation_fees) = w (seat s delegation_fees)
advanced_words P E w m epoch y set_aside (slot t x) = events_after E w (seat_cap w m) (seats_of P w) y (epoch - w (head last_updated_epoch)) (slot t x)
advanced_words P E w m epoch y set_aside (share t s x) = events_after E w (seat_cap w m) (seats_of P w) y (epoch - w (head last_updated_epoch)) (share t s x)
