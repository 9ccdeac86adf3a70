-- What the worked examples compute with: to open one of these is to open all that its line names. Assumes nothing.
use Prim.Native.Nat.{ℕ}
use mathlib.Core.Bool.{cond}
use lib.Dec.{eqb}
use Rattle.types.specs.Base.{sum_below, all_below, any_below, count_below, first_below, tabulate}
use Rattle.positions.specs.Key.{same_key}
use Rattle.positions.specs.State.{state_by}
use Rattle.positions.specs.Positions.{position_holds, positions_hold, in_publisher, has_publisher}
use Rattle.publisher_caps.specs.Key.{big_endian, little_endian, swapped, pair}
use Rattle.publisher_caps.specs.Lookup.{lookup, cap_of}
use Rattle.publisher_caps.specs.Message.{time_of, rows_of, key_word, ascends, none_zero, message_holds}
use Rattle.event.specs.Eligible.{self_eligible, other_eligible, ratio_of}
use Rattle.event.specs.Adjust.{rewards_of, lowered_by, adjust_of}
use Rattle.event.specs.Event.{rate_of, total_of, shared, reward_of, event_reward}
use Rattle.delegation.specs.Side.{rolled, roll_fits, raised_of, lowered_of, add_of, remove_of, slash_of}
use Rattle.image.specs.Layout.{Field, Words, addr, if_below, if_equal, side_field, event_field, field_of, read, image}
use Rattle.image.specs.Seats.{sized_image, checked_image, empty_seat, seats_of, first_seat, publisher_index_of, with_side}
use Rattle.image.specs.Changes.{self_side, with_slash_events, with_stake_account, with_fees, changed_image}
use Rattle.advance_plan.specs.Advance.{key_number, seat_cap, seat_rolls, eligible_at, ratio_at, eligible_in, ratio_in, eligible_sum, forecast_sum, matched_row, key_after, event_written, events_after, adjustment_of, matched_rows, answer_with, advance_of, forecast_of}
use Rattle.event_walk.specs.Walk.{walk_length, walk_slot, walk_epoch, walk_meets, is_read, walk_reads, drawn_in, walk_fits}
use Rattle.event_walk.specs.Walk.{drawn_at, slot_amount, gather_fits, read_by, reads_of}
use Rattle.pool.specs.Reward.{slot_reward, reward_sum, calculate_reward}
use Rattle.pool.specs.Changes.{up_to_date, delegation_seat, slash_seat, account_side, side_change, add_delegation, remove_delegation, apply_slash}
use Rattle.integrity_pool.specs.Calls.{fresh_call, fresh_image, checked_then, advance_call, advance_image, forecast_call}
use Rattle.integrity_pool.specs.Payment.{custody_fall, pay_out, payment_at, payment_of, payment_call, payment_image}
use Rattle.integrity_pool.specs.Changes.{checked_image_then, add_call, remove_call, create_at, create_slash_event_call, created_in, wrong_order, slash_order, slash_change, slash_call, slashed_with, fee_call, account_holds, first_account, later_account, may_change, new_account, stake_account_at_seat, stake_account_call}

-- ---- numbers, keys, words by name

-- one word changed
unfoldable pub put : ℕ → ℕ → Words → Field → ℕ → Words
put P E w f v g = cond (eqb (addr P E g) (addr P E f)) v (w g)

unfoldable pub words : Unit {0}
unfolding sum_below all_below any_below count_below first_below same_key put read tabulate image field_of event_field side_field if_equal if_below sized_image
    checked_image empty_seat seats_of first_seat publisher_index_of
words = tt

unfoldable pub positions : Unit {0}
unfolding state_by position_holds positions_hold in_publisher has_publisher
positions = tt

-- ---- fresh, advance, forecast

unfoldable pub caps : Unit {0}
unfolding big_endian little_endian swapped pair time_of rows_of key_word ascends none_zero message_holds lookup cap_of key_number seat_cap matched_row
    matched_rows key_after
caps = tt

unfoldable pub amounts : Unit {0}
unfolding self_eligible other_eligible ratio_of eligible_at ratio_at eligible_in ratio_in eligible_sum forecast_sum rolled roll_fits seat_rolls rewards_of
    lowered_by adjust_of
amounts = tt

unfoldable pub advances : Unit {0}
unfolding words caps amounts event_written events_after adjustment_of answer_with advance_of forecast_of checked_then fresh_call fresh_image advance_call
    advance_image forecast_call
advances = tt

-- ---- payment

unfoldable pub rewards : Unit {0}
unfolding walk_length walk_slot walk_epoch walk_meets is_read walk_reads drawn_in walk_fits drawn_at slot_amount gather_fits read_by reads_of
    rate_of total_of shared reward_of event_reward slot_reward reward_sum calculate_reward
rewards = tt

unfoldable pub payments : Unit {0}
unfolding words positions rewards self_side custody_fall pay_out payment_at payment_of payment_call payment_image
payments = tt

-- ---- item 9's calls besides fresh

unfoldable pub sides : Unit {0}
unfolding raised_of lowered_of add_of remove_of slash_of self_side up_to_date delegation_seat slash_seat account_side side_change add_delegation
    remove_delegation apply_slash
sides = tt

unfoldable pub slashes : Unit {0}
unfolding create_at create_slash_event_call created_in wrong_order slash_order slash_change slash_call slashed_with
slashes = tt

unfoldable pub accounts : Unit {0}
unfolding account_holds first_account later_account may_change new_account stake_account_at_seat stake_account_call
accounts = tt

unfoldable pub changes : Unit {0}
unfolding words positions sides slashes accounts with_side with_slash_events with_stake_account with_fees changed_image checked_image_then add_call
    remove_call fee_call
changes = tt
