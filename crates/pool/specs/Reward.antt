-- Item 8 of document 01: what an account's positions have earned, over the image's words by name. Assumes nothing.
use Rattle.std.specs.Prelude.{Bool, not, List, ℕ, ◌+◌, leb, get_or, if◌then◌else◌, Option, Some, None}
use Rattle.types.specs.Base.{word, Outcome, refused, accepted, map_outcome, is_accepted, sum_below, all_below}
use Rattle.types.specs.Refusals.{does_not_fit}
use Rattle.positions.specs.declared.Key.{Key}
use Rattle.event.specs.declared.event.Event.{Event}
use Rattle.event.specs.Event.{Parts, event_reward}
use Rattle.image.specs.Layout.{self, other, event_y, reward_ratio, event_fee, slot, share, Words}
use Rattle.event_walk.specs.declared.EventAmounts.{EventAmounts}
use Rattle.event_walk.specs.Walk.{walk_length, walk_slot, slot_amount, gather_fits, reads_of}
use Rattle.pool.specs.declared.reward.Rewards.{Rewards}

-- the event in ring slot t as the stakers of the publisher at seat s see it
abbrev pub event_of : Words → (t s : ℕ) → Event
event_of w t s = record {
  y = record { 0 = w (slot t event_y) };
  event_data = record {
    self_reward_ratio = record { 0 = w (share t s (reward_ratio self)) };
    other_reward_ratio = record { 0 = w (share t s (reward_ratio other)) };
    delegation_fee = record { 0 = w (share t s event_fee) };
  };
}

-- what an amount in the ring slot that walks come to after k others earns (item 7)
unfoldable pub slot_reward : (E : ℕ) → Words → (s : ℕ) (self_side : Bool) → (amount : ℕ → ℕ) → (k : ℕ) → Outcome Parts
slot_reward E w s self_side amount k = event_reward (event_of w (walk_slot E w k) s) (amount k) self_side

abbrev pub delegator_in : Outcome Parts → ℕ
delegator_in (refused n) = 0
delegator_in (accepted p) = p.delegator

abbrev pub publisher_in : Outcome Parts → ℕ
publisher_in (refused n) = 0
publisher_in (accepted p) = p.publisher

-- the parts of the first n slots added up; 13 where one does not fit, or both sums together
unfoldable pub reward_sum : (n : ℕ) → (ℕ → Outcome Parts) → Outcome Parts
reward_sum n f =
    if not (all_below n (λ k. is_accepted (f k))) then refused does_not_fit
    else if leb word (sum_below n (λ k. delegator_in (f k)) + sum_below n (λ k. publisher_in (f k))) then refused does_not_fit
    else accepted (record { delegator = sum_below n (λ k. delegator_in (f k)); publisher = sum_below n (λ k. publisher_in (f k)) })

-- the parts and the read count
pub record Earned : Type 0 where
  pub delegator : ℕ
  pub publisher : ℕ
  pub reads : ℕ

abbrev pub earned_with : (reads : ℕ) → Parts → Earned
earned_with reads p = record { delegator = p.delegator; publisher = p.publisher; reads = reads }

-- 'Amounts gather per ring slot before any reward is worked out'
unfoldable pub calculate_reward : (E : ℕ) → Words → (s : ℕ) → List ℕ → Key → (from unlocking : ℕ) (self_side : Bool) → Outcome Earned
calculate_reward E w s words publisher from unlocking self_side =
    if not (gather_fits E w words publisher from unlocking) then refused does_not_fit
    else map_outcome (earned_with (reads_of E w words publisher from))
    (reward_sum (walk_length E w) (slot_reward E w s self_side (slot_amount E w words publisher from unlocking)))

-- the same, of amounts that have been gathered, or do not fit
unfoldable pub reward_of : (E : ℕ) → Words → (s : ℕ) → Option EventAmounts → (self_side : Bool) → Outcome Earned
reward_of E w s None self_side = refused does_not_fit
reward_of E w s (Some g) self_side =
    map_outcome (earned_with g.reads) (reward_sum (walk_length E w) (slot_reward E w s self_side (λ k. get_or g.amounts k 0)))

abbrev pub earned_as : Rewards → Earned
earned_as r = record { delegator = r.delegator_reward.0; publisher = r.publisher_reward.0; reads = r.reads }
