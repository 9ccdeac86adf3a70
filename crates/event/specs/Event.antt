-- Item 7 of document 01: the reward of one event. Assumes nothing.
use Rattle.std.specs.Prelude.{Bool, ℕ, ◌-◌, ◌*◌, ◌/◌, eqb, leb, ltb, if◌then◌else◌}
use Rattle.types.specs.Base.{M, word, Outcome, refused, accepted}
use Rattle.types.specs.Refusals.{does_not_fit}
use Rattle.event.specs.declared.event.Event.{Event}
use Rattle.event.specs.declared.event.Reward.{Reward}

-- the delegator's part and the publisher's part (document 01's terms)
pub record Parts : Type 0 where
  pub delegator : ℕ
  pub publisher : ℕ

-- rate = the event's y times ratio over M
unfoldable pub rate_of : (y ratio : ℕ) → ℕ
rate_of y ratio = y * ratio / M

-- total = amount times rate over M
unfoldable pub total_of : (amount rate : ℕ) → ℕ
total_of amount rate = amount * rate / M

-- the self side keeps all; otherwise the publisher gets total times fee over M and the delegator the rest.
-- 13: a publisher's part above the total
unfoldable pub shared : (total fee : ℕ) (self_side : Bool) → Outcome Parts
shared total fee self_side =
    if self_side then accepted (record { delegator = total; publisher = 0 })
    else if ltb total (total * fee / M) then refused does_not_fit
    else accepted (record { delegator = total - total * fee / M; publisher = total * fee / M })

-- amount 0 gives 0 and 0; a rate or total past a word is 13
unfoldable pub reward_of : (amount y ratio fee : ℕ) (self_side : Bool) → Outcome Parts
reward_of amount y ratio fee self_side =
    if eqb amount 0 then accepted (record { delegator = 0; publisher = 0 })
    else if leb word (rate_of y ratio) then refused does_not_fit
    else if leb word (total_of amount (rate_of y ratio)) then refused does_not_fit
    else shared (total_of amount (rate_of y ratio)) fee self_side

-- the same with an event's words: each side has its own ratio
unfoldable pub event_reward : Event → (amount : ℕ) (self_side : Bool) → Outcome Parts
event_reward e amount self_side =
    reward_of amount e.y.0 (if self_side then e.event_data.self_reward_ratio.0 else e.event_data.other_reward_ratio.0)
    e.event_data.delegation_fee.0 self_side

-- a reward by the numbers it holds
abbrev pub parts_as : Reward → Parts
parts_as r = record { delegator = r.delegator_reward.0; publisher = r.publisher_reward.0 }
