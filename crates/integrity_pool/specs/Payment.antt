-- Item 8 of document 01: a payment, its answer with refusals in document 01's order, and the image that it leaves. Assumes nothing.
use Rattle.std.specs.Prelude.{not, List, [], ◌∷◌, get_or, ℕ, ◌+◌, ◌-◌, ltb, eqb, if◌then◌else◌, Option, Some, None}
use Rattle.types.specs.Base.{Outcome, refused, accepted, and_then, after}
use Rattle.types.specs.Refusals.{invalid_image, invalid_positions, outdated_publisher_accounting, payment_above_claimable, publisher_stake_account_mismatch, publisher_custody_account_required}
use Rattle.positions.specs.declared.Key.{Key}
use Rattle.positions.specs.Key.{same_key}
use Rattle.positions.specs.Positions.{positions_hold}
use Rattle.image.specs.Layout.{last_updated_epoch, claimable_rewards, num_events, head, seat, slot, share, Words, read, image}
use Rattle.image.specs.Seats.{checked_image, zero_key, stake_account_at, publisher_index_of}
use Rattle.image.specs.Changes.{self_side}
use Rattle.event_walk.specs.declared.EventAmounts.{EventAmounts}
use Rattle.pool.specs.Reward.{Earned, calculate_reward, reward_of}
-- last_epoch and next_slash_event_index
use Rattle.integrity_pool.specs.declared.payment.DelegationRecord.{DelegationRecord}
-- delegation_record, publisher, stake_account_positions (the account), publisher_stake_account_positions (the publisher account),
-- publisher_stake_account_custody (the custody flag), current_epoch, unlocking_duration
use Rattle.integrity_pool.specs.declared.payment.Claim.{Claim}
use Rattle.integrity_pool.specs.declared.payment.Payment as answer

-- 'An accepted payment moves the staker's record to the current epoch'; its next slash index stays
abbrev pub record_at : DelegationRecord → (epoch : ℕ) → DelegationRecord
record_at r epoch = record { last_epoch = record { 0 = epoch }; next_slash_event_index = r.next_slash_event_index }

-- a staker's record of two words: its last epoch and its next slash event's index
abbrev pub record_of : List ℕ → DelegationRecord
record_of words = record { last_epoch = record { 0 = get_or words 0 0 }; next_slash_event_index = get_or words 1 0 }

abbrev pub record_words : DelegationRecord → List ℕ
record_words r = r.last_epoch.0 ∷ r.next_slash_event_index ∷ []

-- ---- 'The publisher account is a key or none'

-- '17 unless the seat's stake account equals it, none counting as zero; 18 for a key without the custody flag', which is 0. 'Custody falls by both
-- with a key, by the delegator's alone with none'
unfoldable pub custody_fall : (stake_account : Key) → Option Key → (custody delegator both : ℕ) → Outcome ℕ
custody_fall stake_account (Some key) custody delegator both =
    if not (same_key stake_account key) then refused publisher_stake_account_mismatch
    else if eqb custody 0 then refused publisher_custody_account_required
    else accepted both
custody_fall stake_account None custody delegator both =
    if not (same_key stake_account zero_key) then refused publisher_stake_account_mismatch
    else accepted delegator

-- ---- the payment

-- the delegator's part, the publisher's part, by how much custody falls, the record to keep, the read count
pub record Payment : Type 0 where
  pub delegator : ℕ
  pub publisher : ℕ
  pub custody_fall : ℕ
  pub kept : DelegationRecord
  pub reads : ℕ

abbrev pub payment_with : Claim → Earned → (fall : ℕ) → Payment
payment_with c r fall = record {
  delegator = r.delegator;
  publisher = r.publisher;
  custody_fall = fall;
  kept = record_at c.delegation_record c.current_epoch;
  reads = r.reads;
}

-- of what has been earned: 16, then 17 and 18
unfoldable pub pay_out : (claimable : ℕ) → (stake_account : Key) → Claim → Earned → Outcome Payment
pay_out claimable stake_account c r =
    if ltb claimable (r.delegator + r.publisher) then refused payment_above_claimable
    else and_then (custody_fall stake_account c.publisher_stake_account_positions c.publisher_stake_account_custody r.delegator (r.delegator + r.publisher))
    (λ fall. accepted (payment_with c r fall))

-- with the publisher at seat s: 12, 13, then what comes of what has been earned
unfoldable pub payment_at : (E : ℕ) → Words → List ℕ → Claim → (s : ℕ) → Outcome Payment
payment_at E w words c s =
    if not (eqb (w (head last_updated_epoch)) c.current_epoch) then refused outdated_publisher_accounting
    else and_then (calculate_reward E w s words c.publisher c.delegation_record.last_epoch.0 c.unlocking_duration (self_side w s c.stake_account_positions))
    (pay_out (w (head claimable_rewards)) (stake_account_at w s) c)

-- 10, 11, then these
unfoldable pub payment_of : (P E : ℕ) → Words → List ℕ → Claim → Outcome Payment
payment_of P E w words c = and_then (publisher_index_of P w c.publisher) (payment_at E w words c)

-- the same two from the gathered amounts on, however the positions were handed over
unfoldable pub gathered_payment_at : (E : ℕ) → Words → Option EventAmounts → Claim → (s : ℕ) → Outcome Payment
gathered_payment_at E w g c s =
    if not (eqb (w (head last_updated_epoch)) c.current_epoch) then refused outdated_publisher_accounting
    else and_then (reward_of E w s g (self_side w s c.stake_account_positions)) (pay_out (w (head claimable_rewards)) (stake_account_at w s) c)

unfoldable pub gathered_payment : (P E : ℕ) → Words → Option EventAmounts → Claim → Outcome Payment
gathered_payment P E w g c = and_then (publisher_index_of P w c.publisher) (gathered_payment_at E w g c)

-- 'Both parts leave claimable'; no other word changes
abbrev pub paid_words : Words → (paid : ℕ) → Words
paid_words w paid (head last_updated_epoch) = w (head last_updated_epoch)
paid_words w paid (head claimable_rewards) = w (head claimable_rewards) - paid
paid_words w paid (head num_events) = w (head num_events)
paid_words w paid (seat s x) = w (seat s x)
paid_words w paid (slot t x) = w (slot t x)
paid_words w paid (share t s x) = w (share t s x)

-- the image after a payment; a refused one leaves it as it was
abbrev pub paid_image : (P E : ℕ) → List ℕ → Outcome Payment → List ℕ
paid_image P E img o = after o (λ a. image P E (paid_words (read P E img) (a.delegator + a.publisher))) img

-- ---- the call: '1 to 6 first, by number', 1 and 4 here

unfoldable pub payment_call : (P E : ℕ) → List ℕ → List ℕ → Claim → Outcome Payment
payment_call P E img words c =
    if not (checked_image P E img) then refused invalid_image
    else if not (positions_hold words) then refused invalid_positions
    else payment_of P E (read P E img) words c

-- from the gathered amounts on, 1 alone
unfoldable pub gathered_call : (P E : ℕ) → List ℕ → Option EventAmounts → Claim → Outcome Payment
gathered_call P E img g c = if not (checked_image P E img) then refused invalid_image else gathered_payment P E (read P E img) g c

unfoldable pub payment_image : (P E : ℕ) → List ℕ → List ℕ → Claim → List ℕ
payment_image P E img words c = paid_image P E img (payment_call P E img words c)

-- a payment in numbers
abbrev pub payment_as : answer.Payment → Payment
payment_as p = record {
  delegator = p.delegator_reward.0;
  publisher = p.publisher_reward.0;
  custody_fall = p.custody_fall.0;
  kept = p.delegation_record;
  reads = p.reads;
}
