-- Worked examples of a payment at P 2 and E 4, by computing; those of document 01's table of refusals are marked there. The other figures were
-- worked out by hand. Assumes nothing.
use mathlib.Core.Path.{◌≡◌, refl}
use mathlib.Core.List.{List, [], ◌∷◌, ◌++◌}
use Prim.Native.Nat.{ℕ, ◌-◌}
use Rattle.types.specs.Base.{word, half, Outcome, refused, accepted, map_outcome}
use Rattle.positions.specs.declared.Key.{Key}
use Rattle.std.specs.Prelude.{Option, Some, None}
use Rattle.image.specs.Layout.{self, other, last_updated_epoch, claimable_rewards, num_events, publishers, publisher_stake_accounts, event_epoch, event_y, reward_ratio, event_fee, Field, head, seat, slot, share, Words, image}
use Rattle.image.specs.Seats.{zero_key}
use Rattle.integrity_pool.specs.declared.payment.Claim.{Claim}
use Rattle.integrity_pool.specs.Payment.{payment_call, payment_image}
use Rattle.integrity_pool.proofs.Computing.{payments}
use Rattle.integrity_pool.proofs.AdvanceExamples.{set_to}

-- ---- a pool, positions and claims

abbrev pub key : (a b : ℕ) → Key
key a b = record { 0 = a; 1 = 0; 2 = 0; 3 = b }

abbrev pub publisher : Key
publisher = key 7 9

abbrev stake_account : Key
stake_account = key 3 4

-- the event in slot t: y 10,000; of seat 1 the self side's ratio 1,000,000, the other side's 500,000, fee 200,000
abbrev event : (t epoch : ℕ) → List (Field × ℕ)
event t epoch =
    (slot t event_epoch, epoch)
    ∷ (slot t event_y, 10_000)
    ∷ (share t 1 (reward_ratio self), 1_000_000)
    ∷ (share t 1 (reward_ratio other), 500_000)
    ∷ (share t 1 event_fee, 200_000)
    ∷ []

-- last 15 and n 6, so that the ring holds 13, 14, 11, 12; the publisher is at seat 1
abbrev pool : (claimable : ℕ) → (account : Key) → Words
pool claimable account = set_to ((
    (head last_updated_epoch, 15)
    ∷ (head claimable_rewards, claimable)
    ∷ (head num_events, 6)
    ∷ (seat 0 (publishers 0), 5)
    ∷ (seat 1 (publishers 0), 7)
    ∷ (seat 1 (publishers 3), 9)
    ∷ (seat 1 (publisher_stake_accounts 0), account.0)
    ∷ (seat 1 (publisher_stake_accounts 3), account.3)
    ∷ [])
    ++ (event 0 13 ++ (event 1 14 ++ (event 2 11 ++ event 3 12))))
    (λ f. 0)

-- a position with the publisher; a start flag of 0 has no start
abbrev position : (amount activation flag start : ℕ) → List ℕ
position amount activation flag start = 2 ∷ amount ∷ activation ∷ flag ∷ start ∷ 7 ∷ 0 ∷ 0 ∷ 9 ∷ []

-- LOCKED from epoch 5 on
abbrev locked : (amount : ℕ) → List ℕ
locked amount = position amount 5 0 0

-- voting, empty, with another publisher
abbrev strangers : List ℕ
strangers =
    1 ∷ 1_000_000 ∷ 5 ∷ 0 ∷ 0 ∷ 7 ∷ 0 ∷ 0 ∷ 9
    ∷ 0 ∷ 1_000_000 ∷ 5 ∷ 9 ∷ 9 ∷ 7 ∷ 0 ∷ 0 ∷ 9
    ∷ 2 ∷ 1_000_000 ∷ 5 ∷ 0 ∷ 0 ∷ 7 ∷ 0 ∷ 0 ∷ 8
    ∷ []

abbrev claim : (from now custody : ℕ) → (publisher account : Key) → Option Key → Claim
claim from now custody publisher account publisher_account = record {
  delegation_record = record { last_epoch = record { 0 = from }; next_slash_event_index = 2 };
  publisher = publisher;
  stake_account_positions = account;
  publisher_stake_account_positions = publisher_account;
  publisher_stake_account_custody = custody;
  current_epoch = now;
  unlocking_duration = 1;
}

-- by a staker in epoch 15, with the custody flag
abbrev claimed : (from : ℕ) → Option Key → Claim
claimed from publisher_account = claim from 15 1 publisher (key 8 8) publisher_account

-- the delegator's part, the publisher's, by how much custody falls, the record's epoch and next slash index, the read count
abbrev paid : Words → List ℕ → Claim → Outcome (ℕ × ℕ × ℕ × ℕ × ℕ × ℕ)
paid w list c =
    map_outcome (λ a. (a.delegator, a.publisher, a.custody_fall, a.kept.last_epoch.0, a.kept.next_slash_event_index, a.reads))
    (payment_call 2 4 (image 2 4 w) list c)

-- ---- accepted payments

-- a record of epoch 13: 14 and 13 are met, 12 is read, and each event pays 4,000 and 1,000 of 1,000,000
pub with_key_law : paid (pool 10_500 stake_account) (strangers ++ locked 1_000_000) (claimed 13 (Some stake_account))
    ≡ accepted (8_000, 2_000, 10_000, 15, 2, 3)
unfolding payments
with_key_law = refl

-- no word but claimable changes
pub with_key_image : payment_image 2 4 (image 2 4 (pool 10_500 stake_account)) (strangers ++ locked 1_000_000) (claimed 13 (Some stake_account))
    ≡ image 2 4 (pool 500 stake_account)
unfolding payments
with_key_image = refl

-- without a stake account custody falls by the delegator's part alone, claimable by both
pub with_none : (paid (pool 10_500 zero_key) (locked 1_000_000) (claimed 13 None) ≡ accepted (8_000, 2_000, 8_000, 15, 2, 3))
    × (payment_image 2 4 (image 2 4 (pool 10_500 zero_key)) (locked 1_000_000) (claimed 13 None) ≡ image 2 4 (pool 500 zero_key))
unfolding payments
with_none = (refl, refl)

-- the publisher's own account: its own ratio and no fee; the zero key is the account of a seat without one
pub self_side_law :
    (paid (pool 20_000 stake_account) (locked 1_000_000) (claim 13 15 1 publisher stake_account (Some stake_account)) ≡ accepted (20_000, 0, 20_000, 15, 2, 3))
    × (paid (pool 20_000 zero_key) (locked 1_000_000) (claim 13 15 1 publisher zero_key None) ≡ accepted (20_000, 0, 20_000, 15, 2, 3))
unfolding payments
self_side_law = (refl, refl)

-- start 13: UNLOCKED in 14, UNLOCKING in 13, PREUNLOCKING in 12 and 11. The walk goes on past 14 and 13; all four events are read
pub past_unlocked : paid (pool 10_000 stake_account) (position 1_000_000 5 1 13) (claimed 12 (Some stake_account))
    ≡ accepted (4_000, 1_000, 5_000, 15, 2, 4)
unfolding payments
past_unlocked = refl

-- amounts gather per slot before a reward is worked out: 100 and 100 earn what 200 earn, not twice nothing
pub gathered : paid (pool 1 stake_account) (locked 100 ++ locked 100) (claimed 14 (Some stake_account)) ≡ accepted (1, 0, 1, 15, 2, 4)
unfolding payments
gathered = refl

-- ---- the table of refusals: its examples, and the others that can be given

abbrev refused_by : Words → List ℕ → Claim → ℕ → Type 0
refused_by w list c k = paid w list c ≡ refused k

-- kind 3
pub refused_4 : refused_by (pool 1 stake_account) (3 ∷ 0 ∷ 0 ∷ 0 ∷ 0 ∷ 0 ∷ 0 ∷ 0 ∷ 0 ∷ []) (claimed 14 (Some stake_account)) 4
unfolding payments
refused_4 = refl

-- zero key
pub refused_10 : refused_by (pool 1 stake_account) (locked 200) (claim 14 15 1 zero_key (key 8 8) (Some stake_account)) 10
unfolding payments
refused_10 = refl

-- unseated key
pub refused_11 : refused_by (pool 1 stake_account) (locked 200) (claim 14 15 1 (key 9 7) (key 8 8) (Some stake_account)) 11
unfolding payments
refused_11 = refl

-- last 9, now 10
pub refused_12 : refused_by (set_to ((head last_updated_epoch, 9) ∷ []) (pool 1 stake_account)) (locked 200)
    (claim 14 10 1 publisher (key 8 8) (Some stake_account)) 12
unfolding payments
refused_12 = refl

-- at a y of 1,000,000 and a ratio of 1,000,000 an amount earns itself
abbrev rich : Words
rich = set_to (
    (slot 0 event_y, 1_000_000)
    ∷ (slot 1 event_y, 1_000_000)
    ∷ (share 0 1 (reward_ratio other), 1_000_000)
    ∷ (share 1 1 (reward_ratio other), 1_000_000)
    ∷ [])
    (pool 1 stake_account)

-- an end of unlocking past a word; a slot's amount past a word; both sums together a word, where one less is 16
pub refused_13 : refused_by (pool 1 stake_account) (position 200 5 1 (word - 1)) (claimed 14 (Some stake_account)) 13
    × refused_by (pool 1 stake_account) (locked (word - 1) ++ locked 1) (claimed 14 (Some stake_account)) 13
    × refused_by rich (locked half) (claimed 13 (Some stake_account)) 13
    × refused_by rich (locked (half - 1)) (claimed 13 (Some stake_account)) 16
unfolding payments
refused_13 = (refl, refl, refl, refl)

-- 1 of 0; 1 of 1 is paid
pub refused_16 : refused_by (pool 0 stake_account) (locked 200) (claimed 14 (Some stake_account)) 16
    × (paid (pool 1 stake_account) (locked 200) (claimed 14 (Some stake_account)) ≡ accepted (1, 0, 1, 15, 2, 2))
unfolding payments
refused_16 = (refl, refl)

-- other key; no key where the seat has one; a key where it has none
pub refused_17 : refused_by (pool 1 stake_account) (locked 200) (claimed 14 (Some (key 4 3))) 17
    × refused_by (pool 1 stake_account) (locked 200) (claimed 14 None) 17
    × refused_by (pool 1 zero_key) (locked 200) (claimed 14 (Some stake_account)) 17
unfolding payments
refused_17 = (refl, refl, refl)

-- flag absent
pub refused_18 : refused_by (pool 1 stake_account) (locked 200) (claim 14 15 0 publisher (key 8 8) (Some stake_account)) 18
unfolding payments
refused_18 = refl

-- ---- the order: one fault after the other is put right

abbrev huge : List ℕ
huge = locked (word - 1) ++ locked 1

pub in_order :
    (map_outcome (λ a. a.reads) (payment_call 0 4 (image 2 4 (pool 0 stake_account)) (3 ∷ huge) (claim 14 16 0 zero_key (key 8 8) None)) ≡ refused 1)
    × refused_by (pool 0 stake_account) (3 ∷ huge) (claim 14 16 0 zero_key (key 8 8) None) 4
    × refused_by (pool 0 stake_account) huge (claim 14 16 0 zero_key (key 8 8) None) 10
    × refused_by (pool 0 stake_account) huge (claim 14 16 0 (key 9 7) (key 8 8) None) 11
    × refused_by (pool 0 stake_account) huge (claim 14 16 0 publisher (key 8 8) None) 12
    × refused_by (pool 0 stake_account) huge (claim 14 15 0 publisher (key 8 8) None) 13
    × refused_by (pool 0 stake_account) (locked 200) (claim 14 15 0 publisher (key 8 8) None) 16
    × refused_by (pool 1 stake_account) (locked 200) (claim 14 15 0 publisher (key 8 8) None) 17
    × refused_by (pool 1 stake_account) (locked 200) (claim 14 15 0 publisher (key 8 8) (Some stake_account)) 18
    × (paid (pool 1 stake_account) (locked 200) (claim 14 15 1 publisher (key 8 8) (Some stake_account)) ≡ accepted (1, 0, 1, 15, 2, 2))
unfolding payments
in_order = (refl, refl, refl, refl, refl, refl, refl, refl, refl, refl)
