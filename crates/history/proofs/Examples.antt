-- A worked list of calls at P 1 and E 2, by computing, its figures worked out by hand: what is set aside, paid, drawn and written. Assumes nothing.
use mathlib.Core.Path.{◌≡◌, refl}
use mathlib.Core.Bool.{Bool, true, false}
use mathlib.Core.List.{List, [], ◌∷◌, ◌++◌}
use Prim.Native.Nat.{ℕ, ◌≤◌}
use native.Mathlib.Omega.{arith}
use lib.ListN.{replicate}
use Rattle.types.specs.Base.{refused}
use Rattle.types.specs.Refusals.{payment_above_claimable}
use Rattle.positions.specs.declared.Key.{Key}
use Rattle.std.specs.Prelude.{None}
use Rattle.image.specs.Layout.{self, other, claimable_rewards, num_events, event_epoch, event_y, reward_ratio, head, slot, share, read}
use Rattle.advance_plan.specs.declared.Given.{Given}
use Rattle.pool.specs.declared.changes.Delegation.{Delegation}
use Rattle.integrity_pool.specs.declared.payment.Claim.{Claim}
use Rattle.integrity_pool.specs.Payment.{payment_call}
use Rattle.integrity_pool.proofs.Computing.{advances, payments, changes}
use Rattle.history.specs.Demand.{Bounded, Backed, WithinTotals}
use Rattle.history.specs.Calls.{Call, advance, payment, add, deposit, withdraw, State, start, advance_history, newest_passed, matching_in, draws}
use Rattle.history.specs.Calls.{payment_history, advance_step, payment_step, change_step, deposit_step, withdraw_step, step, run, lowers}
use Rattle.history.specs.Calls.{custody_suffices, NoWithdrawal}

-- ---- what the list computes with

steps : Unit {0}
unfolding advance_history payment_history advance_step payment_step change_step deposit_step withdraw_step step run
steps = tt

computing : Unit {0}
unfolding advances payments changes steps newest_passed matching_in draws lowers custody_suffices
computing = tt

-- ---- the list

abbrev key : ℕ → Key
key a = record { 0 = a; 1 = 0; 2 = 0; 3 = 0 }

-- the caps message of an epoch of one second: one row, the publisher with key 1, its cap 200
abbrev caps_of : (epoch : ℕ) → List ℕ
caps_of epoch = replicate 8 0 ++ (epoch ∷ 0 ∷ 1 ∷ 1 ∷ []) ++ replicate 38 0 ++ (200 ∷ [])

abbrev given_to : (epoch : ℕ) → Given
given_to epoch = record { current_epoch = epoch; y = 10_000; pool_reward_custody_balance = 0; epoch_duration = 1; is_verified = 1 }

abbrev advance_to : (epoch : ℕ) → Call
advance_to epoch = advance (caps_of epoch) (given_to epoch)

-- the staker's account, and a position of this amount in the publisher, LOCKED from epoch 11 on
abbrev staker : Delegation
staker = record { publisher = key 1; stake_account_positions = key 5; current_epoch = 10 }

abbrev locked : (amount : ℕ) → List ℕ
locked amount = 2 ∷ amount ∷ 11 ∷ 0 ∷ 0 ∷ 1 ∷ 0 ∷ 0 ∷ 0 ∷ []

abbrev claim : (now : ℕ) → Claim
claim now = record {
  delegation_record = record { last_epoch = record { 0 = 10 }; next_slash_event_index = 0 };
  publisher = key 1;
  stake_account_positions = key 5;
  publisher_stake_account_positions = None;
  publisher_stake_account_custody = 0;
  current_epoch = now;
  unlocking_duration = 1;
}

-- the state after these calls, from a fresh pool at epoch 10 with a custody balance of 1
abbrev after : List Call → State
after calls = run 1 2 9 (start 1 2 (replicate 41 0) 10 1) calls

-- epoch 9 passes with no seat; then the publisher is seated and 150 added; epoch 10 passes with total 0, epochs 11 and 12 with 150 each, one by one: each is
-- eligible for 1.5 at y 10,000, and 1 is set aside
abbrev twice : List Call
twice = advance_to 10 ∷ add staker 150 ∷ deposit 6 ∷ advance_to 11 ∷ advance_to 12 ∷ advance_to 13 ∷ []

pub set_aside_law : (after twice).history.set_aside ≡ 2
unfolding computing
set_aside_law = refl

-- one advance that passes both epochs sets 3 aside, and has passed both
abbrev together : List Call
together = advance_to 10 ∷ add staker 150 ∷ deposit 6 ∷ advance_to 11 ∷ advance_to 13 ∷ []

pub set_aside_together : ((after together).history.set_aside ≡ 3) × ((after together).history.now ≡ 13)
unfolding computing
set_aside_together = (refl, refl)

-- the totals that the events were written from, on the occupied seat: before and after the roll; in epoch 9 there was none
pub written : ((after twice).history.written 10 0 other ≡ 0) × (((after twice).history.written 11 0 other ≡ 150) × ((after twice).history.written 11 0 self ≡ 0))
unfolding computing
written = (refl, (refl, refl))

pub occupied : ((after twice).history.occupied 9 0 ≡ false) × ((after twice).history.occupied 10 0 ≡ true)
unfolding computing
occupied = (refl, refl)

-- the payment draws 150 from each of the two newest epochs on the other side, and is paid 1 from each, all to the delegator
abbrev paid : State
paid = after (twice ++ (payment (locked 150) (claim 13) ∷ []))

pub payment_paid : (paid.history.paid ≡ 2) × (paid.custody ≡ 5)
unfolding computing
payment_paid = (refl, refl)

pub payment_drawn : (paid.history.drawn 12 0 other ≡ 150) × ((paid.history.drawn 12 0 self ≡ 0) × (paid.history.drawn 10 0 other ≡ 0))
unfolding computing
payment_drawn = (refl, (refl, refl))

-- claimable, n, and the ring's two slots
pub pool_paid : (read 1 2 paid.image (head claimable_rewards) ≡ 0) × ((read 1 2 paid.image (head num_events) ≡ 4)
    × ((read 1 2 paid.image (slot 0 event_epoch) ≡ 11) × (read 1 2 paid.image (slot 1 event_epoch) ≡ 12)))
unfolding computing
pool_paid = (refl, (refl, (refl, refl)))

-- the same payment once more is beyond the totals, and meets refusal 16
pub beyond : payment_call 1 2 paid.image (locked 150) (claim 13) ≡ refused payment_above_claimable
unfolding computing
beyond = refl

-- and so does one more than the total, where that is a unit more than was set aside: the bound is sharp
abbrev edge : State
edge = after (advance_to 10 ∷ add staker 199 ∷ deposit 6 ∷ advance_to 11 ∷ advance_to 12 ∷ [])

pub one_more : (edge.history.written 11 0 other ≡ 199)
    × ((draws 1 2 9 12 (read 1 2 edge.image) (locked 200) (claim 12) 11 0 other ≡ 200)
    × (payment_call 1 2 edge.image (locked 200) (claim 12) ≡ refused payment_above_claimable))
unfolding computing
one_more = (refl, (refl, refl))

-- such a payment is not within the totals
pub not_within : WithinTotals 1 2 9 edge (locked 200) (claim 12) → ⊥
unfolding computing
not_within t =
    let now : edge.history.now ≡ 12 = refl in
    let l : 200 ≤ 199 = t 11 0 other (omega arith) (omega arith) refl in
    omega arith

-- ---- all of custody may be claimable: epoch 11 alone, and no deposit

abbrev full : List Call
full = advance_to 10 ∷ add staker 150 ∷ advance_to 11 ∷ advance_to 12 ∷ []

pub all_claimable : (read 1 2 (after full).image (head claimable_rewards) ≡ 1) × ((after full).custody ≡ 1)
unfolding computing
all_claimable = (refl, refl)

pub all_backed : Backed (read 1 2 (after full).image) (after full).custody
all_backed = let c = all_claimable.0 in let d = all_claimable.1 in record { claimable = omega arith; word = omega arith }

-- ---- [8] the sponsor withdraws all of it; the advances to 13 and 14 pass epochs 12 and 13 on a drained custody

abbrev suffices : List Call → Bool
suffices calls = custody_suffices 1 2 9 (start 1 2 (replicate 41 0) 10 1) calls

abbrev emptied : List Call
emptied = full ++ (withdraw 1 ∷ advance_to 13 ∷ advance_to 14 ∷ [])

abbrev drained : State
drained = after emptied

-- custody suffices for such a list; not for a unit more withdrawn, nor for a payment from the drained custody
pub drained_suffices : (suffices emptied ≡ true)
    × ((suffices (full ++ (withdraw 2 ∷ [])) ≡ false) × (suffices (full ++ (withdraw 1 ∷ payment (locked 150) (claim 12) ∷ [])) ≡ false))
unfolding computing
drained_suffices = (refl, (refl, refl))

-- nothing more is set aside, and claimable is above custody: the bound by custody alone fails where something was withdrawn
pub drained_aside : (drained.history.set_aside ≡ 1) × ((read 1 2 drained.image (head claimable_rewards) ≡ 1) × (drained.custody ≡ 0))
unfolding computing
drained_aside = (refl, (refl, refl))

pub not_backed : Backed (read 1 2 drained.image) drained.custody → ⊥
not_backed b = let c = drained_aside.1.0 in let d = drained_aside.1.1 in omega (arith, b.claimable)

-- and the claim asks for that bound only where nothing was
pub withdrawn : NoWithdrawal emptied → ⊥
withdrawn n = n full (advance_to 13 ∷ advance_to 14 ∷ []) 1 refl

-- the last of these advances is told 0 and begins with 1: the claim says that it ends with at most 1
pub drained_bounded : Bounded 1 2 9 (after []) emptied → 1 ≤ 1
unfolding computing
drained_bounded b = b (full ++ (withdraw 1 ∷ advance_to 13 ∷ [])) [] (caps_of 14) (given_to 14) refl

-- both events are written, with y 0 and the ratios as ever, and the epochs have passed
pub drained_events : (read 1 2 drained.image (head num_events) ≡ 5)
    × ((read 1 2 drained.image (slot 1 event_epoch) ≡ 12) × ((read 1 2 drained.image (slot 0 event_epoch) ≡ 13)
    × ((read 1 2 drained.image (slot 0 event_y) ≡ 0) × (read 1 2 drained.image (share 0 0 (reward_ratio other)) ≡ 1_000_000))))
unfolding computing
drained_events = (refl, (refl, (refl, (refl, refl))))

-- a total rolls there too: 50 are added in epoch 12 and are in the event of epoch 13
abbrev later_staker : Delegation
later_staker = record { publisher = key 1; stake_account_positions = key 5; current_epoch = 12 }

pub drained_rolls : (after (full ++ (withdraw 1 ∷ add later_staker 50 ∷ advance_to 14 ∷ []))).history.written 13 0 other ≡ 200
unfolding computing
drained_rolls = refl

-- once deposits cover claimable again, y and what is set aside are as ever: epoch 14 is eligible for 1.5, and 1 is set aside
pub filled_again : (after (emptied ++ (deposit 2 ∷ advance_to 15 ∷ []))).history.set_aside ≡ 2
unfolding computing
filled_again = refl

-- what moved the balance: 1 at the start, 6 deposited, 3 withdrawn, 2 taken by the payment
abbrev after_withdrawal : State
after_withdrawal = after (twice ++ (withdraw 3 ∷ payment (locked 150) (claim 13) ∷ []))

pub moved : (after_withdrawal.moved ≡ record { deposited = 6; withdrawn = 3; fallen = 2 }) × (after_withdrawal.custody ≡ 2)
unfolding computing
moved = (refl, refl)
