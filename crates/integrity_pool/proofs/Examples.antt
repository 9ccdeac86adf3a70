-- Document 01's examples that are marked P, in its order, on the definitions and by field. Assumes nothing.
use mathlib.Core.Path.{◌≡◌, refl}
use mathlib.Core.Bool.{false}
use mathlib.Core.List.{List, []}
use Prim.Native.Nat.{ℕ}
use Rattle.types.specs.Base.{Outcome, accepted, map_outcome}
use Rattle.positions.specs.declared.position.PositionState.TheVariants.{UNLOCKED, LOCKING, PREUNLOCKING, UNLOCKING}
use Rattle.positions.specs.State.{state_by}
use Rattle.event.specs.Eligible.{self_eligible, other_eligible, ratio_of, self_ratio, other_ratio}
use Rattle.event.specs.Adjust.{rewards_of, lowered_by, adjust_of}
use Rattle.event.specs.Event.{rate_of, total_of, shared, reward_of}
use Rattle.image.specs.Layout.{num_events, head, read}
use Rattle.integrity_pool.specs.Calls.{advance_image}
use Rattle.integrity_pool.proofs.Computing.{advances}
use Rattle.integrity_pool.proofs.AdvanceExamples.{message, given, at10, epochs}

-- ---- 'cap 100, self 60, other 80: eligible 60, 40; ratios 1,000,000, 500,000. Cap 50: 50, 0; 833,333, 0. All totals 0: ratios 0.'

-- eligible amounts, then ratios, of the self side and the other
abbrev eligible_row : (cap self_total other_total : ℕ) → ℕ × ℕ × ℕ × ℕ
eligible_row cap self_total other_total =
    (self_eligible cap self_total, other_eligible cap self_total other_total, self_ratio cap self_total, other_ratio cap self_total other_total)

pub cap_100 : eligible_row 100 60 80 ≡ (60, 40, 1_000_000, 500_000)
unfolding self_eligible other_eligible ratio_of
cap_100 = refl

pub cap_50 : eligible_row 50 60 80 ≡ (50, 0, 833_333, 0)
unfolding self_eligible other_eligible ratio_of
cap_50 = refl

-- at any cap
pub totals_0 : (cap : ℕ) → (self_ratio cap 0 ≡ 0) × (other_ratio cap 0 0 ≡ 0)
unfolding self_eligible other_eligible ratio_of
totals_0 cap = (refl, refl)

-- ---- 'T 1,000,000, y 10,000, claimable 0: custody 10,000 sets aside 10,000; 9,999 gives y' 9,999 and 9,999.'

-- y' and the amount set aside
abbrev adjusted : (T y claimable custody : ℕ) → Outcome (ℕ × ℕ)
adjusted T y claimable custody = map_outcome (λ r. (r.y, r.set_aside)) (adjust_of T y claimable custody)

pub covered : adjusted 1_000_000 10_000 0 10_000 ≡ accepted (10_000, 10_000)
unfolding adjust_of rewards_of
covered = refl

pub one_short : adjusted 1_000_000 10_000 0 9_999 ≡ accepted (9_999, 9_999)
unfolding adjust_of rewards_of lowered_by
one_short = refl

-- ---- 'y 10,000: T 333, claimable 0, custody 2: y' 6,666, set aside 2. Claimable 7, custody 7, T 1,000,000: 0, 0.'

pub small_total : adjusted 333 10_000 0 2 ≡ accepted (6_666, 2)
unfolding adjust_of rewards_of lowered_by
small_total = refl

pub nothing_left : adjusted 1_000_000 10_000 7 7 ≡ accepted (0, 0)
unfolding adjust_of rewards_of lowered_by
nothing_left = refl

-- ---- 'y 10,000, ratio 500,000, fee 200,000: amount 1,000,000 pays 4,000 and 1,000; 200 pays 1, 0; 199 pays 0, 0.'

-- the delegator's part and the publisher's
abbrev pays : (amount : ℕ) → Outcome (ℕ × ℕ)
pays amount = map_outcome (λ r. (r.delegator, r.publisher)) (reward_of amount 10_000 500_000 200_000 false)

pub million : pays 1_000_000 ≡ accepted (4_000, 1_000)
unfolding reward_of rate_of total_of shared
million = refl

pub two_hundred : pays 200 ≡ accepted (1, 0)
unfolding reward_of rate_of total_of shared
two_hundred = refl

pub one_below : pays 199 ≡ accepted (0, 0)
unfolding reward_of rate_of total_of shared
one_below = refl

-- ---- 'activation 5, start 8: 4 LOCKING, 7 PREUNLOCKING, 8 UNLOCKING, 9 UNLOCKED. Start 3, epoch 5: UNLOCKED.' The unlocking length is 1.

pub at_4_locking : state_by 5 1 8 4 1 ≡ accepted LOCKING
unfolding state_by
at_4_locking = refl

pub at_7_preunlocking : state_by 5 1 8 7 1 ≡ accepted PREUNLOCKING
unfolding state_by
at_7_preunlocking = refl

pub at_8_unlocking : state_by 5 1 8 8 1 ≡ accepted UNLOCKING
unfolding state_by
at_8_unlocking = refl

pub at_9_unlocked : state_by 5 1 8 9 1 ≡ accepted UNLOCKED
unfolding state_by
at_9_unlocked = refl

pub start_3_unlocked : state_by 5 1 3 5 1 ≡ accepted UNLOCKED
unfolding state_by
start_3_unlocked = refl

-- ---- 'E 4, n 0, last 9, now 15: slots hold 13, 14, 11, 12; n 6.' From a pool fresh at 10.

abbrev at15 : List ℕ
at15 = advance_image 2 4 at10 (message 9_072_000 []) (given 15 0)

pub ring_epochs : epochs at15 ≡ (13, 14, 11, 12)
unfolding advances
ring_epochs = refl

pub ring_count : read 2 4 at15 (head num_events) ≡ 6
unfolding advances
ring_count = refl
