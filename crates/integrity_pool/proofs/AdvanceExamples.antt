-- Worked examples of fresh, advance and forecast at P 2 and E 4, by computing. Those of document 01's table of refusals stand here too;
-- the figures of the others were worked out by hand. Assumes nothing.
use mathlib.Core.Path.{◌≡◌, refl}
use mathlib.Core.List.{List, [], ◌∷◌, ◌++◌}
use Prim.Native.Nat.{ℕ, zero, suc, ◌+◌, ◌-◌, ◌*◌, ◌/◌, ◌%◌, ◌^◌}
use lib.ListN.{length}
use Rattle.types.specs.Base.{word, half, Outcome, refused, accepted, map_outcome}
use Rattle.image.specs.Layout.{self, other, last_updated_epoch, claimable_rewards, num_events, publishers, total_delegation, delta_delegation, publisher_stake_accounts, num_slash_events, delegation_fees, event_epoch, event_y, extra_space, reward_ratio, event_fee, Field, head, seat, slot, share, Words, size, addr, read, image}
use Rattle.advance_plan.specs.declared.Given.{Given}
use Rattle.integrity_pool.specs.Calls.{fresh_call, fresh_image, advance_call, advance_image, forecast_call}
use Rattle.integrity_pool.proofs.Computing.{put, advances}

-- ---- the image at P 2 and E 4, and its size

pub sizes : (size 2 4 ≡ 91) × (size 1_024 52 ≡ 174_551)
sizes = (refl, refl)

-- the first and the last word of each run
abbrev places : List Field → List ℕ
places [] = []
places (f ∷ fs) = addr 2 4 f ∷ places fs

pub places_in_order : places (
    head last_updated_epoch ∷ head claimable_rewards
    ∷ seat 0 (publishers 0) ∷ seat 1 (publishers 3)
    ∷ seat 0 (total_delegation other) ∷ seat 0 (delta_delegation other) ∷ seat 1 (delta_delegation other)
    ∷ seat 0 (total_delegation self) ∷ seat 0 (delta_delegation self) ∷ seat 1 (delta_delegation self)
    ∷ seat 0 (publisher_stake_accounts 0) ∷ seat 1 (publisher_stake_accounts 3)
    ∷ slot 0 event_epoch ∷ slot 0 event_y ∷ slot 0 (extra_space 0) ∷ slot 0 (extra_space 6)
    ∷ share 0 0 (reward_ratio self) ∷ share 0 0 (reward_ratio other) ∷ share 0 0 event_fee ∷ share 0 1 event_fee
    ∷ slot 1 event_epoch ∷ share 3 1 event_fee
    ∷ head num_events ∷ seat 0 num_slash_events ∷ seat 1 num_slash_events ∷ seat 0 delegation_fees ∷ seat 1 delegation_fees
    ∷ [])
    ≡ 0 ∷ 1 ∷ 2 ∷ 9 ∷ 10 ∷ 11 ∷ 13 ∷ 14 ∷ 15 ∷ 17 ∷ 18 ∷ 25 ∷ 26 ∷ 27 ∷ 28 ∷ 34 ∷ 35 ∷ 36 ∷ 37 ∷ 40 ∷ 41 ∷ 85 ∷ 86 ∷ 87 ∷ 88 ∷ 89 ∷ 90 ∷ []
places_in_order = refl

-- ---- words by name, and messages

-- a pool's words with these set
abbrev pub set_to : List (Field × ℕ) → Words → Words
set_to [] w = w
set_to (x ∷ more) w = put 2 4 (set_to more w) x.0 x.1

-- a number's bytes, the highest first
abbrev bytes : (count n : ℕ) → List ℕ
bytes zero n = []
bytes (suc count) n = n / 256 ^ count % 256 ∷ bytes count n

-- a row is a key and its cap
abbrev row_bytes : List (ℕ × ℕ) → List ℕ
row_bytes [] = []
row_bytes (r ∷ rows) = bytes 32 r.0 ++ (bytes 8 r.1 ++ row_bytes rows)

abbrev pub message : (time : ℕ) → List (ℕ × ℕ) → List ℕ
message time rows = 0 ∷ (bytes 8 time ++ (bytes 2 (length rows) ++ row_bytes rows))

abbrev given_as : (now y custody seconds flag : ℕ) → Given
given_as now y custody seconds flag = record { current_epoch = now; y = y; pool_reward_custody_balance = custody; epoch_duration = seconds; is_verified = flag }

-- with y 10,000, 604,800 seconds an epoch and a flag of 1
abbrev pub given : (now custody : ℕ) → Given
given now custody = given_as now 10_000 custody 604_800 1

-- ---- document 01's ring, by way of epoch 12, with a call between that is refused

-- a fresh pool, from a list of fives
abbrev pub at10 : List ℕ
at10 = fresh_image 2 4 (image 2 4 (λ f. 5)) 10

abbrev at12 : List ℕ
at12 = advance_image 2 4 at10 (message 7_257_600 []) (given 12 0)

abbrev pub epochs : List ℕ → ℕ × ℕ × ℕ × ℕ
epochs img = (read 2 4 img (slot 0 event_epoch), read 2 4 img (slot 1 event_epoch), read 2 4 img (slot 2 event_epoch), read 2 4 img (slot 3 event_epoch))

pub ring_by_12 : epochs (advance_image 2 4 (advance_image 2 4 at12 (message 7_257_600 []) (given 12 0)) (message 9_072_000 []) (given 15 0)) ≡ (13, 14, 11, 12)
unfolding advances
ring_by_12 = refl

-- ---- an advance with a row of each kind, and y lowered

-- seat 0 has key 1, 0 .. 0, 2 (bytes), and sides that roll from 600,000 to 1,000,000 and from 800,000 to 700,000; slot 3 has a spare word
abbrev found_words : Words
found_words = set_to (
    (head last_updated_epoch, 9)
    ∷ (head claimable_rewards, 7)
    ∷ (head num_events, 3)
    ∷ (seat 0 (publishers 0), 1)
    ∷ (seat 0 (publishers 3), 2 * 256 ^ 7)
    ∷ (seat 0 (total_delegation self), 600_000)
    ∷ (seat 0 (delta_delegation self), 400_000)
    ∷ (seat 0 (total_delegation other), 800_000)
    ∷ (seat 0 (delta_delegation other), word - 100_000)
    ∷ (seat 0 delegation_fees, 200_000)
    ∷ (slot 3 (extra_space 0), 77)
    ∷ [])
    (λ f. 0)

abbrev found : List ℕ
found = image 2 4 found_words

-- the second row is seat 0's, the first takes seat 1, the third is dropped
abbrev rows : (cap : ℕ) → List ℕ
rows cap = message 7_257_605 ((5, 500) ∷ (256 ^ 31 + 2, cap) ∷ (2 * 256 ^ 31, 9) ∷ [])

-- y', set aside, matched, seated, dropped
abbrev answer : List ℕ → List ℕ → Given → Outcome (ℕ × ℕ × ℕ × ℕ × ℕ)
answer img m g = map_outcome (λ a. (a.y, a.set_aside, a.matched, a.seated, a.dropped)) (advance_call 2 4 img m g)

-- epochs 9, 10 and 11 have 1,000,000 eligible each, so R is 30,000, of which custody covers 10,000
pub lowered_answer : answer found (rows 1_000_000) (given 12 10_007) ≡ accepted (3_333, 9_999, 1, 1, 1)
unfolding advances
lowered_answer = refl

-- the words that change where y' and claimable are these; all others of the 91 stay
abbrev advanced_to : (y claimable : ℕ) → List ℕ
advanced_to y claimable =
    image 2 4 (set_to (
    (head last_updated_epoch, 12)
    ∷ (head claimable_rewards, claimable)
    ∷ (head num_events, 6)
    ∷ (seat 0 (total_delegation self), 1_000_000)
    ∷ (seat 0 (delta_delegation self), 0)
    ∷ (seat 0 (total_delegation other), 700_000)
    ∷ (seat 0 (delta_delegation other), 0)
    ∷ (seat 1 (publishers 3), 5 * 256 ^ 7)
    ∷ (slot 3 event_epoch, 9)
    ∷ (slot 3 event_y, y)
    ∷ (share 3 0 (reward_ratio self), 1_000_000)
    ∷ (share 3 0 (reward_ratio other), 500_000)
    ∷ (share 3 0 event_fee, 200_000)
    ∷ (slot 0 event_epoch, 10)
    ∷ (slot 0 event_y, y)
    ∷ (share 0 0 (reward_ratio self), 1_000_000)
    ∷ (share 0 0 event_fee, 200_000)
    ∷ (slot 1 event_epoch, 11)
    ∷ (slot 1 event_y, y)
    ∷ (share 1 0 (reward_ratio self), 1_000_000)
    ∷ (share 1 0 event_fee, 200_000)
    ∷ [])
    found_words)

pub lowered_image : advance_image 2 4 found (rows 1_000_000) (given 12 10_007) ≡ advanced_to 3_333 10_006
unfolding advances
lowered_image = refl

-- [8] on a drained custody, claimable 7 over 6: y' is 0 and nothing is set aside; the events are written, totals roll, the row is seated
pub drained_answer : answer found (rows 1_000_000) (given 12 6) ≡ accepted (0, 0, 1, 1, 1)
unfolding advances
drained_answer = refl

pub drained_image : advance_image 2 4 found (rows 1_000_000) (given 12 6) ≡ advanced_to 0 7
unfolding advances
drained_image = refl

-- 13 for R + claimable stays ahead of it: R is 30,000
abbrev claiming : (claimable : ℕ) → List ℕ
claiming claimable = image 2 4 (set_to ((head claimable_rewards, claimable) ∷ []) found_words)

pub drained_13 : (answer (claiming (word - 30_000)) (rows 1_000_000) (given 12 6) ≡ refused 13)
    × (answer (claiming (word - 30_001)) (rows 1_000_000) (given 12 6) ≡ accepted (0, 0, 1, 1, 1))
unfolding advances
drained_13 = (refl, refl)

pub lowered_forecast : forecast_call 2 4 found (rows 1_000_000) (given 12 10_007) ≡ accepted 9_999
unfolding advances
lowered_forecast = refl

-- under a cap of 2,000,000 all is eligible: 1,400,000 in epoch 9, then 1,700,000 twice; the forecast takes 1,700,000 three times
pub full_answer : answer found (rows 2_000_000) (given 12 100_000) ≡ accepted (10_000, 48_000, 1, 1, 1)
unfolding advances
full_answer = refl

pub full_forecast : forecast_call 2 4 found (rows 2_000_000) (given 12 100_000) ≡ accepted 51_000
unfolding advances
full_forecast = refl

-- ---- the table of refusals, by its examples

-- what an advance and a forecast answer: the amount set aside
abbrev both : (P E : ℕ) → List ℕ → List ℕ → Given → Outcome ℕ × Outcome ℕ
both P E img m g = (map_outcome (λ a. a.set_aside) (advance_call P E img m g), forecast_call P E img m g)

abbrev both_refused : ℕ → Outcome ℕ × Outcome ℕ
both_refused k = (refused k, refused k)

-- P 0
pub refused_1 : (fresh_call 0 4 found 10 ≡ refused 1) × (both 0 4 found (rows 9) (given 12 7) ≡ both_refused 1)
unfolding advances
refused_1 = (refl, refl)

-- fresh 0; epoch seconds 0
pub refused_2 : (fresh_call 2 4 found 0 ≡ refused 2) × (both 2 4 found (rows 9) (given_as 12 10_000 7 0 1) ≡ both_refused 2)
unfolding advances
refused_2 = (refl, refl)

-- 10 bytes
pub refused_3 : both 2 4 found (bytes 10 0) (given 12 7) ≡ both_refused 3
unfolding advances
refused_3 = refl

-- y 10,001
pub refused_5 : both 2 4 found (rows 9) (given_as 12 10_001 7 604_800 1) ≡ both_refused 5
unfolding advances
refused_5 = refl

-- flag 0
pub refused_7 : both 2 4 found (rows 9) (given_as 12 10_000 7 604_800 0) ≡ both_refused 7
unfolding advances
refused_7 = refl

-- last 9, now 9
pub refused_8 : both 2 4 found (rows 9) (given 9 7) ≡ both_refused 8
unfolding advances
refused_8 = refl

-- now 15, time 9,071,999
pub refused_9 : both 2 4 at10 (message 9_071_999 []) (given 15 0) ≡ both_refused 9
unfolding advances
refused_9 = refl

-- total 5, change -6
abbrev below_zero : List ℕ
below_zero = image 2 4 (set_to ((seat 0 (total_delegation self), 5) ∷ (seat 0 (delta_delegation self), word - 6) ∷ []) found_words)

pub refused_13 : both 2 4 below_zero (rows 9) (given 12 7) ≡ both_refused 13
unfolding advances
refused_13 = refl

-- n would reach 2^63, by the third of the passed epochs; with one event fewer it does not, and n at 2^63 is 1
abbrev with_count : (n : ℕ) → List ℕ
with_count n = image 2 4 (set_to ((head num_events, n) ∷ []) found_words)

pub count_edge : (both 2 4 (with_count (half - 3)) (rows 9) (given 12 7) ≡ both_refused 13)
    × (both 2 4 (with_count (half - 4)) (rows 9) (given 12 7) ≡ (accepted 0, accepted 0))
    × (both 2 4 (with_count half) (rows 9) (given 12 7) ≡ both_refused 1)
unfolding advances
count_edge = (refl, refl, refl)

-- claimable 7 over custody 6 is no refusal of either any more
pub drained_both : both 2 4 found (rows 9) (given 12 6) ≡ (accepted 0, accepted 0)
unfolding advances
drained_both = refl

-- ---- the order: one fault after the other is put right

abbrev no_time : List ℕ
no_time = message half []

pub in_order : (both 0 4 below_zero (bytes 10 0) (given_as 9 10_001 6 0 0) ≡ both_refused 1)
    × (both 2 4 below_zero (bytes 10 0) (given_as 9 10_001 6 0 0) ≡ both_refused 2)
    × (both 2 4 below_zero (bytes 10 0) (given_as 9 10_001 6 604_800 0) ≡ both_refused 3)
    × (both 2 4 below_zero no_time (given_as 9 10_001 6 604_800 0) ≡ both_refused 5)
    × (both 2 4 below_zero no_time (given_as 9 10_000 6 604_800 0) ≡ both_refused 7)
    × (both 2 4 below_zero no_time (given 9 6) ≡ both_refused 8)
    × (both 2 4 below_zero no_time (given 12 6) ≡ both_refused 13)
    × (both 2 4 below_zero (message 7_257_599 []) (given 12 6) ≡ both_refused 9)
    × (both 2 4 below_zero (message 7_257_600 []) (given 12 6) ≡ both_refused 13)
    × (both 2 4 found (message 7_257_600 []) (given 12 6) ≡ (accepted 0, accepted 0))
    × (both 2 4 found (message 7_257_600 []) (given 12 7) ≡ (accepted 0, accepted 0))
unfolding advances
in_order = (refl, refl, refl, refl, refl, refl, refl, refl, refl, refl, refl)
