-- Worked examples of item 9's calls besides fresh at P 2 and E 4, by computing: what each changes, and its refusals in their order. Document 01's
-- own are marked; the figures of the others were worked out by hand. Assumes nothing.
use mathlib.Core.Path.{◌≡◌, refl}
use mathlib.Core.List.{List, [], ◌∷◌}
use Prim.Native.Nat.{ℕ, ◌-◌}
use Rattle.types.specs.Base.{word, half, Outcome, refused, accepted}
use Rattle.positions.specs.declared.Key.{Key}
use Rattle.std.specs.Prelude.{Option, Some, None}
use Rattle.positions.specs.declared.position.PositionState.TheVariants.{LOCKING, LOCKED, PREUNLOCKING, UNLOCKING, UNLOCKED}
use Rattle.image.specs.Layout.{self, other, last_updated_epoch, publishers, total_delegation, delta_delegation, publisher_stake_accounts, num_slash_events, delegation_fees, Field, head, seat, Words, image}
use Rattle.image.specs.Seats.{zero_key}
use Rattle.image.specs.Changes.{Change, nothing, side, slash_events, stake_account, fees, changed_image}
use Rattle.pool.specs.declared.changes.Delegation.{Delegation}
use Rattle.integrity_pool.specs.declared.slash.Slashing.{Slashing}
use Rattle.integrity_pool.specs.declared.stake_account.StakeAccounts.{StakeAccounts}
use Rattle.integrity_pool.specs.Changes.{add_call, remove_call, create_slash_event_call, created_in, slash_call, slashed_with, fee_call, stake_account_call}
use Rattle.integrity_pool.proofs.Computing.{changes}
use Rattle.integrity_pool.proofs.AdvanceExamples.{set_to}
use Rattle.integrity_pool.proofs.PaymentExamples.{key, publisher}

-- ---- a pool

abbrev account : Key
account = key 3 4

-- last 8; the publisher is at seat 1 with a stake account: other side 10, change -3; self side 20, change 5; 2 slash events
abbrev pool : Words
pool = set_to (
    (head last_updated_epoch, 8)
    ∷ (seat 0 (publishers 0), 5)
    ∷ (seat 1 (publishers 0), 7)
    ∷ (seat 1 (publishers 3), 9)
    ∷ (seat 1 (total_delegation other), 10)
    ∷ (seat 1 (delta_delegation other), word - 3)
    ∷ (seat 1 (total_delegation self), 20)
    ∷ (seat 1 (delta_delegation self), 5)
    ∷ (seat 1 (publisher_stake_accounts 0), 3)
    ∷ (seat 1 (publisher_stake_accounts 3), 4)
    ∷ (seat 1 num_slash_events, 2)
    ∷ (seat 1 delegation_fees, 200_000)
    ∷ [])
    (λ f. 0)

-- its image with these words set
abbrev image_with : List (Field × ℕ) → List ℕ
image_with set = image 2 4 (set_to set pool)

abbrev img : List ℕ
img = image_with []

abbrev after : Outcome Change → List ℕ
after c = changed_image 2 4 img c

-- not advanced to the current epoch
abbrev outdated : List ℕ
outdated = image_with ((head last_updated_epoch, 7) ∷ [])

-- a staker's, and the publisher's own, in epoch 8
abbrev of : (publisher account : Key) → Delegation
of publisher account = record { publisher = publisher; stake_account_positions = account; current_epoch = 8 }

abbrev staker : Delegation
staker = of publisher (key 8 8)

-- ---- add

abbrev add : List ℕ → Delegation → (amount : ℕ) → Outcome Change
add found d amount = add_call 2 4 found d amount

-- the amount joins the change of the staker's side or of the publisher's own; the zero key's is the own side of a seat without a stake account
pub added : (add img staker 4 ≡ accepted (side 1 other (record { total = 10; change = 1 })))
    × (add img (of publisher account) 4 ≡ accepted (side 1 self (record { total = 20; change = 9 })))
    × (add (image_with ((seat 1 (publisher_stake_accounts 0), 0) ∷ (seat 1 (publisher_stake_accounts 3), 0) ∷ [])) (of publisher zero_key) 4
    ≡ accepted (side 1 self (record { total = 20; change = 9 })))
unfolding changes
added = (refl, refl, refl)

-- no word but that change
pub added_image : (after (add img staker 4) ≡ image_with ((seat 1 (delta_delegation other), 1) ∷ []))
    × (after (add img (of publisher account) 4) ≡ image_with ((seat 1 (delta_delegation self), 9) ∷ []))
unfolding changes
added_image = (refl, refl)

-- 10 zero key, 11 unseated key, 12 last 7 or 9 and now 8, 13 for the amount, 13 for the sum: one fault after the other is put right
pub add_in_order : (add_call 0 4 outdated (of zero_key account) half ≡ refused 1)
    × (add outdated (of zero_key account) half ≡ refused 10)
    × (add outdated (of (key 9 7) account) half ≡ refused 11)
    × (add outdated (of publisher account) half ≡ refused 12)
    × (add (image_with ((head last_updated_epoch, 9) ∷ [])) (of publisher account) 4 ≡ refused 12)
    × (add img (of publisher account) half ≡ refused 13)
    × (add img (of publisher account) (half - 5) ≡ refused 13)
    × (add img (of publisher account) (half - 6) ≡ accepted (side 1 self (record { total = 20; change = half - 1 })))
unfolding changes
add_in_order = (refl, refl, refl, refl, refl, refl, refl, refl)

-- ---- remove

-- LOCKED and LOCKING subtract
pub removed : (remove_call 2 4 img staker 4 LOCKED ≡ accepted (side 1 other (record { total = 10; change = word - 7 })))
    × (remove_call 2 4 img (of publisher account) 4 LOCKING ≡ accepted (side 1 self (record { total = 20; change = 1 })))
    × (after (remove_call 2 4 img staker 4 LOCKED) ≡ image_with ((seat 1 (delta_delegation other), word - 7) ∷ []))
unfolding changes
removed = (refl, refl, refl)

-- UNLOCKED changes no word, and its amount is checked
pub removed_unlocked : (after (remove_call 2 4 img staker 4 UNLOCKED) ≡ img) × (remove_call 2 4 img staker half UNLOCKED ≡ refused 13)
unfolding changes
removed_unlocked = (refl, refl)

pub remove_in_order : (remove_call 0 4 outdated (of zero_key account) half UNLOCKING ≡ refused 1)
    × (remove_call 2 4 outdated (of zero_key account) half UNLOCKING ≡ refused 10)
    × (remove_call 2 4 outdated (of (key 9 7) account) half UNLOCKING ≡ refused 11)
    × (remove_call 2 4 outdated staker half UNLOCKING ≡ refused 12)
    × (remove_call 2 4 img staker half UNLOCKING ≡ refused 13)
    × (remove_call 2 4 img staker (half - 1) UNLOCKING ≡ refused 15)
    × (remove_call 2 4 img staker (half - 1) PREUNLOCKING ≡ refused 15)
    × (remove_call 2 4 img staker (half - 2) LOCKED ≡ refused 13)
    × (remove_call 2 4 img staker (half - 3) LOCKED ≡ accepted (side 1 other (record { total = 10; change = half })))
unfolding changes
remove_in_order = (refl, refl, refl, refl, refl, refl, refl, refl, refl)

-- ---- create slash event

-- the count goes up by one, the answer is the current epoch
pub created : (create_slash_event_call 2 4 img publisher 2 ≡ accepted (slash_events 1 3))
    × (created_in 8 (create_slash_event_call 2 4 img publisher 2) ≡ accepted 8)
    × (after (create_slash_event_call 2 4 img publisher 2) ≡ image_with ((seat 1 num_slash_events, 3) ∷ []))
unfolding changes
created = (refl, refl, refl)

-- last 7 is no fault here; document 01's 21 is index 1, count 0
pub create_in_order : (create_slash_event_call 0 4 outdated zero_key (word - 1) ≡ refused 1)
    × (create_slash_event_call 2 4 outdated zero_key (word - 1) ≡ refused 10)
    × (create_slash_event_call 2 4 outdated (key 9 7) (word - 1) ≡ refused 11)
    × (create_slash_event_call 2 4 outdated publisher (word - 1) ≡ refused 21)
    × (create_slash_event_call 2 4 outdated (key 5 0) 1 ≡ refused 21)
    × (create_slash_event_call 2 4 (image_with ((seat 1 num_slash_events, word - 1) ∷ [])) publisher (word - 1) ≡ refused 13)
    × (create_slash_event_call 2 4 outdated publisher 2 ≡ accepted (slash_events 1 3))
unfolding changes
create_in_order = (refl, refl, refl, refl, refl, refl, refl)

-- ---- slash

-- a record of this epoch with this next index, a slash event of this index and epoch; 4 locked and 2 preunlocking in epoch `now`
abbrev slash_of4_and2 : (publisher : Key) → (last next index event now : ℕ) → Slashing
slash_of4_and2 publisher last next index event now = record {
  delegation_record = record { last_epoch = record { 0 = last }; next_slash_event_index = next };
  delegation = record { publisher = publisher; stake_account_positions = key 8 8; current_epoch = now };
  index = index;
  slash_event_epoch = record { 0 = event };
  locked_slashed = record { 0 = 4 };
  preunlocking_slashed = record { 0 = 2 };
}

abbrev slash : List ℕ → Slashing → Outcome Change
slash found x = slash_call 2 4 found x

-- document 01's: on total 10, change -3 it leaves total 4, change -1; the next index goes up by one
pub slashed : let x = slash_of4_and2 publisher 8 2 2 8 8 in
    (slash img x ≡ accepted (side 1 other (record { total = 4; change = word - 1 })))
    × (slashed_with x (slash img x) ≡ accepted (record { last_epoch = record { 0 = 8 }; next_slash_event_index = 3 }))
    × (after (slash img x) ≡ image_with ((seat 1 (total_delegation other), 4) ∷ (seat 1 (delta_delegation other), word - 1) ∷ []))
unfolding changes
slashed = (refl, refl, refl)

-- document 01's: next 2, index 5, event 7: now 8 gives next 6, and no word changes; now 7 is 20
pub slashed_older : let x = slash_of4_and2 publisher 8 2 5 7 8 in
    (slash img x ≡ accepted nothing)
    × (slashed_with x (slash img x) ≡ accepted (record { last_epoch = record { 0 = 8 }; next_slash_event_index = 6 }))
    × (after (slash img x) ≡ img)
    × (slash img (slash_of4_and2 publisher 7 2 5 7 7) ≡ refused 20)
unfolding changes
slashed_older = (refl, refl, refl, refl)

-- an older one asks neither 12, 10 nor 11
pub older_in_any_pool : (slash outdated (slash_of4_and2 publisher 8 2 5 7 8) ≡ accepted nothing)
    × (slash img (slash_of4_and2 zero_key 8 2 5 7 8) ≡ accepted nothing)
    × (slash img (slash_of4_and2 (key 9 7) 8 2 5 7 8) ≡ accepted nothing)
unfolding changes
older_in_any_pool = (refl, refl, refl)

-- 19, document 01's with record 8 and now 9; 22, 20 with index 1 and next 2, 13 for the next index, then 12 ahead of 10; 13 where 6 are taken off 5
pub slash_in_order : (slash_call 0 4 outdated (slash_of4_and2 zero_key 7 2 1 9 8) ≡ refused 1)
    × (slash outdated (slash_of4_and2 zero_key 7 2 1 9 8) ≡ refused 19)
    × (slash outdated (slash_of4_and2 zero_key 8 2 1 8 9) ≡ refused 19)
    × (slash outdated (slash_of4_and2 zero_key 8 2 1 9 8) ≡ refused 22)
    × (slash outdated (slash_of4_and2 zero_key 8 2 1 8 8) ≡ refused 20)
    × (slash outdated (slash_of4_and2 zero_key 8 2 1 7 8) ≡ refused 20)
    × (slash outdated (slash_of4_and2 zero_key 8 2 (word - 1) 8 8) ≡ refused 20)
    × (slash outdated (slash_of4_and2 zero_key 8 2 (word - 1) 7 8) ≡ refused 13)
    × (slash outdated (slash_of4_and2 zero_key 8 (word - 1) (word - 1) 8 8) ≡ refused 13)
    × (slash outdated (slash_of4_and2 zero_key 8 2 2 8 8) ≡ refused 12)
    × (slash img (slash_of4_and2 zero_key 8 2 2 8 8) ≡ refused 10)
    × (slash img (slash_of4_and2 (key 9 7) 8 2 2 8 8) ≡ refused 11)
    × (slash (image_with ((seat 1 (total_delegation other), 5) ∷ [])) (slash_of4_and2 publisher 8 2 2 8 8) ≡ refused 13)
    × (slash (image_with ((seat 1 (delta_delegation other), half - 2) ∷ [])) (slash_of4_and2 publisher 8 2 2 8 8) ≡ refused 13)
unfolding changes
slash_in_order = (refl, refl, refl, refl, refl, refl, refl, refl, refl, refl, refl, refl, refl, refl)

-- ---- fee

-- every seat gets it, an empty one too
pub charged : (fee_call 2 4 img 1_000_000 ≡ accepted (fees 1_000_000))
    × (after (fee_call 2 4 img 1_000_000) ≡ image_with ((seat 0 delegation_fees, 1_000_000) ∷ (seat 1 delegation_fees, 1_000_000) ∷ []))
unfolding changes
charged = (refl, refl)

-- document 01's: 1,000,001
pub fee_in_order : (fee_call 0 4 img 1_000_001 ≡ refused 1) × (fee_call 2 4 img 1_000_001 ≡ refused 6)
unfolding changes
fee_in_order = (refl, refl)

-- ---- stake account

-- a list of one position in the publisher, of one elsewhere, and one of a kind that there isn't
abbrev delegated : List ℕ
delegated = 2 ∷ 1 ∷ 5 ∷ 0 ∷ 0 ∷ 7 ∷ 0 ∷ 0 ∷ 9 ∷ []

abbrev elsewhere : List ℕ
elsewhere = 2 ∷ 1 ∷ 5 ∷ 0 ∷ 0 ∷ 9 ∷ 0 ∷ 0 ∷ 7 ∷ []

abbrev kind3 : List ℕ
kind3 = 3 ∷ 0 ∷ 0 ∷ 0 ∷ 0 ∷ 0 ∷ 0 ∷ 0 ∷ 0 ∷ []

-- the reward authority is 1 1, the old account's owner 2 2
abbrev given : (publisher signer : Key) → (current new : Option Key) → StakeAccounts
given publisher signer current new = record {
  publisher = publisher;
  signer = signer;
  reward_program_authority = key 1 1;
  current_stake_account_positions = current;
  current_owner = key 2 2;
  new_stake_account_positions = new;
}

abbrev bare : List ℕ
bare = image_with ((seat 1 (publisher_stake_accounts 0), 0) ∷ (seat 1 (publisher_stake_accounts 3), 0) ∷ [])

-- the first one, by the publisher or the reward authority
pub first_set : (stake_account_call 2 4 bare [] elsewhere (given publisher publisher None (Some (key 6 6))) ≡ accepted (stake_account 1 (key 6 6)))
    × (stake_account_call 2 4 bare [] elsewhere (given publisher (key 1 1) None (Some (key 6 6))) ≡ accepted (stake_account 1 (key 6 6)))
unfolding changes
first_set = (refl, refl)

-- a later one, by the old one's owner; none sets the zero key
pub later_set : let set = stake_account_call 2 4 img elsewhere elsewhere (given publisher (key 2 2) (Some account) (Some (key 6 5))) in
    let taken = stake_account_call 2 4 img elsewhere [] (given publisher (key 2 2) (Some account) None) in
    (set ≡ accepted (stake_account 1 (key 6 5)))
    × (after set ≡ image_with ((seat 1 (publisher_stake_accounts 0), 6) ∷ (seat 1 (publisher_stake_accounts 3), 5) ∷ []))
    × (taken ≡ accepted (stake_account 1 zero_key))
    × (after taken ≡ bare)
unfolding changes
later_set = (refl, refl, refl, refl)

-- the list of an absent account is not looked at
pub absent_lists : (stake_account_call 2 4 bare kind3 delegated (given publisher publisher None None) ≡ accepted (stake_account 1 zero_key))
    × (stake_account_call 2 4 bare delegated kind3 (given publisher publisher None None) ≡ accepted (stake_account 1 zero_key))
unfolding changes
absent_lists = (refl, refl)

-- where the seat has none
pub first_in_order : (stake_account_call 0 4 bare [] kind3 (given zero_key (key 2 2) None (Some account)) ≡ refused 1)
    × (stake_account_call 2 4 bare [] kind3 (given zero_key (key 2 2) None (Some account)) ≡ refused 4)
    × (stake_account_call 2 4 bare kind3 [] (given zero_key (key 2 2) (Some account) None) ≡ refused 4)
    × (stake_account_call 2 4 bare [] delegated (given zero_key (key 2 2) None (Some account)) ≡ refused 10)
    × (stake_account_call 2 4 bare [] delegated (given (key 9 7) (key 2 2) None (Some account)) ≡ refused 11)
    × (stake_account_call 2 4 bare [] delegated (given publisher (key 2 2) None (Some account)) ≡ refused 23)
    × (stake_account_call 2 4 bare [] delegated (given publisher publisher None (Some account)) ≡ refused 27)
unfolding changes
first_in_order = (refl, refl, refl, refl, refl, refl, refl)

-- where it has one: 26, 17, 24, 25, 27; the publisher's own signature is not the owner's
pub later_in_order : (stake_account_call 2 4 img delegated delegated (given publisher publisher None (Some (key 6 6))) ≡ refused 26)
    × (stake_account_call 2 4 img delegated delegated (given publisher publisher (Some (key 4 3)) (Some (key 6 6))) ≡ refused 17)
    × (stake_account_call 2 4 img delegated delegated (given publisher publisher (Some account) (Some (key 6 6))) ≡ refused 24)
    × (stake_account_call 2 4 img elsewhere delegated (given publisher publisher (Some account) (Some (key 6 6))) ≡ refused 25)
    × (stake_account_call 2 4 img elsewhere delegated (given publisher (key 2 2) (Some account) (Some (key 6 6))) ≡ refused 27)
unfolding changes
later_in_order = (refl, refl, refl, refl, refl)
