-- Item 9 of document 01: the public calls besides fresh, their refusals in document 01's order, and what each changes. Assumes nothing.
use Rattle.std.specs.Prelude.{Bool, not, ◌&&◌, ◌||◌, List, ℕ, ◌+◌, leb, ltb, eqb, if◌then◌else◌, Option, Some, None}
use Rattle.types.specs.Base.{M, word, Outcome, refused, accepted, map_outcome, and_then}
use Rattle.types.specs.Refusals.{invalid_image, invalid_positions, invalid_delegation_fee, does_not_fit, publisher_stake_account_mismatch, outdated_delegator_accounting, wrong_slash_event_order, invalid_slash_event_index, slash_event_ahead_of_now, publisher_or_reward_authority_needs_to_sign, current_stake_account_should_be_undelegated, stake_account_owner_needs_to_sign, account_not_enough_keys, new_stake_account_should_be_undelegated}
use Rattle.types.specs.declared.Epoch.{Epoch}
use Rattle.positions.specs.declared.Key.{Key}
use Rattle.positions.specs.declared.position.PositionState.{PositionState}
use Rattle.positions.specs.Key.{same_key}
use Rattle.positions.specs.Positions.{positions_hold, has_publisher}
use Rattle.image.specs.Layout.{num_slash_events, seat, Words, read}
use Rattle.image.specs.Seats.{checked_image, zero_key, stake_account_at, publisher_index_of}
use Rattle.image.specs.Changes.{Change, nothing, slash_events, stake_account, fees}
use Rattle.pool.specs.declared.changes.Delegation.{Delegation}
use Rattle.pool.specs.Changes.{add_delegation, remove_delegation, apply_slash}
use Rattle.integrity_pool.specs.declared.payment.DelegationRecord.{DelegationRecord}
-- delegation_record, delegation (publisher, account, current epoch), index, slash_event_epoch, locked_slashed, preunlocking_slashed
use Rattle.integrity_pool.specs.declared.slash.Slashing.{Slashing}
-- publisher, signer, reward_program_authority, current_stake_account_positions (the old account), current_owner, new_stake_account_positions
use Rattle.integrity_pool.specs.declared.stake_account.StakeAccounts.{StakeAccounts}

-- '1 to 6 first, by number': 1
unfoldable pub checked_image_then : {A : Type 0} → (P E : ℕ) → List ℕ → Outcome A → Outcome A
checked_image_then P E img rest = if checked_image P E img then rest else refused invalid_image

-- ---- add and remove: 1, 10, 11, 12, 13 for the amount, 15, 13

unfoldable pub add_call : (P E : ℕ) → List ℕ → Delegation → (amount : ℕ) → Outcome Change
add_call P E img d amount = checked_image_then P E img (add_delegation P (read P E img) d amount)

unfoldable pub remove_call : (P E : ℕ) → List ℕ → Delegation → (amount : ℕ) → PositionState → Outcome Change
remove_call P E img d amount state = checked_image_then P E img (remove_delegation P (read P E img) d amount state)

-- ---- create slash event: 1, 10, 11, 21, 13

-- of the publisher at seat s, whose slash events so far it counts
unfoldable pub create_at : Words → (index s : ℕ) → Outcome Change
create_at w index s =
    if not (eqb (w (seat s num_slash_events)) index) then refused invalid_slash_event_index
    else if leb word (index + 1) then refused does_not_fit
    else accepted (slash_events s (index + 1))

unfoldable pub create_slash_event_call : (P E : ℕ) → List ℕ → (publisher : Key) → (index : ℕ) → Outcome Change
create_slash_event_call P E img publisher index =
    checked_image_then P E img (and_then (publisher_index_of P (read P E img) publisher) (create_at (read P E img) index))

-- its answer is the slash event's epoch, the current one
unfoldable pub created_in : (now : ℕ) → Outcome Change → Outcome ℕ
created_in now o = map_outcome (λ c. now) o

abbrev pub epoch_as : Epoch → ℕ
epoch_as epoch = epoch.0

-- ---- slash: 1, 19, 22, 20, 13 for the next index, then, only if it applies, 12, 10, 11, 13

-- '20 is an index below the next one or, in the current epoch, unequal to it'
unfoldable pub wrong_order : (index next event now : ℕ) → Bool
wrong_order index next event now = ltb index next || (eqb event now && not (eqb index next))

unfoldable pub slash_order : Slashing → Outcome (Unit {0})
slash_order x =
    if not (eqb x.delegation_record.last_epoch.0 x.delegation.current_epoch) then refused outdated_delegator_accounting
    else if ltb x.delegation.current_epoch x.slash_event_epoch.0 then refused slash_event_ahead_of_now
    else if wrong_order x.index x.delegation_record.next_slash_event_index x.slash_event_epoch.0 x.delegation.current_epoch then refused wrong_slash_event_order
    else if leb word (x.index + 1) then refused does_not_fit
    else accepted tt

-- 'A slash older than the current epoch only sets the record's next index to index + 1'
unfoldable pub slash_change : (P : ℕ) → Words → Slashing → Outcome Change
slash_change P w x =
    if ltb x.slash_event_epoch.0 x.delegation.current_epoch then accepted nothing
    else apply_slash P w x.delegation x.locked_slashed.0 x.preunlocking_slashed.0

unfoldable pub slash_call : (P E : ℕ) → List ℕ → Slashing → Outcome Change
slash_call P E img x = checked_image_then P E img (and_then (slash_order x) (λ y. slash_change P (read P E img) x))

-- 'and 1 to the record's next index': one that applies has the record's next index, so index + 1 is the next one in both cases
abbrev pub slashed_record : Slashing → DelegationRecord
slashed_record x = record { last_epoch = x.delegation_record.last_epoch; next_slash_event_index = x.index + 1 }

-- its answer is the record to keep
unfoldable pub slashed_with : Slashing → Outcome Change → Outcome DelegationRecord
slashed_with x o = map_outcome (λ c. slashed_record x) o

-- ---- fee: 1, 6

unfoldable pub fee_call : (P E : ℕ) → List ℕ → (fee : ℕ) → Outcome Change
fee_call P E img fee = checked_image_then P E img (if ltb M fee then refused invalid_delegation_fee else accepted (fees fee))

-- ---- stake account: 1, 4, 10, 11, then 23 or 26, 17, 24, 25, then 27

-- 4; 'a list of an absent account is not looked at'
unfoldable pub account_holds : Option Key → List ℕ → Bool
account_holds (Some key) words = positions_hold words
account_holds None words = Bool.true

-- the seat has none: 23 unless the publisher or the reward authority signs
unfoldable pub first_account : StakeAccounts → Outcome (Unit {0})
first_account a =
    if same_key a.signer a.publisher || same_key a.signer a.reward_program_authority then accepted tt
    else refused publisher_or_reward_authority_needs_to_sign

-- the seat has one: 26 without an old account; 17 if that is another; 24 if it holds a position in this publisher; 25 unless its owner signs
unfoldable pub later_account : (found : Key) → List ℕ → StakeAccounts → Option Key → Outcome (Unit {0})
later_account found old a (Some key) =
    if not (same_key key found) then refused publisher_stake_account_mismatch
    else if has_publisher old a.publisher then refused current_stake_account_should_be_undelegated
    else if not (same_key a.signer a.current_owner) then refused stake_account_owner_needs_to_sign
    else accepted tt
later_account found old a None = refused account_not_enough_keys

unfoldable pub may_change : (found : Key) → List ℕ → StakeAccounts → Outcome (Unit {0})
may_change found old a = if same_key found zero_key then first_account a else later_account found old a a.current_stake_account_positions

-- 27: the new account holds a position in this publisher; none sets the zero key
unfoldable pub new_account : List ℕ → (publisher : Key) → Option Key → Outcome Key
new_account new publisher (Some key) = if has_publisher new publisher then refused new_stake_account_should_be_undelegated else accepted key
new_account new publisher None = accepted zero_key

unfoldable pub stake_account_at_seat : Words → (old new : List ℕ) → StakeAccounts → (s : ℕ) → Outcome Change
stake_account_at_seat w old new a s =
    and_then (may_change (stake_account_at w s) old a) (λ x. map_outcome (stake_account s) (new_account new a.publisher a.new_stake_account_positions))

unfoldable pub stake_account_call : (P E : ℕ) → List ℕ → (old new : List ℕ) → StakeAccounts → Outcome Change
stake_account_call P E img old new a =
    checked_image_then P E img (
    if not (account_holds a.current_stake_account_positions old && account_holds a.new_stake_account_positions new) then refused invalid_positions
    else and_then (publisher_index_of P (read P E img) a.publisher) (stake_account_at_seat (read P E img) old new a))
