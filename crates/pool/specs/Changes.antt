-- Item 9 of document 01: add, remove and a slash that applies, over the image's words by name. Assumes nothing.
use Rattle.std.specs.Prelude.{◌≡◌, Bool, ℕ, eqb, if◌then◌else◌, Result}
use Rattle.types.specs.Base.{Outcome, refused, accepted, map_outcome, and_then, outcome_of, outcome_by}
use Rattle.types.specs.Refusals.{outdated_publisher_accounting}
use Rattle.types.specs.declared.refusals.Refusal.{Refusal}
use Rattle.positions.specs.declared.position.PositionState.{PositionState}
use Rattle.positions.specs.declared.Key.{Key}
use Rattle.delegation.specs.declared.DelegationState.{DelegationState}
use Rattle.delegation.specs.Side.{Side, side_of, add_of, remove_of, slash_of}
use Rattle.image.specs.Pool.{words_in}
use Rattle.image.specs.Layout.{Whose, last_updated_epoch, total_delegation, delta_delegation, head, seat, Words}
use Rattle.image.specs.Seats.{publisher_index_of, side_at}
use Rattle.image.specs.declared.pool_data.PoolDataMut.{PoolDataMut}
use Rattle.types.specs.Base.{acceptance}
use Rattle.image.specs.Changes.{self_side, whose, Change, side, changed_image}
-- publisher, stake_account_positions (the account), current_epoch
use Rattle.pool.specs.declared.changes.Delegation.{Delegation}

-- ---- the publisher's seat

-- 12: the pool has not been advanced to the current epoch
unfoldable pub up_to_date : Words → (now : ℕ) → Bool
up_to_date w now = eqb (w (head last_updated_epoch)) now

abbrev pub dated : Words → (now : ℕ) → Outcome (Unit {0})
dated w now = if up_to_date w now then accepted tt else refused outdated_publisher_accounting

-- of add and remove: 10, 11, 12
unfoldable pub delegation_seat : (P : ℕ) → Words → Delegation → Outcome ℕ
delegation_seat P w d =
    and_then (publisher_index_of P w d.publisher) (λ s.
    if up_to_date w d.current_epoch then accepted s else refused outdated_publisher_accounting)

-- of a slash: 12, 10, 11
unfoldable pub slash_seat : (P : ℕ) → Words → Delegation → Outcome ℕ
slash_seat P w d = if up_to_date w d.current_epoch then publisher_index_of P w d.publisher else refused outdated_publisher_accounting

-- ---- what becomes of the account's side

-- the side at seat s that the account's stake stands on
unfoldable pub account_side : Words → Delegation → (s : ℕ) → Whose
account_side w d s = whose (self_side w s d.stake_account_positions)

-- it becomes what its total and change come to
unfoldable pub side_change : Words → Delegation → (becomes : (total change : ℕ) → Outcome Side) → (s : ℕ) → Outcome Change
side_change w d becomes s =
    map_outcome (side s (account_side w d s)) (becomes (w (seat s (total_delegation (account_side w d s)))) (w (seat s (delta_delegation (account_side w d s)))))

-- add: the amount joins the side's change
unfoldable pub add_delegation : (P : ℕ) → Words → Delegation → (amount : ℕ) → Outcome Change
add_delegation P w d amount = and_then (delegation_seat P w d) (side_change w d (λ total change. add_of total change amount))

-- remove: 'LOCKED, LOCKING subtract; UNLOCKED nothing; the state is an input, as in `remove_delegation`'
unfoldable pub remove_delegation : (P : ℕ) → Words → Delegation → (amount : ℕ) → PositionState → Outcome Change
remove_delegation P w d amount state = and_then (delegation_seat P w d) (side_change w d (λ total change. remove_of total change amount state))

-- 'A slash that applies takes locked plus preunlocking off the side's total, adds preunlocking to its change'
unfoldable pub apply_slash : (P : ℕ) → Words → Delegation → (locked preunlocking : ℕ) → Outcome Change
apply_slash P w d locked preunlocking = and_then (slash_seat P w d) (side_change w d (λ total change. slash_of total change locked preunlocking))

-- a pool that is written is changed as the outcome says, and the answer is the outcome's; it stays the one that was lent
pub record ChangesAs (old new : PoolDataMut) (o : Outcome Change) (r : Result (Unit {0}) Refusal) : Type 0 where
  pub answer : outcome_of r ≡ acceptance o
  pub same_loan : new.words.ghost_name ≡ old.words.ghost_name
  pub p : new.p ≡ old.p
  pub e : new.e ≡ old.e
  pub image : new.words.now ≡ changed_image old.p old.e old.words.now o

-- the account's side at seat s becomes what a change of it answers, whatever that may be
pub record SideChanges (may_answer : DelegationState → Result DelegationState Refusal → Type 0) (old new : PoolDataMut) (s : ℕ) (account : Key)
    (r : Result (Unit {0}) Refusal) : Type 0 where
  pub becomes : Result DelegationState Refusal
  pub answered : may_answer (side_at (words_in old) s (whose (self_side (words_in old) s account))) becomes
  pub changes : ChangesAs old new (map_outcome (side s (whose (self_side (words_in old) s account))) (outcome_by side_of becomes)) r
