-- Item 9's changes of a pool's words, in one shape. Assumes nothing.
use Rattle.std.specs.Prelude.{Bool, true, false, List, ℕ, eqb, if◌then◌else◌}
use Rattle.types.specs.Base.{Outcome, after}
use Rattle.positions.specs.declared.Key.{Key}
use Rattle.positions.specs.Key.{same_key}
use Rattle.delegation.specs.declared.DelegationState.{DelegationState}
use Rattle.delegation.specs.Side.{Side}
use Rattle.image.specs.declared.seats.SeatSide.{SeatSide}
use Rattle.image.specs.declared.seats.SeatSide.TheVariants.{Own, Other}
use Rattle.image.specs.Layout.{Whose, self, other, publishers, total_delegation, delta_delegation, publisher_stake_accounts}
use Rattle.image.specs.Layout.{num_slash_events, delegation_fees, head, seat, slot, share, Words, read, image}
use Rattle.image.specs.Seats.{stake_account_at, word_of, with_side}

-- ---- whose stake it is

-- 'Self side, also in item 9: the account key equals the seat's stake account key, both zero included'
unfoldable pub self_side : Words → (s : ℕ) → (account : Key) → Bool
self_side w s account = same_key (stake_account_at w s) account

abbrev pub whose : (self_side : Bool) → Whose
whose true = self
whose false = other

-- the side that the code names
abbrev pub side_named : SeatSide → Whose
side_named Own = self
side_named Other = other

-- ---- a seat with a word of it changed, all else as it was

-- seat s with this number of slash events
unfoldable pub with_slash_events : Words → (s count : ℕ) → Words
with_slash_events w s n (head h) = w (head h)
with_slash_events w s n (seat q (publishers c)) = w (seat q (publishers c))
with_slash_events w s n (seat q (total_delegation d)) = w (seat q (total_delegation d))
with_slash_events w s n (seat q (delta_delegation d)) = w (seat q (delta_delegation d))
with_slash_events w s n (seat q (publisher_stake_accounts c)) = w (seat q (publisher_stake_accounts c))
with_slash_events w s n (seat q num_slash_events) = if eqb q s then n else w (seat q num_slash_events)
with_slash_events w s n (seat q delegation_fees) = w (seat q delegation_fees)
with_slash_events w s n (slot t x) = w (slot t x)
with_slash_events w s n (share t q x) = w (share t q x)

-- seat s with this stake account
unfoldable pub with_stake_account : Words → (s : ℕ) → Key → Words
with_stake_account w s k (head h) = w (head h)
with_stake_account w s k (seat q (publishers c)) = w (seat q (publishers c))
with_stake_account w s k (seat q (total_delegation d)) = w (seat q (total_delegation d))
with_stake_account w s k (seat q (delta_delegation d)) = w (seat q (delta_delegation d))
with_stake_account w s k (seat q (publisher_stake_accounts c)) = if eqb q s then word_of k c else w (seat q (publisher_stake_accounts c))
with_stake_account w s k (seat q num_slash_events) = w (seat q num_slash_events)
with_stake_account w s k (seat q delegation_fees) = w (seat q delegation_fees)
with_stake_account w s k (slot t x) = w (slot t x)
with_stake_account w s k (share t q x) = w (share t q x)

-- every seat with this fee
unfoldable pub with_fees : Words → (fee : ℕ) → Words
with_fees w fee (head h) = w (head h)
with_fees w fee (seat q (publishers c)) = w (seat q (publishers c))
with_fees w fee (seat q (total_delegation d)) = w (seat q (total_delegation d))
with_fees w fee (seat q (delta_delegation d)) = w (seat q (delta_delegation d))
with_fees w fee (seat q (publisher_stake_accounts c)) = w (seat q (publisher_stake_accounts c))
with_fees w fee (seat q num_slash_events) = w (seat q num_slash_events)
with_fees w fee (seat q delegation_fees) = fee
with_fees w fee (slot t x) = w (slot t x)
with_fees w fee (share t q x) = w (share t q x)

-- ---- the shape of them all

-- what an accepted call of item 9 changes: nothing, one side of a seat, a seat's number of slash events, a seat's stake account, or every seat's fee
pub data Change : Type 0 where
  nothing : Change
  side : (s : ℕ) → Whose → Side → Change
  slash_events : (s count : ℕ) → Change
  stake_account : (s : ℕ) → Key → Change
  fees : (fee : ℕ) → Change

-- a side as it stands in the image
abbrev pub state_of_side : Side → DelegationState
state_of_side v = record { total_delegation = record { 0 = v.total }; delta_delegation = v.change }

-- the words with that change
abbrev pub changed : Words → Change → Words
changed w nothing = w
changed w (side s d v) = with_side w s d (state_of_side v)
changed w (slash_events s n) = with_slash_events w s n
changed w (stake_account s k) = with_stake_account w s k
changed w (fees fee) = with_fees w fee

-- the image after a call that comes to this: a refused one leaves the image it found
unfoldable pub changed_image : (P E : ℕ) → List ℕ → Outcome Change → List ℕ
changed_image P E img o = after o (λ c. image P E (changed (read P E img) c)) img
