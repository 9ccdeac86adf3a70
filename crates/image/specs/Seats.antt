-- Refusal 1, the seats of an image and what stands in them, and a fresh pool. Assumes nothing.
use Rattle.std.specs.Prelude.{◌≡◌, Bool, ◌&&◌, List, [], ◌∷◌, ℕ, zero, suc, ◌+◌, ◌-◌, ◌≤◌, ◌<◌, leb, ltb, eqb, length, get_or, set, if◌then◌else◌}
use Rattle.types.specs.Base.{half, Outcome, refused, accepted, first_below}
use Rattle.types.specs.Refusals.{invalid_publisher, publisher_not_found}
use Rattle.positions.specs.declared.Key.{Key}
use Rattle.positions.specs.Key.{same_key}
use Rattle.delegation.specs.declared.DelegationState.{DelegationState}
use Rattle.image.specs.Layout.{Whose, self, other, Head, last_updated_epoch, claimable_rewards, num_events, publishers, total_delegation, delta_delegation}
use Rattle.image.specs.Layout.{publisher_stake_accounts, num_slash_events, delegation_fees, reward_ratio, event_fee, head, seat, slot, share, Words, size, read}

-- ---- refusal 1

-- 'P seats (1 to 1,024) and E events (1 to 52)'
abbrev pub in_range : (P E : ℕ) → Bool
in_range P E = leb 1 P && (leb P 1_024 && (leb 1 E && leb E 52))

-- words in all, 0 for P or E out of range
unfoldable pub size_of : (P E : ℕ) → ℕ
size_of P E = if in_range P E then size P E else 0

-- P, E and the length of the image
unfoldable pub sized_image : (P E : ℕ) → List ℕ → Bool
sized_image P E img = in_range P E && eqb (length img) (size P E)

-- refusal 1 is given where this is false: besides, n is below 2^63
unfoldable pub checked_image : (P E : ℕ) → List ℕ → Bool
checked_image P E img = sized_image P E img && ltb (read P E img (head num_events)) half

-- P, E and the image's length are in order
pub record Sized (pool : List ℕ) (p e : ℕ) : Type 0 where
  pub p_low : 1 ≤ p
  pub p_high : p ≤ 1024
  pub e_low : 1 ≤ e
  pub e_high : e ≤ 52
  pub size : length pool ≡ size p e

-- ---- what stands in a seat

-- the Rust's Pubkey::default()
abbrev pub zero_key : Key
zero_key = record { 0 = 0; 1 = 0; 2 = 0; 3 = 0 }

abbrev pub publisher_at : Words → (s : ℕ) → Key
publisher_at w s = record { 0 = w (seat s (publishers 0)); 1 = w (seat s (publishers 1)); 2 = w (seat s (publishers 2)); 3 = w (seat s (publishers 3)) }

abbrev pub stake_account_at : Words → (s : ℕ) → Key
stake_account_at w s = record {
  0 = w (seat s (publisher_stake_accounts 0));
  1 = w (seat s (publisher_stake_accounts 1));
  2 = w (seat s (publisher_stake_accounts 2));
  3 = w (seat s (publisher_stake_accounts 3));
}

-- one side of a seat: self_del_state or del_state
abbrev pub side_at : Words → (s : ℕ) → Whose → DelegationState
side_at w s d = record { total_delegation = record { 0 = w (seat s (total_delegation d)) }; delta_delegation = w (seat s (delta_delegation d)) }

-- a seat's words in slot t's event: self ratio, other ratio and fee
abbrev pub shares_at : Words → (t s : ℕ) → List ℕ
shares_at w t s = w (share t s (reward_ratio self)) ∷ w (share t s (reward_ratio other)) ∷ w (share t s event_fee) ∷ []

-- seats count up to the first zero key (item 4)
unfoldable pub empty_seat : Words → ℕ → Bool
empty_seat w s = same_key (publisher_at w s) zero_key

unfoldable pub seats_of : (P : ℕ) → Words → ℕ
seats_of P w = first_below P (empty_seat w)

-- a publisher is looked up over all P seats, first match (item 9); 10 for the zero key, 11 where none has it
unfoldable pub first_seat : (P : ℕ) → Words → Key → ℕ
first_seat P w publisher = first_below P (λ s. same_key (publisher_at w s) publisher)

unfoldable pub publisher_index_of : (P : ℕ) → Words → Key → Outcome ℕ
publisher_index_of P w publisher =
    if same_key publisher zero_key then refused invalid_publisher
    else if ltb (first_seat P w publisher) P then accepted (first_seat P w publisher)
    else refused publisher_not_found

-- ---- a seat with a word of it changed

-- word c of a key
abbrev pub word_of : Key → (c : ℕ) → ℕ
word_of k zero = k.0
word_of k (suc zero) = k.1
word_of k (suc (suc zero)) = k.2
word_of k (suc (suc (suc c))) = k.3

-- words with a key from place `at` on
abbrev pub keyed : List ℕ → (at : ℕ) → Key → List ℕ
keyed words at k = set (set (set (set words at k.0) (at + 1) k.1) (at + 2) k.2) (at + 3) k.3

-- seat s with this publisher key, all else as it was
unfoldable pub with_publisher : Words → (s : ℕ) → Key → Words
with_publisher w s k (head h) = w (head h)
with_publisher w s k (seat q (publishers c)) = if eqb q s then word_of k c else w (seat q (publishers c))
with_publisher w s k (seat q (total_delegation d)) = w (seat q (total_delegation d))
with_publisher w s k (seat q (delta_delegation d)) = w (seat q (delta_delegation d))
with_publisher w s k (seat q (publisher_stake_accounts c)) = w (seat q (publisher_stake_accounts c))
with_publisher w s k (seat q num_slash_events) = w (seat q num_slash_events)
with_publisher w s k (seat q delegation_fees) = w (seat q delegation_fees)
with_publisher w s k (slot t x) = w (slot t x)
with_publisher w s k (share t q x) = w (share t q x)

-- the sides are told apart
abbrev pub same_side : Whose → Whose → Bool
same_side self self = Bool.true
same_side self other = Bool.false
same_side other self = Bool.false
same_side other other = Bool.true

-- seat s with this side, all else as it was
unfoldable pub with_side : Words → (s : ℕ) → Whose → DelegationState → Words
with_side w s d v (head h) = w (head h)
with_side w s d v (seat q (publishers c)) = w (seat q (publishers c))
with_side w s d v (seat q (total_delegation x)) = if eqb q s && same_side x d then v.total_delegation.0 else w (seat q (total_delegation x))
with_side w s d v (seat q (delta_delegation x)) = if eqb q s && same_side x d then v.delta_delegation else w (seat q (delta_delegation x))
with_side w s d v (seat q (publisher_stake_accounts c)) = w (seat q (publisher_stake_accounts c))
with_side w s d v (seat q num_slash_events) = w (seat q num_slash_events)
with_side w s d v (seat q delegation_fees) = w (seat q delegation_fees)
with_side w s d v (slot t x) = w (slot t x)
with_side w s d v (share t q x) = w (share t q x)

-- ---- a word of the pool as a whole changed

-- the three are told apart
abbrev pub same_head : Head → Head → Bool
same_head last_updated_epoch last_updated_epoch = Bool.true
same_head claimable_rewards claimable_rewards = Bool.true
same_head num_events num_events = Bool.true
same_head last_updated_epoch claimable_rewards = Bool.false
same_head last_updated_epoch num_events = Bool.false
same_head claimable_rewards last_updated_epoch = Bool.false
same_head claimable_rewards num_events = Bool.false
same_head num_events last_updated_epoch = Bool.false
same_head num_events claimable_rewards = Bool.false

-- the pool with this number as one of its three words, all else as it was
unfoldable pub with_head : Words → Head → (value : ℕ) → Words
with_head w h v (head x) = if same_head x h then v else w (head x)
with_head w h v (seat s x) = w (seat s x)
with_head w h v (slot t x) = w (slot t x)
with_head w h v (share t s x) = w (share t s x)

-- ---- a fresh pool

-- 'A fresh pool is zero but for last epoch, one below the given one' (item 9)
abbrev pub fresh_words : (given : ℕ) → Words
fresh_words given (head last_updated_epoch) = given - 1
fresh_words given (head claimable_rewards) = 0
fresh_words given (head num_events) = 0
fresh_words given (seat s x) = 0
fresh_words given (slot t x) = 0
fresh_words given (share t s x) = 0

-- every word is zero
pub record Cleared (old new : List ℕ) : Type 0 where
  pub long : length new ≡ length old
  pub zeros : (i : ℕ) → i < length old → get_or new i 0 ≡ 0

-- ---- all fees

-- every word from place `at` on is this one, and those in front of it are as they were
pub record FilledFrom (at word : ℕ) (old new : List ℕ) : Type 0 where
  pub long : length new ≡ length old
  pub kept : (i : ℕ) → i < at → get_or new i 0 ≡ get_or old i 0
  pub filled : (i : ℕ) → at ≤ i → i < length old → get_or new i 0 ≡ word
