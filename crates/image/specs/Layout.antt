-- The words of a pool image by name: where each word stands, and which word stands at a place.
-- Document 01, 'The image'; the names are those of the Rust's PoolData. Only this file gives the names their places. Assumes nothing.
use Rattle.std.specs.Prelude.{ℕ, ◌+◌, ◌*◌, ◌-◌, ◌/◌, ◌%◌, ◌<◌, cond, List, eqb, ltb, get_or}
use Rattle.types.specs.Base.{tabulate}

-- whose stake it is: the two sides of a seat are the publisher's own stake account and everybody else (document 01's self side and other side,
-- the Rust's self_del_state and del_state)
pub data Whose : Type 0 where
  self other : Whose

-- words of the pool as a whole
pub data Head : Type 0 where
  last_updated_epoch claimable_rewards num_events : Head

-- words of a seat (document 01's term: one of the P places for a publisher); a key has words 0 to 3
pub data Seat : Type 0 where
  publishers : ℕ → Seat
  total_delegation delta_delegation : Whose → Seat
  publisher_stake_accounts : ℕ → Seat
  num_slash_events delegation_fees : Seat

-- words of an event as a whole: the Rust's epoch, y and extra_space, words 0 to 6
pub data Slot : Type 0 where
  event_epoch event_y : Slot
  extra_space : ℕ → Slot

-- words of a seat in an event: self_reward_ratio and other_reward_ratio, delegation_fee
pub data Share : Type 0 where
  reward_ratio : Whose → Share
  event_fee : Share

-- a word's name: s is a seat, t a slot of the ring of events
pub data Field : Type 0 where
  head : Head → Field
  seat : (s : ℕ) → Seat → Field
  slot : (t : ℕ) → Slot → Field
  share : (t s : ℕ) → Share → Field

-- a pool's words by name
abbrev pub Words : Type 0
Words = Field → ℕ

-- the words of an event: epoch, y, 7 spare words, then three for each seat
abbrev pub event_size : ℕ → ℕ
event_size P = 9 + 3 * P

-- where the events begin, where slot t begins, and where the event count stands, behind the last slot
abbrev pub events_at : ℕ → ℕ
events_at P = 2 + 12 * P

abbrev pub event_at : ℕ → ℕ → ℕ
event_at P t = 2 + 12 * P + t * (9 + 3 * P)

abbrev pub num_events_at : ℕ → ℕ → ℕ
num_events_at P E = 2 + 12 * P + E * (9 + 3 * P)

-- words in all
abbrev pub size : ℕ → ℕ → ℕ
size P E = 3 + 14 * P + E * (9 + 3 * P)

-- the place of a word, in document 01's order
abbrev pub addr : ℕ → ℕ → Field → ℕ
addr P E (head last_updated_epoch) = 0
addr P E (head claimable_rewards) = 1
addr P E (seat s (publishers c)) = 2 + (s * 4 + c)
addr P E (seat s (total_delegation other)) = 2 + 4 * P + s * 2
addr P E (seat s (delta_delegation other)) = 2 + 4 * P + (s * 2 + 1)
addr P E (seat s (total_delegation self)) = 2 + 6 * P + s * 2
addr P E (seat s (delta_delegation self)) = 2 + 6 * P + (s * 2 + 1)
addr P E (seat s (publisher_stake_accounts c)) = 2 + 8 * P + (s * 4 + c)
addr P E (slot t event_epoch) = events_at P + (t * event_size P + 0)
addr P E (slot t event_y) = events_at P + (t * event_size P + 1)
addr P E (slot t (extra_space c)) = events_at P + (t * event_size P + (2 + c))
addr P E (share t s (reward_ratio self)) = events_at P + (t * event_size P + (9 + s * 3))
addr P E (share t s (reward_ratio other)) = events_at P + (t * event_size P + (9 + (s * 3 + 1)))
addr P E (share t s event_fee) = events_at P + (t * event_size P + (9 + (s * 3 + 2)))
addr P E (head num_events) = num_events_at P E
addr P E (seat s num_slash_events) = num_events_at P E + (1 + s)
addr P E (seat s delegation_fees) = num_events_at P E + (1 + P + s)

-- whether a pool of P seats and E events has the word
abbrev pub InSeat : Seat → Type 0
InSeat (publishers c) = c < 4
InSeat (total_delegation d) = Unit {0}
InSeat (delta_delegation d) = Unit {0}
InSeat (publisher_stake_accounts c) = c < 4
InSeat num_slash_events = Unit {0}
InSeat delegation_fees = Unit {0}

abbrev pub InSlot : Slot → Type 0
InSlot event_epoch = Unit {0}
InSlot event_y = Unit {0}
InSlot (extra_space c) = c < 7

abbrev pub InRange : ℕ → ℕ → Field → Type 0
InRange P E (head h) = Unit {0}
InRange P E (seat s x) = (s < P) × InSeat x
InRange P E (slot t x) = (t < E) × InSlot x
InRange P E (share t s x) = (t < E) × (s < P)

-- a choice by a test on numbers
unfoldable pub if_below : ℕ → ℕ → Field → Field → Field
if_below i b x y = cond (ltb i b) x y

unfoldable pub if_equal : ℕ → ℕ → Field → Field → Field
if_equal i b x y = cond (eqb i b) x y

-- the word that stands at place j of a side's words, at place o of an event, at place i of the image
unfoldable pub side_field : Whose → ℕ → Field
side_field d j = if_equal (j % 2) 0 (seat (j / 2) (total_delegation d)) (seat (j / 2) (delta_delegation d))

unfoldable pub event_field : ℕ → ℕ → Field
event_field t o = if_below o 1 (slot t event_epoch) (if_below o 2 (slot t event_y) (if_below o 9 (slot t (extra_space (o - 2)))
    (if_equal ((o - 9) % 3) 0 (share t ((o - 9) / 3) (reward_ratio self))
    (if_equal ((o - 9) % 3) 1 (share t ((o - 9) / 3) (reward_ratio other)) (share t ((o - 9) / 3) event_fee)))))

unfoldable pub field_of : ℕ → ℕ → ℕ → Field
field_of P E i =
    if_below i 1 (head last_updated_epoch) (
    if_below i 2 (head claimable_rewards) (
    if_below i (2 + 4 * P) (seat ((i - 2) / 4) (publishers ((i - 2) % 4))) (
    if_below i (2 + 6 * P) (side_field other (i - (2 + 4 * P))) (
    if_below i (2 + 8 * P) (side_field self (i - (2 + 6 * P))) (
    if_below i (2 + 12 * P) (seat ((i - (2 + 8 * P)) / 4) (publisher_stake_accounts ((i - (2 + 8 * P)) % 4))) (
    if_below i (num_events_at P E) (event_field ((i - events_at P) / event_size P) ((i - events_at P) % event_size P)) (
    if_below i (num_events_at P E + 1) (head num_events) (
    if_below i (num_events_at P E + 1 + P) (seat (i - (num_events_at P E + 1)) num_slash_events)
    (seat (i - (num_events_at P E + 1 + P)) delegation_fees)))))))))

-- the word with this name
unfoldable pub read : ℕ → ℕ → List ℕ → Words
read P E img f = get_or img (addr P E f) 0

-- the image that holds these words
unfoldable pub image : ℕ → ℕ → Words → List ℕ
image P E w = tabulate (size P E) (λ i. w (field_of P E i))
