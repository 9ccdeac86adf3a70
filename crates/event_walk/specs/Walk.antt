-- Item 8 of document 01: the walk over the newest events, and what gathers in each ring slot, over the image's words by name. Assumes nothing.
use Rattle.std.specs.Prelude.{Bool, not, ◌&&◌, ◌||◌, List, ℕ, ◌-◌, ◌*◌, ◌/◌, ◌%◌, min, ltb, length, if◌then◌else◌}
use Rattle.types.specs.Base.{word, Outcome, map_outcome, is_accepted, or_zero, sum_below, all_below, count_below, first_below}
use Rattle.positions.specs.declared.Key.{Key}
use Rattle.positions.specs.declared.position.Position.{Position}
use Rattle.positions.specs.State.{state_of, adds}
use Rattle.positions.specs.Positions.{position_from, in_publisher}
use Rattle.image.specs.Layout.{num_events, event_epoch, head, slot, Words}

-- ---- the events that a walk (document 01's term) comes to

-- 'reads the newest events back, at most E', and no more than there are
unfoldable pub walk_length : (E : ℕ) → Words → ℕ
walk_length E w = min (w (head num_events)) E

-- the ring slot that it comes to after k others, that of event n - 1 - k, and the epoch there
unfoldable pub walk_slot : (E : ℕ) → Words → (k : ℕ) → ℕ
walk_slot E w k = (w (head num_events) - 1 - k) % E

unfoldable pub walk_epoch : (E : ℕ) → Words → (k : ℕ) → ℕ
walk_epoch E w k = w (slot (walk_slot E w k) event_epoch)

-- 'and stops after one older than the record's epoch': how many stand in front of that one
unfoldable pub walk_meets : (E : ℕ) → Words → (from : ℕ) → ℕ
walk_meets E w from = first_below (walk_length E w) (λ k. ltb (walk_epoch E w k) from)

-- [9] 'newest back, .. the one too old included': it reads the event behind k others where none of those is too old
unfoldable pub is_read : (E : ℕ) → Words → (from k : ℕ) → Bool
is_read E w from k = all_below k (λ j. not (ltb (walk_epoch E w j) from))

-- [9] 'exactly the events read: .. at most the smaller of E and n'
unfoldable pub walk_reads : (E : ℕ) → Words → (from : ℕ) → ℕ
walk_reads E w from = count_below (walk_length E w) (is_read E w from)

-- ---- one position

-- 'LOCKED and PREUNLOCKING add': what a position adds in an epoch; a state that is 13 is 13 here
unfoldable pub drawn_in : Position → (epoch unlocking : ℕ) → Outcome ℕ
drawn_in p epoch unlocking = map_outcome (λ s. if adds s then p.amount.0 else 0) (state_of p epoch unlocking)

-- its state fits in every event that its walk meets
unfoldable pub walk_fits : (E : ℕ) → Words → Position → (from unlocking : ℕ) → Bool
walk_fits E w p from unlocking = all_below (walk_meets E w from) (λ k. is_accepted (drawn_in p (walk_epoch E w k) unlocking))

-- ---- all positions of the account, nine words each

-- 'For each with this publisher': what position i adds to the ring slot that its walk meets after k others
unfoldable pub drawn_at : (E : ℕ) → Words → List ℕ → Key → (unlocking k i : ℕ) → ℕ
drawn_at E w words publisher unlocking k i =
    if in_publisher words (i * 9) publisher then or_zero (drawn_in (position_from words (i * 9)) (walk_epoch E w k) unlocking) else 0

-- 'Amounts gather per ring slot': in the slot that walks come to after k others, as a whole number; nothing in one that they don't meet
unfoldable pub slot_amount : (E : ℕ) → Words → List ℕ → Key → (from unlocking k : ℕ) → ℕ
slot_amount E w words publisher from unlocking k =
    if ltb k (walk_meets E w from) then sum_below (length words / 9) (drawn_at E w words publisher unlocking k) else 0

-- 13, where this is false: a state does not fit, or a slot's amount
unfoldable pub gather_fits : (E : ℕ) → Words → List ℕ → Key → (from unlocking : ℕ) → Bool
gather_fits E w words publisher from unlocking =
    all_below (length words / 9) (λ i. not (in_publisher words (i * 9) publisher) || walk_fits E w (position_from words (i * 9)) from unlocking)
    && all_below (walk_length E w) (λ k. ltb (slot_amount E w words publisher from unlocking k) word)

-- [9] 'for each matching position': how many events position i reads
unfoldable pub read_by : (E : ℕ) → Words → List ℕ → Key → (from i : ℕ) → ℕ
read_by E w words publisher from i = if in_publisher words (i * 9) publisher then walk_reads E w from else 0

-- [9] 'the read count of a payment .. shall be exactly the events read'
unfoldable pub reads_of : (E : ℕ) → Words → List ℕ → Key → (from : ℕ) → ℕ
reads_of E w words publisher from = sum_below (length words / 9) (read_by E w words publisher from)
