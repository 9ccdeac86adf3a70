-- [9], 'reads counted to the last one', item 8's bounds, which follow, and what an answer's amounts are, for every E, image and list of positions.
-- Assumes nothing.
use mathlib.Core.Path.{◌≡◌, refl, sym, ◌∙◌}
use mathlib.Core.Bool.{Bool, true, false}
use mathlib.Core.List.{List}
use Prim.Native.Nat.{ℕ, ◌*◌, ◌/◌, ◌<◌, ◌≤◌}
use native.Mathlib.Nat.{le_trans}
use native.Mathlib.Omega.{arith}
use lib.Dec.{ltb}
use lib.ListN.{length, get_or}
use borrow.Author.Tests.{lt-ltb}
use Rattle.types.specs.Base.{word, sum_below, count_below}
use Rattle.types.proofs.Below.{sum_none, sum_skips, sum_le, count_none, count_le, count_skips}
use Rattle.positions.specs.declared.Key.{Key}
use Rattle.positions.specs.Positions.{in_publisher}
use Rattle.image.specs.Layout.{num_events, head, Words}
use Rattle.event_walk.specs.declared.EventAmounts.{EventAmounts}
use Rattle.event_walk.specs.Walk.{walk_meets, drawn_at, slot_amount, read_by, reads_of}
use Rattle.event_walk.proofs.WalkLaws.{length_le, length_count, reads_le, meets_read}
use Rattle.event_amounts.specs.Gathered.{Gathers}
use Rattle.event_amounts.proofs.GatherLaws.{drawn_none, read_none, read_all, reads_counted, slot_fits_law}

-- [9] 'With no matching position .. it is 0'
pub reads_no_match : (E : ℕ) (w : Words) (words : List ℕ) (publisher : Key) (from : ℕ)
    → ((i : ℕ) → i < length words / 9 → in_publisher words (i * 9) publisher ≡ false) → reads_of E w words publisher from ≡ 0
unfolding reads_of
reads_no_match E w words publisher from none =
    sum_skips _ 0 (length words / 9) (omega arith) (λ i _ l. read_none E w words publisher from i (none i l)) ∙ sym (sum_none _)

-- [9] 'or with n of 0, it is 0'
pub reads_no_event : (E : ℕ) (w : Words) (words : List ℕ) (publisher : Key) (from : ℕ) → w (head num_events) ≡ 0 → reads_of E w words publisher from ≡ 0
unfolding reads_of
reads_no_event E w words publisher from none =
    sum_skips _ 0 (length words / 9) (omega arith) (λ i _ _. each i (in_publisher words (i * 9) publisher) refl) ∙ sym (sum_none _)
  where
    each : (i : ℕ) (t : Bool) → in_publisher words (i * 9) publisher ≡ t → read_by E w words publisher from i ≡ 0
    each i true e = omega (arith, read_all E w words publisher from i e, reads_le E w from, length_count E w)
    each i false e = read_none E w words publisher from i e

module _ (E : ℕ) (w : Words) (words : List ℕ) (publisher : Key) (from : ℕ) where
  abbrev here : ℕ → Bool
  here i = in_publisher words (i * 9) publisher

  -- 'at most E for each matching position'
  pub reads_most : reads_of E w words publisher from ≤ count_below (length words / 9) (λ i. in_publisher words (i * 9) publisher) * E
  unfolding reads_of
  reads_most = reads_counted E w words publisher from (length words / 9) E (le_trans (reads_le E w from) (length_le E w))

  module _ (unlocking : ℕ) where
    -- how many events position i adds to
    abbrev adds_to : ℕ → ℕ
    adds_to i = count_below (walk_meets E w from) (λ k. ltb 0 (drawn_at E w words publisher unlocking k i))

    -- 'at least one for each event that a position added to'
    pub reads_least : sum_below (length words / 9) (λ i. count_below (walk_meets E w from) (λ k. ltb 0 (drawn_at E w words publisher unlocking k i)))
        ≤ reads_of E w words publisher from
    unfolding reads_of
    reads_least = sum_le adds_to _ (length words / 9) (λ i l. one i (here i) refl)
      where
        one : (i : ℕ) (t : Bool) → here i ≡ t → adds_to i ≤ read_by E w words publisher from i
        one i true e =
            let f : ℕ → Bool = λ k. ltb 0 (drawn_at E w words publisher unlocking k i) in
            omega (arith, count_le f (walk_meets E w from), meets_read E w from, read_all E w words publisher from i e)
        one i false e =
            let f : ℕ → Bool = λ k. ltb 0 (drawn_at E w words publisher unlocking k i) in
            omega (
              arith,
              count_skips f 0 (walk_meets E w from) (omega arith) (λ k a b. rw (drawn_none E w words publisher unlocking k i e)),
              count_none f,
            )

    -- the amounts of an answer are the sums over the positions, and each is a word
    pub slot_sum : (r : EventAmounts) → Gathers E w words publisher from unlocking r → (k : ℕ) → k < walk_meets E w from
        → (get_or r.amounts k 0 ≡ sum_below (length words / 9) (drawn_at E w words publisher unlocking k)) × (get_or r.amounts k 0 < word)
    unfolding slot_amount
    slot_sum r g k h =
        let q : get_or r.amounts k 0 ≡ sum_below (length words / 9) (drawn_at E w words publisher unlocking k)
        = rw (lt-ltb k (walk_meets E w from) h) at (g.amounts k) in
        (q, rw (g.amounts k) (slot_fits_law E w words publisher from unlocking k g.fits h))
