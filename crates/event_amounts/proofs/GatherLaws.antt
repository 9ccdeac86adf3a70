-- Laws of what the walks gather: what the loop over the positions keeps, and one law for each way on and each way out. Assumes nothing.
use mathlib.Core.Path.{◌≡◌, refl, sym, ◌∙◌}
use mathlib.Core.Logic.{◌⊎◌, inl, inr}
use mathlib.Core.Bool.{Bool, true, false, not, ◌||◌}
use mathlib.Core.List.{List}
use Prim.Native.Nat.{ℕ, zero, suc, ◌+◌, ◌*◌, ◌/◌, ◌<◌, ◌≤◌}
use native.Mathlib.Nat.{add-zero, mul-le-mul}
use native.Mathlib.Omega.{arith}
use lib.Dec.{ltb}
use lib.ListN.{length, get_or, replicate}
use borrow.Author.Tests.{lt-ltb, le-ltb, ltb-true}
use Rattle.std.specs.Prelude.{if◌then◌else◌, Some, None}
use Rattle.types.specs.Base.{word, sum_below, all_below, count_below, to_nat}
use Rattle.types.proofs.Below.{and_left, and_both, sum_none, sum_more, sum_grows, sum_counted, all_none, all_more}
use Rattle.types.proofs.Below.{all_each, all_not, all_at, count_le}
use Rattle.positions.specs.declared.Key.{Key}
use Rattle.positions.specs.declared.position.Position.{Position}
use Rattle.positions.specs.Positions.{position_from, in_publisher}
use Rattle.image.specs.Layout.{Words}
use Rattle.types.proofs.Below.{lt_or_le}
use Rattle.event_walk.specs.declared.EventAmounts.{EventAmounts}
use Rattle.event_walk.specs.declared.newest.Newest.{Newest}
use Rattle.event_walk.specs.declared.span.Span.{Span}
use Rattle.event_walk.specs.Walk.{walk_length, walk_meets, walk_reads, walk_fits, drawn_at, slot_amount, gather_fits, read_by, reads_of}
use Rattle.event_walk.specs.Span.{units_in, SpanOf}
use Rattle.event_walk.specs.Walked.{epochs_of, NewestOf, no_amounts, Walked, sums_fit}
use Rattle.event_walk.proofs.NewestLaws.{zeros_at}
use Rattle.event_walk.proofs.WalkLaws.{meets_le}
use Rattle.event_walk.proofs.SpanLaws.{walk_fits_law, walk_unfit, walk_draws}
use Rattle.event_amounts.specs.Records.{record_in}
use Rattle.event_amounts.specs.Gathered.{Gathers}
use Rattle.event_amounts.proofs.RecordLaws.{record_in_words}

-- a position with the publisher reads what its walk reads, another one nothing
module _ (E : ℕ) (w : Words) (words : List ℕ) (publisher : Key) (from : ℕ) where
  pub read_none : (i : ℕ) → in_publisher words (i * 9) publisher ≡ false → read_by E w words publisher from i ≡ 0
  unfolding read_by
  read_none i e = rw e

  pub read_all : (i : ℕ) → in_publisher words (i * 9) publisher ≡ true → read_by E w words publisher from i ≡ walk_reads E w from
  unfolding read_by
  read_all i e = rw e

  -- the first i of them at most `most` events for each with the publisher
  pub reads_counted : (i most : ℕ) → walk_reads E w from ≤ most
      → sum_below i (read_by E w words publisher from) ≤ count_below i (λ i. in_publisher words (i * 9) publisher) * most
  reads_counted i most l =
      sum_counted _ (λ i. in_publisher words (i * 9) publisher) most i (λ i. one i (in_publisher words (i * 9) publisher) refl)
    where
      one : (i : ℕ) (t : Bool) → in_publisher words (i * 9) publisher ≡ t → read_by E w words publisher from i ≤ to_nat t * most
      one i true e = omega (arith, read_all i e)
      one i false e = omega (arith, read_none i e)

-- a position that is not with the publisher adds nothing
pub drawn_none : (E : ℕ) (w : Words) (words : List ℕ) (publisher : Key) (unlocking k i : ℕ) → in_publisher words (i * 9) publisher ≡ false
    → drawn_at E w words publisher unlocking k i ≡ 0
unfolding drawn_at
drawn_none E w words publisher unlocking k i e = rw e

module _ (E : ℕ) (w : Words) (words : List ℕ) (publisher : Key) (from unlocking : ℕ) where
  -- position i is with the publisher
  abbrev here : ℕ → Bool
  here i = in_publisher words (i * 9) publisher

  -- its walk, if it has one, meets no state that does not fit
  abbrev fits_at : ℕ → Bool
  fits_at i = not (in_publisher words (i * 9) publisher) || walk_fits E w (position_from words (i * 9)) from unlocking

  -- a slot's amount is a word
  abbrev slot_fits : ℕ → Bool
  slot_fits k = ltb (slot_amount E w words publisher from unlocking k) word

  -- what the first i positions add to the event that walks come to after k others
  abbrev so_far : (i k : ℕ) → ℕ
  so_far i k = if ltb k (walk_meets E w from) then sum_below i (drawn_at E w words publisher unlocking k) else 0

  -- the walks of the positions in front of i are done, and all has fitted
  pub record Gathering (i : ℕ) (g : EventAmounts) : Type 0 where
    pub amounts : (k : ℕ) → get_or g.amounts k 0 ≡ so_far i k
    pub small : (k : ℕ) → get_or g.amounts k 0 < word
    pub reads : g.reads ≡ sum_below i (read_by E w words publisher from)
    pub fitting : all_below i fits_at ≡ true

  -- ---- the start

  pub gather_start : Gathering 0 no_amounts
  gather_start = record {
    amounts = λ k. zeros_at 52 k ∙ none k (ltb k (walk_meets E w from));
    small = λ k. omega (arith, zeros_at 52 k);
    reads = sum_none (read_by E w words publisher from);
    fitting = all_none fits_at;
  }
    where
      none : (k : ℕ) (t : Bool) → 0 ≡ (if t then sum_below 0 (drawn_at E w words publisher unlocking k) else 0)
      none k true = sum_none (drawn_at E w words publisher unlocking k)
      none k false = refl

  -- the count is small, so that one walk's reads can be added
  pub reads_fit : (n : Newest) → NewestOf E w from n → (i : ℕ) (g : EventAmounts) → Gathering i g → i ≤ 256 → g.reads + n.reads < word
  reads_fit n newest i g s l =
      let a : count_below i here ≤ 256 = omega (arith, count_le here i) in
      let b : walk_reads E w from ≤ 52 = omega (arith, newest.reads, newest.short) in
      let h : count_below i here * walk_reads E w from ≤ 256 * 52 = mul-le-mul a b in
      omega (arith, s.reads, newest.short, reads_counted E w words publisher from i (walk_reads E w from) (omega arith))

  -- ---- where something does not fit

  unfit_position : (i : ℕ) → i < length words / 9 → fits_at i ≡ false → gather_fits E w words publisher from unlocking ≡ false
  unfolding gather_fits
  unfit_position i l e =
      and_left (all_below (length words / 9) fits_at) (all_below (walk_length E w) slot_fits) (all_not fits_at (length words / 9) i l e)

  pub slot_fits_law : (k : ℕ) → gather_fits E w words publisher from unlocking ≡ true → k < walk_meets E w from
      → slot_amount E w words publisher from unlocking k < word
  unfolding gather_fits
  slot_fits_law k e l =
      let b = and_both (all_below (length words / 9) fits_at) (all_below (walk_length E w) slot_fits) e in
      ltb-true _ _ (all_at slot_fits (walk_length E w) k (omega (arith, meets_le E w from)) b.1)

  -- ---- position i

  module _ (i : ℕ) (g : EventAmounts) (s : Gathering i g) (p : Position) (is : p ≡ position_from words (i * 9)) where
    here_is : (t : Bool) → record_in p publisher ≡ t → here i ≡ t
    here_is t e = sym (record_in_words p words (i * 9) is publisher) ∙ e

    -- it is not with the publisher
    pub gather_other : record_in p publisher ≡ false → Gathering (i + 1) g
    gather_other e = record {
      amounts = λ k. s.amounts k ∙ same k (ltb k (walk_meets E w from));
      small = s.small;
      reads = rw (s.reads, sum_more (read_by E w words publisher from) i, read_none E w words publisher from i (here_is false e), add-zero);
      fitting = all_more fits_at i s.fitting (rw (here_is false e));
    }
      where
        same : (k : ℕ) (t : Bool) → (if t then sum_below i (drawn_at E w words publisher unlocking k) else 0)
            ≡ (if t then sum_below (i + 1) (drawn_at E w words publisher unlocking k) else 0)
        same k true =
            rw (sum_more (drawn_at E w words publisher unlocking k) i, drawn_none E w words publisher unlocking k i (here_is false e), add-zero)
        same k false = refl

    -- it is
    module _ (n : Newest) (newest : NewestOf E w from n) (l : i < length words / 9) (matches : record_in p publisher ≡ true) where
      -- its state does not fit
      pub gather_unfit : SpanOf (epochs_of n) p unlocking None → gather_fits E w words publisher from unlocking ≡ false
      gather_unfit known = unfit_position i l (rw (here_is true matches, ← is) (walk_unfit E w from n newest p unlocking known))

      module _ (span : Span) (known : SpanOf (epochs_of n) p unlocking (Some span)) where
        abbrev units : ℕ → ℕ
        units k = units_in span (get_or (epochs_of n) k 0)

        added : (k : ℕ) → k < length (epochs_of n) → get_or g.amounts k 0 + units k ≡ sum_below (i + 1) (drawn_at E w words publisher unlocking k)
        unfolding drawn_at
        added k h =
            let m : k < walk_meets E w from = rw newest.meets at h in
            rw (
              sum_more (drawn_at E w words publisher unlocking k) i,
              s.amounts k,
              lt-ltb k (walk_meets E w from) m,
              here_is true matches,
              ← is,
              walk_draws E w from n newest p unlocking span known k m,
            )

        -- it has walked
        pub gather_walked : (r : EventAmounts) → Walked n span g r → Gathering (i + 1) r
        gather_walked r walked = record {
          amounts = λ k. walked.amounts k ∙ amount k (lt_or_le k (length (epochs_of n)));
          small = λ k. little k (lt_or_le k (length (epochs_of n)));
          reads = rw (
            walked.reads,
            s.reads,
            newest.reads,
            sum_more (read_by E w words publisher from) i,
            read_all E w words publisher from i (here_is true matches),
          );
          fitting = all_more fits_at i s.fitting (rw (here_is true matches, ← is) (walk_fits_law E w from n newest p unlocking span known));
        }
          where
            amount : (k : ℕ) → (k < length (epochs_of n)) ⊎ (length (epochs_of n) ≤ k)
                → get_or g.amounts k 0 + (if ltb k (length (epochs_of n)) then units k else 0) ≡ so_far (i + 1) k
            amount k (inl h) = rw (← newest.meets, lt-ltb k (length (epochs_of n)) h) (added k h)
            amount k (inr h) = rw (s.amounts k, ← newest.meets, le-ltb k (length (epochs_of n)) h)

            little : (k : ℕ) → (k < length (epochs_of n)) ⊎ (length (epochs_of n) ≤ k) → get_or r.amounts k 0 < word
            little k (inl h) =
                let f : get_or g.amounts k 0 + units k < word
                = ltb-true _ _ (all_at (λ j. ltb (get_or g.amounts j 0 + units j) word) (length (epochs_of n)) k h walked.fits) in
                omega (arith, rw (lt-ltb k (length (epochs_of n)) h) at (walked.amounts k))
            little k (inr h) = omega (arith, rw (le-ltb k (length (epochs_of n)) h) at (walked.amounts k), s.small k)

        -- an amount is past 64 bits: then the whole sum is, since sums only grow
        pub gather_past : sums_fit (epochs_of n) span g.amounts ≡ false → gather_fits E w words publisher from unlocking ≡ false
        unfolding slot_amount
        gather_past e = go (gather_fits E w words publisher from unlocking) refl
          where
            below : (k : ℕ) → k < length (epochs_of n) → gather_fits E w words publisher from unlocking ≡ true → get_or g.amounts k 0 + units k < word
            below k h q =
                let m : k < walk_meets E w from = rw newest.meets at h in
                let f : sum_below (length words / 9) (drawn_at E w words publisher unlocking k) < word
                = rw (lt-ltb k (walk_meets E w from) m) at (slot_fits_law k q m) in
                omega (arith, added k h, sum_grows (drawn_at E w words publisher unlocking k) (i + 1) (length words / 9) (omega arith))

            go : (t : Bool) → gather_fits E w words publisher from unlocking ≡ t → t ≡ false
            go false q = refl
            go true q = sym (all_each _ (length (epochs_of n)) (λ k h. lt-ltb _ _ (below k h q))) ∙ e

  -- ---- the end

  pub gather_end : (i : ℕ) (g : EventAmounts) → Gathering i g → i ≡ length words / 9 → Gathers E w words publisher from unlocking g
  unfolding gather_fits slot_amount reads_of
  gather_end i g s q = record {
    fits = rw (rw q at s.fitting, small) refl;
    amounts = λ k. rw q at (s.amounts k);
    reads = rw q at s.reads;
  }
    where
      small : all_below (walk_length E w) (λ k. ltb (so_far (length words / 9) k) word) ≡ true
      small = all_each _ (walk_length E w) (λ k h. lt-ltb _ _ (rw (s.amounts k, q) at (s.small k)))
