-- Laws of the amounts in the course of one position's walk, and of the room for it: one for each way on and each way out. Assumes nothing.
use mathlib.Core.Path.{◌≡◌, refl, sym, subst, ◌∙◌}
use mathlib.Core.Bool.{Bool, true, false}
use mathlib.Core.List.{List}
use Prim.Native.Nat.{ℕ, ◌+◌, ◌<◌, ◌≤◌}
use native.Mathlib.Decide.{ℕ_discrete}
use native.Mathlib.Nat.{add-zero}
use native.Mathlib.Omega.{arith}
use lib.Dec.{ltb}
use lib.ListN.{length, get_or, set, length-set}
use lib.Seq.{get_or-set_same, get_or-set_other}
use borrow.Author.Tests.{lt-ltb, le-ltb, ltb-true, ltb-false}
use Rattle.std.specs.Prelude.{if◌then◌else◌}
use Rattle.types.specs.Base.{word, all_below}
use Rattle.types.proofs.Below.{all_none, all_more, all_each, all_at, all_not}
use Rattle.event_walk.specs.declared.span.Span.{Span}
use Rattle.event_walk.specs.Span.{units_in}
use Rattle.event_walk.specs.Walked.{AddedOf, sums_fit}
use Rattle.event_walk.proofs.SpanLaws.{units_most}

module _ (epochs : List ℕ) (s : Span) where
  -- what is added at k, and whether the sum is a word
  abbrev units : ℕ → ℕ
  units k = units_in s (get_or epochs k 0)

  abbrev pub fits_at : List ℕ → ℕ → Bool
  fits_at start k = ltb (get_or start k 0 + units k) word

one_more : (j k : ℕ) → (j ≡ k → ⊥) → ltb j (k + 1) ≡ ltb j k
one_more j k n = go (ltb j k) refl
  where
    go : (t : Bool) → ltb j k ≡ t → ltb j (k + 1) ≡ t
    go true e = lt-ltb j (k + 1) (omega (arith, ltb-true j k e))
    go false e = le-ltb j (k + 1) (omega (arith, ltb-false j k e))

-- the walk has come to event k: the sums in front of it are held, and from there on all is as it was
pub record AddedTo (epochs : List ℕ) (s : Span) (start now : List ℕ) (k : ℕ) : Type 0 where
  pub long : length now ≡ 52
  pub holds : (j : ℕ) → get_or now j 0 ≡ get_or start j 0 + (if ltb j k then units epochs s j else 0)

module _ (epochs : List ℕ) (s : Span) (start : List ℕ) where
  pub added_none : length start ≡ 52 → AddedTo epochs s start start 0
  added_none h = record { long = h; holds = λ j. rw (le-ltb j 0 (omega arith)) (omega arith) }

  module _ (now : List ℕ) (k u : ℕ) (added : AddedTo epochs s start now k) (is : u ≡ units epochs s k) where
    -- the event that the walk has come to is as it was
    as_was : get_or now k 0 + u ≡ get_or start k 0 + units epochs s k
    as_was = rw (added.holds k, le-ltb k k (omega arith), add-zero (get_or start k 0), is)

    pub added_more : (sum : ℕ) → k < 52 → sum ≡ get_or now k 0 + u → AddedTo epochs s start (set now k sum) (k + 1)
    added_more sum l q = record { long = length-set now k sum ∙ added.long; holds = λ j. go j (ℕ_discrete j k) }
      where
        Holds : ℕ → Type 0
        Holds j = get_or (set now k sum) j 0 ≡ get_or start j 0 + (if ltb j (k + 1) then units epochs s j else 0)

        here : Holds k
        here = rw (get_or-set_same now k sum 0 (omega (arith, added.long)), lt-ltb k (k + 1) (omega arith)) (q ∙ as_was)

        go : (j : ℕ) → Dec (j ≡ k) → Holds j
        go j (yes e) = subst Holds (sym e) here
        go j (no n) = rw (get_or-set_other now k j sum 0 n, one_more j k n) (added.holds j)

    -- every sum fits
    pub sum_fits : sums_fit epochs s start ≡ true → k < length epochs → get_or now k 0 + u < word
    sum_fits room l = omega (arith, as_was, ltb-true _ _ (all_at (fits_at epochs s start) (length epochs) k l room))

  -- a walk adds no more than the amount
  pub added_most : (r : List ℕ) → AddedOf epochs s start r → (k : ℕ) → get_or r k 0 ≤ get_or start k 0 + s.amount
  added_most r added k = omega (arith, added k, go (ltb k (length epochs)))
    where
      go : (t : Bool) → (if t then units epochs s k else 0) ≤ s.amount
      go true = units_most s (get_or epochs k 0)
      go false = omega arith

  -- ---- whether there is room

  -- where the amount can be added to each, every sum fits
  pub room_for_all : ((k : ℕ) → get_or start k 0 + s.amount < word) → sums_fit epochs s start ≡ true
  room_for_all room = all_each (fits_at epochs s start) (length epochs) (λ k l. lt-ltb _ _ (omega (arith, room k, units_most s (get_or epochs k 0))))

  pub room_none : all_below 0 (fits_at epochs s start) ≡ true
  room_none = all_none (fits_at epochs s start)

  module _ (k u : ℕ) (is : u ≡ units epochs s k) where
    pub room_more : all_below k (fits_at epochs s start) ≡ true → get_or start k 0 + u < word → all_below (k + 1) (fits_at epochs s start) ≡ true
    room_more before l = all_more (fits_at epochs s start) k before (lt-ltb _ _ (omega arith))

    -- a sum that is no word
    pub room_over : k < length epochs → word ≤ get_or start k 0 + u → false ≡ sums_fit epochs s start
    room_over l f = sym (all_not (fits_at epochs s start) (length epochs) k l (le-ltb _ _ (omega arith)))

  pub room_all : (k : ℕ) → all_below k (fits_at epochs s start) ≡ true → k ≡ length epochs → true ≡ sums_fit epochs s start
  room_all k all e = sym (rw e at all)

-- the ways on and out
pub ruleset sums = (added_none, added_more, sum_fits)

pub ruleset rooms = (room_none, room_more, room_over, room_all)
