-- The newest events as they are read: the start, an event more, and one law for each way out of the code. Assumes nothing.
use mathlib.Core.Path.{◌≡◌, refl, sym, ap, ◌∙◌}
use mathlib.Core.List.{List, [], ◌∷◌, ◌++◌}
use Prim.Native.Nat.{ℕ, zero, suc, min, ◌+◌, ◌≤◌, ◌<◌}
use native.Mathlib.Decide.{ℕ_discrete}
use native.Mathlib.Omega.{arith}
use lib.Dec.{ltb}
use lib.ListN.{length, get_or, set, take, replicate}
use borrow.Author.Tests.{le-ltb}
use Rattle.std.proofs.lemmas.List.{get_or_push, get_or_append_left, get_or-set_other, length-append, take_min}
use Rattle.types.specs.Base.{word}
use Rattle.types.proofs.Below.{NoneBelow, none_start, none_more}
use Rattle.image.specs.Layout.{Words}
use Rattle.event_walk.specs.declared.EventAmounts.{EventAmounts}
use Rattle.event_walk.specs.declared.newest.Newest.{Newest}
use Rattle.event_walk.specs.declared.span.Span.{Span}
use Rattle.event_walk.specs.Walk.{walk_length, walk_epoch, walk_meets, walk_reads}
use Rattle.event_walk.specs.Walked.{epochs_of, NewestOf, Walked}
use Rattle.event_walk.proofs.WalkLaws.{length_le, meets_at, meets_all, reads_at, reads_all, reads_le}

-- of a list of 52 no more are taken
pub taken : (epochs : List ℕ) (n : ℕ) → length epochs ≡ 52 → take (min n 52) epochs ≡ take n epochs
taken epochs n long = sym (ap (λ (m : ℕ). take (min n m) epochs) long) ∙ take_min n epochs

-- from place k on nothing is written yet
abbrev pub ZerosFrom : List ℕ → (k : ℕ) → Type 0
ZerosFrom epochs k = (j : ℕ) → k ≤ j → get_or epochs j 0 ≡ 0

pub zeros_at : (n k : ℕ) → ◌≡◌ {A = ℕ} (get_or (replicate n 0) k 0) 0
zeros_at zero k = refl
zeros_at (suc n) zero = refl
zeros_at (suc n) (suc k) = zeros_at n k

pub zeros_more : (epochs : List ℕ) (k epoch : ℕ) → ZerosFrom epochs k → ZerosFrom (set epochs k epoch) (k + 1)
zeros_more epochs k epoch z j l = get_or-set_other epochs k j epoch 0 (λ e. omega (arith, e)) ∙ z j (omega arith)

module _ (E : ℕ) (w : Words) (from : ℕ) where
  -- the first k events are not too old, and these are their epochs
  pub record EpochsTo (epochs : List ℕ) (k : ℕ) : Type 0 where
    pub many : length epochs ≡ k
    pub young : NoneBelow (λ j. ltb (walk_epoch E w j) from) k
    pub held : (j : ℕ) → j < k → get_or epochs j 0 ≡ walk_epoch E w j
    pub words : (j : ℕ) → j < k → get_or epochs j 0 < word

  pub epochs_none : (epochs : List ℕ) → EpochsTo (take 0 epochs) 0
  epochs_none epochs = record { many = refl; young = none_start _; held = λ j l. absurd (omega arith); words = λ j l. absurd (omega arith) }

  pub epochs_more : (epochs more : List ℕ) (k epoch : ℕ) → EpochsTo epochs k → more ≡ epochs ++ (epoch ∷ []) → epoch ≡ walk_epoch E w k → from ≤ epoch
      → epoch < word → EpochsTo more (k + 1)
  epochs_more epochs more k epoch r e q y b =
      rw e (record {
        many = omega (arith, r.many, length-append epochs (epoch ∷ []));
        young = none_more _ k r.young (le-ltb (walk_epoch E w k) from (omega arith));
        held = λ j l. go_held j l (ℕ_discrete j k);
        words = λ j l. go_words j l (ℕ_discrete j k);
      })
    where
      go_held : (j : ℕ) → j < k + 1 → Dec (j ≡ k) → get_or (epochs ++ (epoch ∷ [])) j 0 ≡ walk_epoch E w j
      go_held j l (yes e) = rw e (get_or_push epochs epoch 0 k r.many ∙ q)
      go_held j l (no n) = get_or_append_left epochs (epoch ∷ []) 0 j (omega (arith, r.many)) ∙ r.held j (omega arith)

      go_words : (j : ℕ) → j < k + 1 → Dec (j ≡ k) → get_or (epochs ++ (epoch ∷ [])) j 0 < word
      go_words j l (yes e) = rw (e, get_or_push epochs epoch 0 k r.many) b
      go_words j l (no n) = rw (get_or_append_left epochs (epoch ∷ []) 0 j (omega (arith, r.many))) (r.words j (omega arith))

  -- those k are all that are met
  newest_is : (r : Newest) (k : ℕ) → E ≤ 52 → EpochsTo (epochs_of r) k → ZerosFrom r.epochs k → k ≤ walk_length E w → k ≡ walk_meets E w from
      → r.reads ≡ walk_reads E w from → NewestOf E w from r
  newest_is r k few t z l m reads =
      let b = length_le E w in
      record {
        meets = t.many ∙ m;
        reads = reads;
        few = omega (arith, t.many);
        short = omega (arith, reads_le E w from);
        epochs = λ j h. t.held j (omega (arith, t.many));
        words = λ j h. t.words j (omega (arith, t.many));
        behind = λ j h. z j (omega (arith, t.many));
      }

  -- the event behind them is too old, and is read
  pub newest_old : (r : Newest) (k epoch : ℕ) → E ≤ 52 → EpochsTo (epochs_of r) k → ZerosFrom r.epochs k → r.reads ≡ k + 1 → k < walk_length E w
      → epoch ≡ walk_epoch E w k → epoch < from → NewestOf E w from r
  newest_old r k epoch few t z is l q o =
      let m = meets_at E w from k l t.young (omega arith) in newest_is r k few t z (omega arith) m (is ∙ reads_at E w from k l m)

  -- there is none behind them
  pub newest_all : (r : Newest) (k : ℕ) → E ≤ 52 → EpochsTo (take k r.epochs) k → ZerosFrom r.epochs k → r.meets ≡ k → r.reads ≡ k
      → k ≡ walk_length E w → NewestOf E w from r
  newest_all r k few t z many is l =
      let m = meets_all E w from k l t.young in newest_is r k few (rw many t) z (omega arith) m (is ∙ reads_all E w from k l m)

  -- [9] a walk adds to the count the events that its definition visits
  pub walk_counts : (n : Newest) → NewestOf E w from n → (s : Span) (start r : EventAmounts) → Walked n s start r → r.reads ≡ start.reads + walk_reads E w from
  walk_counts n newest s start r walked = rw (← newest.reads) walked.reads
