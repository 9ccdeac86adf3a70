-- The events that a walk comes to: how many, in which ring slots, and which are not too old; one law for each way out of the code. Assumes nothing.
use mathlib.Core.Path.{◌≡◌, sym, ap, ◌∙◌}
use mathlib.Core.Logic.{◌⊎◌, inl, inr}
use mathlib.Core.Bool.{true, false, not}
use Prim.Native.Nat.{ℕ, suc, ◌+◌, ◌-◌, ◌%◌, ◌≤◌, ◌<◌, min}
use native.Mathlib.Nat.{mod-lt, mod_self, mod-eq_of_lt, suc-mod, sub-zero, min-le_left, min-le_right, min-eq_left, min-eq_right, le-min}
use native.Mathlib.Decide.{ℕ_discrete}
use native.Mathlib.Omega.{arith}
use lib.Dec.{ltb}
use borrow.Author.Tests.{eq-eqb, ne_eqb, lt-ltb}
use Rattle.types.specs.Base.{count_below}
use Rattle.types.proofs.Below.{all_each, all_not, count_le, count_each, count_skips, NoneBelow, first_at, first_none, first_le, first_before_law, first_found}
use Rattle.types.proofs.Below.{lt_or_le}
use Rattle.image.specs.Layout.{num_events, event_epoch, head, slot, Words}
use Rattle.event_walk.specs.Walk.{walk_length, walk_slot, walk_epoch, walk_meets, is_read, walk_reads}
use Rattle.event_walk.specs.Walked.{slot_before}

-- ---- the slot in front

module _ (e t : ℕ) where
  pub before_first : t ≡ 0 → e - 1 ≡ slot_before e t
  unfolding slot_before
  before_first h = rw (eq-eqb t 0 h)

  pub before_other : (t ≡ 0 → ⊥) → t - 1 ≡ slot_before e t
  unfolding slot_before
  before_other h = rw (ne_eqb t 0 h)

  pub before_lt : (b : ℕ) → t < e → b ≡ slot_before e t → b < e
  before_lt b l q = go (ℕ_discrete t 0)
    where
      go : Dec (t ≡ 0) → b < e
      go (yes h) = omega (arith, before_first h)
      go (no h) = omega (arith, before_other h)

-- in front of the slot of event m + 1 comes that of event m
before_mod : (e m : ℕ) → 0 < e → slot_before e (suc m % e) ≡ m % e
before_mod e m h = go (ℕ_discrete (suc (m % e)) e)
  where
    go : Dec (suc (m % e) ≡ e) → slot_before e (suc m % e) ≡ m % e
    go (yes q) =
        let z : suc m % e ≡ 0 = suc-mod m e ∙ ap (λ (i : ℕ). i % e) q ∙ mod_self e in
        sym (before_first e (suc m % e) z) ∙ omega arith
    go (no q) =
        let b : m % e < e = mod-lt m h in
        let l : suc (m % e) < e = omega arith in
        let z : suc m % e ≡ suc (m % e) = suc-mod m e ∙ mod-eq_of_lt l in
        sym (before_other e (suc m % e) (λ n. omega arith)) ∙ omega arith

-- the slot from which one step back leads to the slot that a walk comes to after k others
unfoldable pub slot_from : (E : ℕ) → Words → (k : ℕ) → ℕ
slot_from E w k = (w (head num_events) - k) % E

module _ (E : ℕ) (w : Words) where
  -- ---- how many events a walk comes to

  pub length_le : walk_length E w ≤ E
  unfolding walk_length
  length_le = min-le_right (w (head num_events)) E

  pub length_count : walk_length E w ≤ w (head num_events)
  unfolding walk_length
  length_count = min-le_left (w (head num_events)) E

  -- ---- the slots, by stepping back

  pub slot_start : w (head num_events) % E ≡ slot_from E w 0
  unfolding slot_from
  slot_start = ap (λ (n : ℕ). n % E) (sym (sub-zero _))

  pub slot_back : (k t before : ℕ) → 0 < E → k < walk_length E w → t ≡ slot_from E w k → before ≡ slot_before E t → before ≡ walk_slot E w k
  unfolding walk_slot slot_from
  slot_back k t before h l q r =
      let c = length_count in
      let s : w (head num_events) - k ≡ suc (w (head num_events) - 1 - k) = omega arith in
      r ∙ ap (slot_before E) (q ∙ ap (λ (i : ℕ). i % E) s) ∙ before_mod E (w (head num_events) - 1 - k) h

  pub slot_kept : (k t : ℕ) → t ≡ walk_slot E w k → t ≡ slot_from E w (k + 1)
  unfolding walk_slot slot_from
  slot_kept k t q = let s : w (head num_events) - 1 - k ≡ w (head num_events) - (k + 1) = omega arith in q ∙ ap (λ (i : ℕ). i % E) s

  -- ---- the epochs, and how many are not too old

  pub epoch_at : (k t epoch : ℕ) → t ≡ walk_slot E w k → epoch ≡ w (slot t event_epoch) → epoch ≡ walk_epoch E w k
  unfolding walk_epoch
  epoch_at k t epoch q r = r ∙ ap (λ (i : ℕ). w (slot i event_epoch)) q

  module _ (from : ℕ) where
    pub meets_at : (k : ℕ) → k < walk_length E w → NoneBelow (λ j. ltb (walk_epoch E w j) from) k → walk_epoch E w k < from → k ≡ walk_meets E w from
    unfolding walk_meets
    meets_at k l h t = first_at (walk_length E w) k (λ j. ltb (walk_epoch E w j) from) l h (lt-ltb _ _ t)

    pub meets_all : (k : ℕ) → k ≡ walk_length E w → NoneBelow (λ j. ltb (walk_epoch E w j) from) k → k ≡ walk_meets E w from
    unfolding walk_meets
    meets_all k q h = q ∙ first_none (walk_length E w) (λ j. ltb (walk_epoch E w j) from) (record { none = λ j l. h.none j (omega arith) })

    pub meets_le : walk_meets E w from ≤ walk_length E w
    unfolding walk_meets
    meets_le = first_le (walk_length E w) (λ j. ltb (walk_epoch E w j) from)

    -- ---- how many are read

    is_met : (k : ℕ) → k ≤ walk_meets E w from → is_read E w from k ≡ true
    unfolding is_read walk_meets
    is_met k l = all_each _ k (λ j h. ap not (first_before_law (walk_length E w) j (λ i. ltb (walk_epoch E w i) from) (omega arith)))

    is_behind : (k : ℕ) → walk_meets E w from < walk_length E w → walk_meets E w from < k → is_read E w from k ≡ false
    unfolding is_read walk_meets
    is_behind k l h = all_not _ k (walk_meets E w from) h (ap not (first_found (walk_length E w) (λ i. ltb (walk_epoch E w i) from) l))

    -- those that are met, and the one too old where there is one
    pub reads_closed : walk_reads E w from ≡ min (suc (walk_meets E w from)) (walk_length E w)
    unfolding walk_reads
    reads_closed = go (lt_or_le (walk_meets E w from) (walk_length E w))
      where
        go : (walk_meets E w from < walk_length E w) ⊎ (walk_length E w ≤ walk_meets E w from)
            → count_below (walk_length E w) (is_read E w from) ≡ min (suc (walk_meets E w from)) (walk_length E w)
        go (inl h) =
            let b : suc (walk_meets E w from) ≤ walk_length E w = omega arith in
            rw (min-eq_left b)
            (count_skips (is_read E w from) (suc (walk_meets E w from)) (walk_length E w) b (λ k l m. is_behind k h (omega arith))
            ∙ count_each (is_read E w from) (suc (walk_meets E w from)) (λ k l. is_met k (omega arith)))
        go (inr h) =
            let b : walk_length E w ≤ suc (walk_meets E w from) = omega arith in
            rw (min-eq_right b) (count_each (is_read E w from) (walk_length E w) (λ k l. is_met k (omega arith)))

    pub reads_at : (k : ℕ) → k < walk_length E w → k ≡ walk_meets E w from → k + 1 ≡ walk_reads E w from
    reads_at k l q = let b : suc (walk_meets E w from) ≤ walk_length E w = omega arith in rw (reads_closed, min-eq_left b) (omega arith)

    pub reads_all : (k : ℕ) → k ≡ walk_length E w → k ≡ walk_meets E w from → k ≡ walk_reads E w from
    reads_all k l q = let b : walk_length E w ≤ suc (walk_meets E w from) = omega arith in rw (reads_closed, min-eq_right b) l

    -- [9] 'at most the smaller of E and n'
    pub reads_le : walk_reads E w from ≤ walk_length E w
    unfolding walk_reads
    reads_le = count_le (is_read E w from) (walk_length E w)

    -- those that are met among them
    pub meets_read : walk_meets E w from ≤ walk_reads E w from
    meets_read = rw reads_closed (le-min (omega arith) meets_le)
