-- Laws of what a position adds: in an epoch by its span and by its state, in the events that its walk meets, and what an answer says of a
-- walk. Assumes nothing.
use mathlib.Core.Path.{◌≡◌, refl, sym, ap, ◌∙◌}
use mathlib.Core.Bool.{Bool, true, false}
use mathlib.Core.List.{List}
use Prim.Native.Nat.{ℕ, ◌+◌, ◌-◌, ◌%◌, ◌<◌, ◌≤◌}
use native.Mathlib.Omega.{arith}
use lib.Dec.{ltb, leb}
use lib.ListN.{length, get_or}
use borrow.Author.Tests.{lt-ltb, le-ltb, ltb-true, ltb-false, leb-true, leb-false}
use Rattle.std.specs.Prelude.{if◌then◌else◌, IsTrue, ◌↔◌, Any, Some, None}
use Rattle.types.specs.Base.{word, Outcome, refused, accepted, map_outcome, is_accepted, or_zero, all_below, any_below}
use Rattle.types.specs.Refusals.{does_not_fit}
use Rattle.types.proofs.Below.{all_each, all_same, all_not, any_at, any_found}
use Rattle.types.proofs.ListLaws.{any_list}
use Rattle.positions.specs.declared.position.Position.{Position}
use Rattle.positions.specs.declared.position.PositionState.{PositionState}
use Rattle.positions.specs.declared.position.PositionState.TheVariants.{UNLOCKED, LOCKING, LOCKED, PREUNLOCKING, UNLOCKING}
use Rattle.positions.specs.State.{state_of, adds}
use Rattle.positions.proofs.StateLaws.{Tells, told, locking, unfit}
use Rattle.image.specs.Layout.{Words}
use Rattle.event_walk.specs.declared.newest.Newest.{Newest}
use Rattle.event_walk.specs.declared.span.Span.{Span}
use Rattle.event_walk.specs.Walk.{drawn_in, walk_epoch, walk_meets, walk_fits}
use Rattle.event_walk.specs.Span.{units_in, SpanOf}
use Rattle.event_walk.specs.Walked.{epochs_of, NewestOf}

-- ---- what a span adds

module _ (s : Span) (epoch : ℕ) where
  pub units_before : epoch < s.first → 0 ≡ units_in s epoch
  unfolding units_in
  units_before h = simp (lt-ltb _ _ h)

  pub units_after : s.first ≤ epoch → s.last < epoch → 0 ≡ units_in s epoch
  unfolding units_in
  units_after h l = simp (le-ltb _ _ h, lt-ltb _ _ l)

  pub units_within : s.first ≤ epoch → epoch ≤ s.last → s.amount ≡ units_in s epoch
  unfolding units_in
  units_within h l = simp (le-ltb _ _ h, le-ltb _ _ l)

  pub units_most : units_in s epoch ≤ s.amount
  unfolding units_in
  units_most = go (ltb epoch s.first) (ltb s.last epoch)
    where
      go : (a b : Bool) → (if a then 0 else if b then 0 else s.amount) ≤ s.amount
      go true b = omega arith
      go false true = omega arith
      go false false = omega arith

  -- by one comparison of how far it is behind the first
  module _ (order : s.first ≤ s.last) (behind : ℕ) where
    pub units_inside : behind ≡ (epoch + word - s.first) % word → behind ≤ s.last - s.first → epoch < word → s.last < word → s.amount ≡ units_in s epoch
    units_inside e h small last = units_within (omega arith) (omega arith)

    pub units_outside : behind ≡ (epoch + word - s.first) % word → s.last - s.first < behind → epoch < word → s.last < word → 0 ≡ units_in s epoch
    units_outside e h small last = go (ltb epoch s.first) refl
      where
        go : (t : Bool) → ltb epoch s.first ≡ t → 0 ≡ units_in s epoch
        go true q = units_before (ltb-true _ _ q)
        go false q = let l = ltb-false _ _ q in units_after l (omega arith)

-- the default adds nothing
abbrev pub no_span : Span
no_span = record { amount = 0; first = 0; last = 0 }

units_none : (epoch : ℕ) → 0 ≡ units_in no_span epoch
units_none epoch = omega (arith, units_most no_span epoch)

-- ---- what a state adds

abbrev drawn_by : Position → Outcome PositionState → Outcome ℕ
drawn_by p o = map_outcome (λ s. if adds s then p.amount.0 else 0) o

-- its amount from its activation on
abbrev pub from_to : Position → (last : ℕ) → Span
from_to p last = record { amount = p.amount.0; first = p.activation_epoch.0; last = last }

abbrev TellsOf : Position → (epoch unlocking : ℕ) → Outcome PositionState → Type 0
TellsOf p epoch unlocking o = Tells p.activation_epoch.0 p.start_flag p.unlocking_start.0 epoch unlocking o

module _ (p : Position) (epoch unlocking : ℕ) where
  told_of : TellsOf p epoch unlocking (state_of p epoch unlocking)
  told_of = told _ _ _ _ _ _ refl

  drawn_locking : epoch < p.activation_epoch.0 → drawn_in p epoch unlocking ≡ accepted 0
  unfolding drawn_in
  drawn_locking h = rw (← locking p.activation_epoch.0 p.start_flag p.unlocking_start.0 epoch unlocking h)

  drawn_refused : p.activation_epoch.0 ≤ epoch → p.start_flag ≡ 1 → word ≤ p.unlocking_start.0 + unlocking
      → drawn_in p epoch unlocking ≡ refused does_not_fit
  unfolding drawn_in
  drawn_refused h g f = rw (← unfit p.activation_epoch.0 p.start_flag p.unlocking_start.0 epoch unlocking h g f)

  -- no start: from the activation on
  drawn_open : epoch < word → (p.start_flag ≡ 1 → ⊥)
      → drawn_in p epoch unlocking ≡ accepted (units_in (from_to p (word - 1)) epoch)
  unfolding drawn_in
  drawn_open small n = go (state_of p epoch unlocking) told_of
    where
      go : (o : Outcome PositionState) → TellsOf p epoch unlocking o
          → drawn_by p o ≡ accepted (units_in (from_to p (word - 1)) epoch)
      go (refused k) t = absurd (n t.1.1.0)
      go (accepted LOCKING) t = ap accepted (units_before _ _ t)
      go (accepted LOCKED) t = ap accepted (units_within _ _ t.0 (omega arith))
      go (accepted PREUNLOCKING) t = absurd (n t.0.1.0)
      go (accepted UNLOCKING) t = absurd (n t.0.1.0)
      go (accepted UNLOCKED) t = absurd (n t.0.1.0)

  -- a start that is not behind the activation: never
  drawn_never : p.start_flag ≡ 1 → p.unlocking_start.0 + unlocking < word → p.unlocking_start.0 ≤ p.activation_epoch.0
      → drawn_in p epoch unlocking ≡ accepted (units_in no_span epoch)
  unfolding drawn_in
  drawn_never g f z = go (state_of p epoch unlocking) told_of
    where
      go : (o : Outcome PositionState) → TellsOf p epoch unlocking o → drawn_by p o ≡ accepted (units_in no_span epoch)
      go (refused k) t = let h = t.1.1.1 in absurd (omega arith)
      go (accepted LOCKING) t = ap accepted (units_none epoch)
      go (accepted LOCKED) t = absurd (t.1 g)
      go (accepted PREUNLOCKING) t = let h = t.1 in absurd (omega arith)
      go (accepted UNLOCKING) t = ap accepted (units_none epoch)
      go (accepted UNLOCKED) t = ap accepted (units_none epoch)

  -- a later start: from the activation to the epoch in front of it
  drawn_closed : p.start_flag ≡ 1 → p.unlocking_start.0 + unlocking < word → p.activation_epoch.0 < p.unlocking_start.0
      → drawn_in p epoch unlocking ≡ accepted (units_in (from_to p (p.unlocking_start.0 - 1)) epoch)
  unfolding drawn_in
  drawn_closed g f n = go (state_of p epoch unlocking) told_of
    where
      go : (o : Outcome PositionState) → TellsOf p epoch unlocking o
          → drawn_by p o ≡ accepted (units_in (from_to p (p.unlocking_start.0 - 1)) epoch)
      go (refused k) t = let h = t.1.1.1 in absurd (omega arith)
      go (accepted LOCKING) t = ap accepted (units_before _ _ t)
      go (accepted LOCKED) t = absurd (t.1 g)
      go (accepted PREUNLOCKING) t = ap accepted (units_within _ _ t.0.0 (omega arith))
      go (accepted UNLOCKING) t = ap accepted (units_after _ _ t.0.0 (omega arith))
      go (accepted UNLOCKED) t = ap accepted (units_after _ _ t.0.0 (omega arith))

-- ---- one law for each way out of span_of

module _ (epochs : List ℕ) (p : Position) (unlocking : ℕ) where
  pub span_open : (p.start_flag ≡ 1 → ⊥) → SpanOf epochs p unlocking (Some (from_to p (word - 1)))
  span_open n k l small = drawn_open p (get_or epochs k 0) unlocking small n

  pub span_never : p.start_flag ≡ 1 → p.unlocking_start.0 + unlocking < word → p.unlocking_start.0 ≤ p.activation_epoch.0
      → SpanOf epochs p unlocking (Some no_span)
  span_never g f z k l small = drawn_never p (get_or epochs k 0) unlocking g f z

  pub span_closed : p.start_flag ≡ 1 → p.unlocking_start.0 + unlocking < word → p.activation_epoch.0 < p.unlocking_start.0
      → SpanOf epochs p unlocking (Some (from_to p (p.unlocking_start.0 - 1)))
  span_closed g f n k l small = drawn_closed p (get_or epochs k 0) unlocking g f n

  -- the end of unlocking does not fit: one of the events is at or behind the activation, or none
  module _ (answer : Bool) (is : IsTrue answer ↔ Any (λ (epoch : ℕ). IsTrue (leb p.activation_epoch.0 epoch)) epochs) where
    abbrev activated : ℕ → Bool
    activated k = leb p.activation_epoch.0 (get_or epochs k 0)

    any_is : answer ≡ any_below (length epochs) activated
    any_is = any_list (λ (epoch : ℕ). leb p.activation_epoch.0 epoch) epochs 0 answer is

    pub span_early : answer ≡ false → SpanOf epochs p unlocking (Some no_span)
    span_early e k l small = drawn_locking p (get_or epochs k 0) unlocking (before (activated k) refl) ∙ ap accepted (units_none (get_or epochs k 0))
      where
        before : (t : Bool) → activated k ≡ t → get_or epochs k 0 < p.activation_epoch.0
        before true q = absurd (let z : false ≡ true = sym e ∙ any_is ∙ any_at activated (length epochs) k l q in cc)
        before false q = leb-false _ _ q

    pub span_refused : p.start_flag ≡ 1 → word ≤ p.unlocking_start.0 + unlocking → answer ≡ true → SpanOf epochs p unlocking None
    span_refused g f e =
        let found = any_found activated (length epochs) (sym any_is ∙ e) in
        all_not (λ k. is_accepted (drawn_in p (get_or epochs k 0) unlocking)) (length epochs) found.0 found.1
        (ap is_accepted (drawn_refused p (get_or epochs found.0 0) unlocking (leb-true _ _ found.2) g f))

-- the two ways out of units_in
pub ruleset units = (units_inside, units_outside)

-- the ways out
pub ruleset spans = (span_open, span_never, span_closed, span_early, span_refused)

-- ---- what an answer says of a walk over the newest events

module _ (E : ℕ) (w : Words) (from : ℕ) (n : Newest) (newest : NewestOf E w from n) (p : Position) (unlocking : ℕ) where
  abbrev fits_at : ℕ → Bool
  fits_at epoch = is_accepted (drawn_in p epoch unlocking)

  -- the answer's test is the walk's
  fits_same : all_below (length (epochs_of n)) (λ k. fits_at (get_or (epochs_of n) k 0)) ≡ walk_fits E w p from unlocking
  unfolding walk_fits
  fits_same =
      all_same (λ k. fits_at (get_or (epochs_of n) k 0)) (λ k. fits_at (walk_epoch E w k)) (length (epochs_of n))
      (λ k l. ap fits_at (newest.epochs k l))
      ∙ ap (λ (m : ℕ). all_below m (λ k. fits_at (walk_epoch E w k))) newest.meets

  pub walk_fits_law : (s : Span) → SpanOf (epochs_of n) p unlocking (Some s) → walk_fits E w p from unlocking ≡ true
  walk_fits_law s h =
      sym fits_same
      ∙ all_each (λ k. fits_at (get_or (epochs_of n) k 0)) (length (epochs_of n)) (λ k l. ap is_accepted (h k l (newest.words k l)))

  pub walk_unfit : SpanOf (epochs_of n) p unlocking None → walk_fits E w p from unlocking ≡ false
  walk_unfit h = sym fits_same ∙ h

  pub walk_draws : (s : Span) → SpanOf (epochs_of n) p unlocking (Some s) → (k : ℕ) → k < walk_meets E w from
      → or_zero (drawn_in p (walk_epoch E w k) unlocking) ≡ units_in s (get_or (epochs_of n) k 0)
  walk_draws s h k l =
      let m : k < length (epochs_of n) = omega (arith, newest.meets) in
      ap (λ (x : ℕ). or_zero (drawn_in p x unlocking)) (sym (newest.epochs k m)) ∙ ap or_zero (h k m (newest.words k m))
