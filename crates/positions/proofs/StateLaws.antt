-- Laws of a position's state: one for each answer, what each answer tells of the numbers, and which states add. Assumes nothing.
use mathlib.Core.Path.{◌≡◌, refl, subst}
use mathlib.Core.Logic.{◌⊎◌, inl, inr}
use mathlib.Core.Bool.{Bool, true, false, not}
use Prim.Native.Nat.{ℕ, ◌+◌, ◌<◌, ◌≤◌}
use native.Mathlib.Omega.{arith}
use lib.Dec.{ltb, leb, eqb}
use borrow.Author.Tests.{lt-ltb, le-ltb, lt-leb, le-leb, eq-eqb, ne_eqb, ltb-true, ltb-false, leb-true, leb-false, eqb-true, eqb-false}
use Rattle.std.specs.Prelude.{if◌then◌else◌}
use Rattle.types.specs.Base.{word, Outcome, refused, accepted}
use Rattle.types.specs.Refusals.{does_not_fit}
use Rattle.positions.specs.declared.position.PositionState.{PositionState}
use Rattle.positions.specs.declared.position.PositionState.TheVariants.{UNLOCKED, LOCKING, LOCKED, PREUNLOCKING, UNLOCKING}
use Rattle.positions.specs.State.{state_by, adds}

-- ---- one law for each answer

module _ (activation flag start epoch unlocking : ℕ) where
  pub locking : epoch < activation → accepted LOCKING ≡ state_by activation flag start epoch unlocking
  unfolding state_by
  locking h = simp (lt-ltb _ _ h)

  pub locked : activation ≤ epoch → (flag ≡ 1 → ⊥) → accepted LOCKED ≡ state_by activation flag start epoch unlocking
  unfolding state_by
  locked h n = simp (le-ltb _ _ h, ne_eqb _ _ n)

  pub unfit : activation ≤ epoch → flag ≡ 1 → word ≤ start + unlocking
      → refused does_not_fit ≡ state_by activation flag start epoch unlocking
  unfolding state_by
  unfit h g f = simp (le-ltb _ _ h, eq-eqb _ _ g, le-leb _ _ f)

  pub preunlocking : activation ≤ epoch → flag ≡ 1 → start + unlocking < word → epoch < start
      → accepted PREUNLOCKING ≡ state_by activation flag start epoch unlocking
  unfolding state_by
  preunlocking h g f e = simp (le-ltb _ _ h, eq-eqb _ _ g, lt-leb _ _ f, lt-ltb _ _ e)

  pub unlocking_now : activation ≤ epoch → flag ≡ 1 → start + unlocking < word → start ≤ epoch → epoch < start + unlocking
      → accepted UNLOCKING ≡ state_by activation flag start epoch unlocking
  unfolding state_by
  unlocking_now h g f e u = simp (le-ltb _ _ h, eq-eqb _ _ g, lt-leb _ _ f, le-ltb _ _ e, lt-ltb _ _ u)

  pub unlocked : activation ≤ epoch → flag ≡ 1 → start + unlocking < word → start + unlocking ≤ epoch
      → accepted UNLOCKED ≡ state_by activation flag start epoch unlocking
  unfolding state_by
  unlocked h g f u =
      let e : start ≤ epoch = omega arith in
      simp (le-ltb _ _ h, eq-eqb _ _ g, lt-leb _ _ f, le-ltb _ _ e, le-ltb _ _ u)

-- ---- what an answer tells

module _ (activation flag start epoch unlocking : ℕ) where
  -- started, with an end of unlocking that is a word
  abbrev pub Started : Type 0
  Started = (activation ≤ epoch) × ((flag ≡ 1) × (start + unlocking < word))

  abbrev pub Tells : Outcome PositionState → Type 0
  Tells (refused k) = (k ≡ does_not_fit) × ((activation ≤ epoch) × ((flag ≡ 1) × (word ≤ start + unlocking)))
  Tells (accepted LOCKING) = epoch < activation
  Tells (accepted LOCKED) = (activation ≤ epoch) × (flag ≡ 1 → ⊥)
  Tells (accepted PREUNLOCKING) = Started × (epoch < start)
  Tells (accepted UNLOCKING) = Started × ((start ≤ epoch) × (epoch < start + unlocking))
  Tells (accepted UNLOCKED) = Started × (start + unlocking ≤ epoch)

  state_tells : Tells (state_by activation flag start epoch unlocking)
  unfolding state_by
  state_tells =
      go (ltb epoch activation) refl (eqb flag 1) refl (leb word (start + unlocking)) refl (ltb epoch start) refl (ltb epoch (start + unlocking)) refl
    where
      go : (t1 : Bool) → ltb epoch activation ≡ t1 → (t2 : Bool) → eqb flag 1 ≡ t2 → (t3 : Bool) → leb word (start + unlocking) ≡ t3
          → (t4 : Bool) → ltb epoch start ≡ t4 → (t5 : Bool) → ltb epoch (start + unlocking) ≡ t5
          → Tells (
          if t1 then accepted LOCKING
          else if not t2 then accepted LOCKED
          else if t3 then refused does_not_fit
          else if t4 then accepted PREUNLOCKING
          else if t5 then accepted UNLOCKING
          else accepted UNLOCKED)
      go true e1 t2 e2 t3 e3 t4 e4 t5 e5 = ltb-true _ _ e1
      go false e1 false e2 t3 e3 t4 e4 t5 e5 = (ltb-false _ _ e1, eqb-false _ _ e2)
      go false e1 true e2 true e3 t4 e4 t5 e5 = (refl, (ltb-false _ _ e1, (eqb-true _ _ e2, leb-true _ _ e3)))
      go false e1 true e2 false e3 true e4 t5 e5 = ((ltb-false _ _ e1, (eqb-true _ _ e2, leb-false _ _ e3)), ltb-true _ _ e4)
      go false e1 true e2 false e3 false e4 true e5 =
          ((ltb-false _ _ e1, (eqb-true _ _ e2, leb-false _ _ e3)), (ltb-false _ _ e4, ltb-true _ _ e5))
      go false e1 true e2 false e3 false e4 false e5 = ((ltb-false _ _ e1, (eqb-true _ _ e2, leb-false _ _ e3)), ltb-false _ _ e5)

  pub told : (o : Outcome PositionState) → state_by activation flag start epoch unlocking ≡ o → Tells o
  told o e = subst (λ (x : Outcome PositionState). Tells x) e state_tells

  -- 13 is given only once activated, with a start, and a start + unlocking length past 64 bits; `unfit` is the other way
  pub refused_says : (k : ℕ) → state_by activation flag start epoch unlocking ≡ refused k
      → (k ≡ does_not_fit) × ((activation ≤ epoch) × ((flag ≡ 1) × (word ≤ start + unlocking)))
  refused_says k e = told (refused k) e

  -- there is one state at a time
  pub one_state : (s t : PositionState) → state_by activation flag start epoch unlocking ≡ accepted s
      → state_by activation flag start epoch unlocking ≡ accepted t → s ≡ t
  one_state s t p q = cc

  -- a state that adds: activated, and not yet at the start, if there is one
  pub adds_says : (s : PositionState) → state_by activation flag start epoch unlocking ≡ accepted s → adds s ≡ true
      → (activation ≤ epoch) × ((flag ≡ 1 → ⊥) ⊎ (epoch < start))
  adds_says LOCKED e a = ((told (accepted LOCKED) e).0, inl (told (accepted LOCKED) e).1)
  adds_says PREUNLOCKING e a = ((told (accepted PREUNLOCKING) e).0.0, inr (told (accepted PREUNLOCKING) e).1)
  adds_says UNLOCKED e a = let z : ◌≡◌ {A = ℕ} 0 1 = cc in absurd (omega arith)
  adds_says LOCKING e a = let z : ◌≡◌ {A = ℕ} 0 1 = cc in absurd (omega arith)
  adds_says UNLOCKING e a = let z : ◌≡◌ {A = ℕ} 0 1 = cc in absurd (omega arith)

  -- a state that does not: before activation, or from the start on
  pub adds_not : (s : PositionState) → state_by activation flag start epoch unlocking ≡ accepted s → adds s ≡ false
      → (epoch < activation) ⊎ ((flag ≡ 1) × (start ≤ epoch))
  adds_not LOCKED e a = let z : ◌≡◌ {A = ℕ} 0 1 = cc in absurd (omega arith)
  adds_not PREUNLOCKING e a = let z : ◌≡◌ {A = ℕ} 0 1 = cc in absurd (omega arith)
  adds_not UNLOCKED e a =
      let t = told (accepted UNLOCKED) e in
      inr (t.0.1.0, omega arith)
  adds_not LOCKING e a = inl (told (accepted LOCKING) e)
  adds_not UNLOCKING e a = inr ((told (accepted UNLOCKING) e).0.1.0, (told (accepted UNLOCKING) e).1.0)
