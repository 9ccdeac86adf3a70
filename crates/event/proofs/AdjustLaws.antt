-- Laws of item 5's definitions: what an accepted answer keeps, and the one refusal's condition. Assumes nothing.
use mathlib.Core.Path.{◌≡◌, refl, sym, ◌∙◌, subst}
use mathlib.Core.Bool.{Bool, true, false}
use Prim.Native.Nat.{ℕ, ◌+◌, ◌-◌, ◌*◌, ◌/◌, ◌≤◌, ◌<◌, max}
use native.Mathlib.Nat.{le_refl, le_of_lt, mul-le-mul_left, mul-le-mul_right, div-le_of_le-mul}
use native.Mathlib.Nat.{div-mul-le_self, div-lt_iff_lt-mul, lt-div-mul-add, lt_of_mul-lt-mul_right}
use native.Mathlib.Omega.{arith}
use lib.Dec.{leb, ltb}
use borrow.Author.Tests.{lt-leb, lt-ltb, leb-true, leb-false, ltb-false}
use Rattle.std.specs.Prelude.{if◌then◌else◌}
use Rattle.types.specs.Base.{M, word, Outcome, refused, accepted}
use Rattle.types.specs.Refusals.{does_not_fit}
use Rattle.types.proofs.OutcomeLaws.{test_passed}
use Rattle.event.specs.Adjust.{Adjustment, rewards_of, lowered_by, nothing, adjust_of}

-- a lowered y is at most y
pub lowered_y_le : (y A R : ℕ) → A ≤ R → y * A / R ≤ y
lowered_y_le y A R h = div-le_of_le-mul R {m = y * A} {n = y} (omega (arith, mul-le-mul_left y h))

-- T times z stays below A + 1 wholes, where z is the floor of y times A over R, and R that of T times y over M
aside_core : (T y A R z : ℕ) → z * R ≤ y * A → T * y < R * M + M → A < R → T * z < (A + 1) * M
aside_core T y A R z h k l =
    lt_of_mul-lt-mul_right R {m = T * z} {n = (A + 1) * M} (omega (arith, mul-le-mul_left T h, mul-le-mul_right A (le_of_lt k)))

-- so what it sets aside is at most A
pub lowered_aside_le : (T y A R : ℕ) → R ≡ rewards_of T y → A < R → rewards_of T (y * A / R) ≤ A
unfolding rewards_of
lowered_aside_le T y A R e h =
    let total : T * y < R * M + M = rw e (lt-div-mul-add {a = T * y} {b = M} (omega arith)) in
    let small : T * (y * A / R) / M < A + 1 =
    (div-lt_iff_lt-mul {k = M} {x = T * (y * A / R)} {y = A + 1} (omega arith)).1 (aside_core T y A R (y * A / R) (div-mul-le_self (y * A) R) total h) in
    omega arith

-- what an accepted adjustment keeps: y does not grow, y' is what the amount is set aside for, and claimable with it is a word, at most the larger
-- of custody and claimable
pub record Kept (T y f b : ℕ) (r : Adjustment) : Type 0 where
  pub y_le : r.y ≤ y
  pub aside : r.set_aside ≡ rewards_of T r.y
  pub fits : f + r.set_aside < word
  pub covered : f + r.set_aside ≤ max b f

-- what an answer tells
abbrev Tells : (T y f b : ℕ) → Outcome Adjustment → Type 0
Tells T y f b (refused k) = (k ≡ does_not_fit) × (word ≤ rewards_of T y + f)
Tells T y f b (accepted r) = Kept T y f b r

-- nothing is what y 0 sets aside
nothing_aside : (T : ℕ) → 0 ≡ rewards_of T 0
unfolding rewards_of
nothing_aside T = omega arith

module _ (T y f b : ℕ) where
  adjust_tells : Tells T y f b (adjust_of T y f b)
  unfolding adjust_of lowered_by
  adjust_tells = go (leb word (rewards_of T y + f)) refl (leb (rewards_of T y + f) b) refl (ltb b f) refl
    where
      go : (t₁ : Bool) → leb word (rewards_of T y + f) ≡ t₁ → (t₂ : Bool) → leb (rewards_of T y + f) b ≡ t₂ → (t₃ : Bool) → ltb b f ≡ t₃
          → Tells T y f b (
          if t₁ then refused does_not_fit
          else if t₂ then accepted (record { y = y; set_aside = rewards_of T y })
          else if t₃ then accepted nothing
          else accepted (lowered_by T y (b - f) (rewards_of T y)))
      go true h₁ t₂ h₂ t₃ h₃ = (refl, leb-true word (rewards_of T y + f) h₁)
      go false h₁ true h₂ t₃ h₃ =
          let l : rewards_of T y + f < word = leb-false word (rewards_of T y + f) h₁ in
          record { y_le = le_refl y; aside = refl; fits = omega arith; covered = omega (arith, leb-true (rewards_of T y + f) b h₂) }
      go false h₁ false h₂ true h₃ =
          let l : rewards_of T y + f < word = leb-false word (rewards_of T y + f) h₁ in
          record { y_le = omega arith; aside = nothing_aside T; fits = omega arith; covered = omega arith }
      go false h₁ false h₂ false h₃ =
          let l : rewards_of T y + f < word = leb-false word (rewards_of T y + f) h₁ in
          let k : b < rewards_of T y + f = leb-false (rewards_of T y + f) b h₂ in
          let m : f ≤ b = ltb-false b f h₃ in
          let a = lowered_aside_le T y (b - f) (rewards_of T y) refl (omega arith) in
          record { y_le = lowered_y_le y (b - f) (rewards_of T y) (omega arith); aside = refl; fits = omega arith; covered = omega arith }

  pub adjust_keeps : (r : Adjustment) → adjust_of T y f b ≡ accepted r → Kept T y f b r
  adjust_keeps r e = subst (Tells T y f b) e adjust_tells

  -- 13 is the only refusal, and only by its condition
  pub adjust_refuses : (k : ℕ) → adjust_of T y f b ≡ refused k → (k ≡ does_not_fit) × (word ≤ rewards_of T y + f)
  adjust_refuses k e = subst (Tells T y f b) e adjust_tells

  -- [8] 'Such an advance now passes: y' is 0, nothing is set aside', where claimable is above custody
  pub adjust_drained : rewards_of T y + f < word → b < f → adjust_of T y f b ≡ accepted nothing
  unfolding adjust_of
  adjust_drained h l = rw (lt-leb word (rewards_of T y + f) h, lt-leb (rewards_of T y + f) b (omega arith), lt-ltb b f l)

  -- an accepted answer there is this one
  pub drained_is : b < f → (r : Adjustment) → adjust_of T y f b ≡ accepted r → r ≡ nothing
  unfolding adjust_of
  drained_is l r e =
      let h : rewards_of T y + f < word = leb-false word (rewards_of T y + f) (test_passed (leb word (rewards_of T y + f)) _ _ r e).0 in
      let q : accepted r ≡ accepted nothing = sym e ∙ adjust_drained h l in
      cc
