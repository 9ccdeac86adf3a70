-- Request [8], 'Every advance accepted earlier answers as it did': item 5's adjustment beside the one before the request. Assumes nothing.
use mathlib.Core.Path.{◌≡◌, refl}
use mathlib.Core.Bool.{Bool, true, false}
use Prim.Native.Nat.{ℕ, ◌+◌, ◌-◌, ◌≤◌}
use lib.Dec.{eqb, leb, ltb}
use borrow.Author.Tests.{le-ltb}
use Rattle.std.specs.Prelude.{if◌then◌else◌}
use Rattle.types.specs.Base.{word, Outcome, refused, accepted, map_outcome}
use Rattle.types.specs.Refusals.{does_not_fit, claimable_over_custody}
use Rattle.event.specs.Adjust.{Adjustment, rewards_of, lowered_by, nothing, adjust_of}

-- the definition before the request, with refusal 14
unfoldable pub earlier_adjust_of : (T y claimable custody : ℕ) → Outcome Adjustment
earlier_adjust_of T y claimable custody =
    if leb word (rewards_of T y + claimable) then refused does_not_fit
    else if leb (rewards_of T y + claimable) custody then accepted (record { y = y; set_aside = rewards_of T y })
    else if ltb custody claimable then refused claimable_over_custody
    else accepted (lowered_by T y (custody - claimable) (rewards_of T y))

-- an outcome with this answer in place of refusal 14, and otherwise as it was
unfoldable pub without_14 : {A : Type 0} → (answer : A) → Outcome A → Outcome A
without_14 answer (refused k) = if eqb k claimable_over_custody then accepted answer else refused k
without_14 answer (accepted a) = accepted a

-- a test for another refusal stays in front
pub test_without : {A : Type 0} (answer : A) (t : Bool) (k : ℕ) (earlier now : Outcome A) → eqb k claimable_over_custody ≡ false
    → now ≡ without_14 answer earlier → (if t then refused k else now) ≡ without_14 answer (if t then refused k else earlier)
unfolding without_14
test_without answer true k earlier now n e = rw n refl
test_without answer false k earlier now n e = e

-- and what is made of an answer is made of this one
pub map_without : {A B : Type 0} (f : A → B) (answer : A) (earlier : Outcome A)
    → map_outcome f (without_14 answer earlier) ≡ without_14 (f answer) (map_outcome f earlier)
unfolding without_14
map_without f answer (accepted a) = refl
map_without f answer (refused k) = go (eqb k claimable_over_custody)
  where
    go : (t : Bool) → map_outcome f (if t then accepted answer else refused k) ≡ (if t then accepted (f answer) else refused k)
    go true = refl
    go false = refl

module _ (T y f b : ℕ) where
  pub adjust_without : adjust_of T y f b ≡ without_14 nothing (earlier_adjust_of T y f b)
  unfolding adjust_of earlier_adjust_of without_14
  adjust_without = test_without nothing (leb word (rewards_of T y + f)) does_not_fit _ _ refl (go (leb (rewards_of T y + f) b) (ltb b f))
    where
      go : (t u : Bool)
          → (if t then accepted (record { y = y; set_aside = rewards_of T y })
          else if u then accepted nothing
          else accepted (lowered_by T y (b - f) (rewards_of T y)))
          ≡ without_14 nothing (if t then accepted (record { y = y; set_aside = rewards_of T y })
          else if u then refused claimable_over_custody
          else accepted (lowered_by T y (b - f) (rewards_of T y)))
      go true u = refl
      go false true = refl
      go false false = refl

  -- for claimable at most custody the two are equal
  pub adjust_as_earlier : f ≤ b → adjust_of T y f b ≡ earlier_adjust_of T y f b
  unfolding adjust_of earlier_adjust_of
  adjust_as_earlier l = rw (le-ltb b f l) refl
