-- The views of the answers fix them, and what is said of a pool that changes fixes its answer and the pool. Assumes nothing.
use mathlib.Core.Path.{◌≡◌, refl, sym, ◌∙◌}
use mathlib.Core.List.{List}
use Prim.Native.Nat.{ℕ}
use Rattle.std.specs.Prelude.{Result}
use Rattle.types.proofs.Fixed.{by_return, outcome_of_fixes, outcome_by_fixes}
use Rattle.types.specs.Base.{Outcome}
use Rattle.types.specs.declared.Amount.{Amount}
use Rattle.types.specs.declared.refusals.Refusal.{Refusal}
use Rattle.image.specs.declared.pool_data.PoolDataMut.{PoolDataMut}
use Rattle.image.specs.Changes.{Change}
use Rattle.advance_plan.specs.declared.Given.{Given}
use Rattle.advance_plan.specs.Advance.{Advanced}
use Rattle.pool.specs.declared.advance.Advanced as answer
use Rattle.pool.specs.declared.reward.Rewards.{Rewards}
use Rattle.pool.specs.Answers.{advanced_as, amount_as, AdvancesAs}
use Rattle.pool.specs.Changes.{ChangesAs}
use Rattle.pool.specs.Reward.{Earned, earned_as}

abbrev advanced : Advanced → answer.Advanced
advanced a = record { y = record { 0 = a.y }; set_aside = record { 0 = a.set_aside }; matched = a.matched; seated = a.seated; dropped = a.dropped }

-- two answers with the same values are the same
pub advanced_as_fixes : (a b : answer.Advanced) → advanced_as a ≡ advanced_as b → a ≡ b
advanced_as_fixes = by_return advanced_as advanced (λ a. refl)

abbrev foreseen : ℕ → Amount
foreseen a = record { 0 = a }

pub amount_as_fixes : (a b : Amount) → amount_as a ≡ amount_as b → a ≡ b
amount_as_fixes = by_return amount_as foreseen (λ a. refl)

abbrev earned : Earned → Rewards
earned r = record { delegator_reward = record { 0 = r.delegator }; publisher_reward = record { 0 = r.publisher }; reads = r.reads }

pub earned_as_fixes : (a b : Rewards) → earned_as a ≡ earned_as b → a ≡ b
earned_as_fixes = by_return earned_as earned (λ a. refl)

-- ---- relations

-- a pool's list, the loan it is on, its seats and its events
pub record SamePool (a b : PoolDataMut) : Type 0 where
  pub words : a.words.now ≡ b.words.now
  pub same_loan : a.words.ghost_name ≡ b.words.ghost_name
  pub p : a.p ≡ b.p
  pub e : a.e ≡ b.e

-- two advances of the same pool have the same answer, and leave the same pool
pub advances_as_fixes : (old a b : PoolDataMut) (m : List ℕ) (g : Given) (r s : Result answer.Advanced Refusal)
    → AdvancesAs old a m g r → AdvancesAs old b m g s → (r ≡ s) × SamePool a b
advances_as_fixes old a b m g r s x y = (
  outcome_by_fixes advanced_as advanced_as_fixes r s (x.answer ∙ sym y.answer),
  record { words = x.image ∙ sym y.image; same_loan = x.same_loan ∙ sym y.same_loan; p = x.p ∙ sym y.p; e = x.e ∙ sym y.e },
)

-- and so have two changes
pub changes_as_fixes : (old a b : PoolDataMut) (o : Outcome Change) (r s : Result (Unit {0}) Refusal)
    → ChangesAs old a o r → ChangesAs old b o s → (r ≡ s) × SamePool a b
changes_as_fixes old a b o r s x y = (
  outcome_of_fixes r s (x.answer ∙ sym y.answer),
  record { words = x.image ∙ sym y.image; same_loan = x.same_loan ∙ sym y.same_loan; p = x.p ∙ sym y.p; e = x.e ∙ sym y.e },
)
