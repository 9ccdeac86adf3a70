-- The answers of an advance and a forecast in document 01's numbers and values, and the image that an advance leaves. Assumes nothing.
use Rattle.std.specs.Prelude.{◌≡◌, List, [], ◌∷◌, ℕ, Result}
use Rattle.types.specs.Base.{Outcome, after, outcome_by}
use Rattle.types.specs.declared.Amount.{Amount}
use Rattle.types.specs.declared.refusals.Refusal.{Refusal}
use Rattle.image.specs.declared.pool_data.PoolDataMut.{PoolDataMut}
use Rattle.image.specs.Layout.{read, image}
use Rattle.image.specs.Pool.{words_in}
use Rattle.advance_plan.specs.declared.Given.{Given}
use Rattle.advance_plan.specs.Advance.{Advanced, advanced_words, advance_of}
use Rattle.pool.specs.declared.advance.Advanced as answer

-- an advance's answer in numbers
abbrev pub advanced_as : answer.Advanced → Advanced
advanced_as a = record { y = a.y.0; set_aside = a.set_aside.0; matched = a.matched; seated = a.seated; dropped = a.dropped }

-- the same as five words, in the order in which they are answered
abbrev pub advanced_list : answer.Advanced → List ℕ
advanced_list a = a.y.0 ∷ a.set_aside.0 ∷ a.matched ∷ a.seated ∷ a.dropped ∷ []

-- a forecast's
abbrev pub amount_as : Amount → ℕ
amount_as a = a.0

-- a refused advance leaves the image it found
unfoldable pub image_after : (P E : ℕ) → (img m : List ℕ) → Given → Outcome Advanced → List ℕ
image_after P E img m g o = after o (λ a. image P E (advanced_words P E (read P E img) m g.current_epoch a.y a.set_aside)) img

-- the answer is items 4 and 5's, and the pool is left as it says; it stays the one that was lent
pub record AdvancesAs (old new : PoolDataMut) (m : List ℕ) (g : Given) (r : Result answer.Advanced Refusal) : Type 0 where
  pub answer : outcome_by advanced_as r ≡ advance_of old.p (words_in old) m g
  pub same_loan : new.words.ghost_name ≡ old.words.ghost_name
  pub p : new.p ≡ old.p
  pub e : new.e ≡ old.e
  pub image : new.words.now ≡ image_after old.p old.e old.words.now m g (advance_of old.p (words_in old) m g)
