-- What an accepted outcome tells of the tests and steps in front of it, and what a refused one tells. Assumes nothing.
use mathlib.Core.Path.{◌≡◌, refl, ap}
use mathlib.Core.Logic.{◌≢◌}
use mathlib.Core.Bool.{Bool, true, false}
use Prim.Native.Nat.{ℕ}
use native.Mathlib.Omega.{arith}
use Rattle.std.specs.Prelude.{if◌then◌else◌}
use Rattle.types.specs.Base.{Outcome, refused, accepted, map_outcome, and_then, after}

-- a test on the way was passed, and what comes after it accepts
pub test_passed : {A : Type 0} (t : Bool) (k : ℕ) (rest : Outcome A) (a : A) → (if t then refused k else rest) ≡ accepted a
    → (t ≡ false) × (rest ≡ accepted a)
test_passed true k rest a e = absurd (let z : ◌≡◌ {A = ℕ} 0 1 = cc in omega arith)
test_passed false k rest a e = (refl, e)

-- what was mapped was accepted
pub map_accepted : {A B : Type 0} (f : A → B) (o : Outcome A) (b : B) → map_outcome f o ≡ accepted b → (a : A) × ((o ≡ accepted a) × (b ≡ f a))
map_accepted f (refused n) b e = absurd (let z : ◌≡◌ {A = ℕ} 0 1 = cc in omega arith)
map_accepted f (accepted a) b e = (a, (refl, cc))

-- what went on was accepted, and so was what came behind it
pub then_accepts : {A B : Type 0} (f : A → Outcome B) (o : Outcome A) (b : B) → and_then o f ≡ accepted b
    → (a : A) × ((o ≡ accepted a) × (f a ≡ accepted b))
then_accepts f (refused n) b e = absurd (let z : ◌≡◌ {A = ℕ} 0 1 = cc in omega arith)
then_accepts f (accepted a) b e = (a, (refl, e))

-- what holds after an accepted call, and of what a refused one found, holds after the call
pub after_holds : {A B : Type 0} (Q : B → Type 0) (o : Outcome A) (f : A → B) (found : B) → ((a : A) → o ≡ accepted a → Q (f a)) → Q found → Q (after o f found)
after_holds Q (refused n) f found h q = q
after_holds Q (accepted a) f found h q = h a refl

-- ---- what a refusal tells

pub not_accepted : {A : Type 0} (a : A) (k : ℕ) → accepted a ≢ refused k
not_accepted a k e = let z : ◌≡◌ {A = ℕ} 0 1 = cc in omega arith

-- a test that gives another number was passed
pub test_refused : {A : Type 0} (t : Bool) (k j : ℕ) (rest : Outcome A) → k ≢ j → (if t then refused k else rest) ≡ refused j
    → (t ≡ false) × (rest ≡ refused j)
test_refused true k j rest n e = absurd (n cc)
test_refused false k j rest n e = (refl, e)

-- what was mapped was refused
pub map_refused : {A B : Type 0} (f : A → B) (o : Outcome A) (k : ℕ) → map_outcome f o ≡ refused k → o ≡ refused k
map_refused f (refused n) k e = let q : n ≡ k = cc in ap refused q
map_refused f (accepted a) k e = absurd (not_accepted (f a) k e)

-- a step that does not give the number was accepted, and what came behind it was refused
pub then_refused : {A B : Type 0} (f : A → Outcome B) (o : Outcome A) (k : ℕ) → o ≢ refused k → and_then o f ≡ refused k
    → (a : A) × ((o ≡ accepted a) × (f a ≡ refused k))
then_refused f (refused n) k h e = let q : n ≡ k = cc in absurd (h (ap refused q))
then_refused f (accepted a) k h e = (a, (refl, e))
