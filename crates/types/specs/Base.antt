-- The words that all definitions share. Assumes nothing.
use Rattle.std.specs.Prelude.{Bool, true, false, ◌&&◌, ◌||◌, List, [], ◌∷◌, ℕ, zero, suc, ◌+◌, ◌^◌, Result, Ok, Err}
use Rattle.types.specs.Refusals.{number_of}
use Rattle.types.specs.declared.refusals.Refusal.{Refusal}

-- document 01's M: one whole in millionths, the Rust's FRAC_64_MULTIPLIER
abbrev pub M : ℕ
M = 1_000_000

-- a word holds the numbers below this
abbrev pub word : ℕ
word = 2 ^ 64

-- a signed word holds the numbers below this; from here on it stands for itself less `word`
abbrev pub half : ℕ
half = 2 ^ 63

-- a call is refused with a number of the table 'Turned back' (Refusals.antt), or accepted with its values
pub data Outcome (A : Type 0) : Type 0 where
  refused : ℕ → Outcome A
  accepted : A → Outcome A

-- an outcome by what a function takes from its values
abbrev pub map_outcome : {A B : Type 0} → (A → B) → Outcome A → Outcome B
map_outcome f (refused n) = refused n
map_outcome f (accepted a) = accepted (f a)

-- the answer of a call that has no values
unfoldable pub acceptance : {A : Type 0} → Outcome A → Outcome (Unit {0})
acceptance o = map_outcome (λ a. tt) o

-- what comes behind an outcome: its values go on, a refusal stands
abbrev pub and_then : {A B : Type 0} → Outcome A → (A → Outcome B) → Outcome B
and_then (refused n) f = refused n
and_then (accepted a) f = f a

-- a function's result as an outcome: an error is refused with its number
abbrev pub outcome_of : {A : Type 0} → Result A Refusal → Outcome A
outcome_of (Ok a) = accepted a
outcome_of (Err r) = refused (number_of r)

-- the same by what a view takes from its values
abbrev pub outcome_by : {A B : Type 0} → (A → B) → Result A Refusal → Outcome B
outcome_by view (Ok a) = accepted (view a)
outcome_by view (Err r) = refused (number_of r)

abbrev pub is_accepted : {A : Type 0} → Outcome A → Bool
is_accepted (refused n) = false
is_accepted (accepted a) = true

-- a number that is accepted, else 0
abbrev pub or_zero : Outcome ℕ → ℕ
or_zero (refused n) = 0
or_zero (accepted a) = a

-- what stands after a call: a refused call leaves what it found
abbrev pub after : {A B : Type 0} → Outcome A → (A → B) → B → B
after (refused n) f found = found
after (accepted a) f found = f a

-- f 0 + f 1 + .. + f (n - 1)
unfoldable pub sum_below : ℕ → (ℕ → ℕ) → ℕ
sum_below zero f = 0
sum_below (suc n) f = sum_below n f + f n

-- a test holds of every number below n
unfoldable pub all_below : ℕ → (ℕ → Bool) → Bool
all_below zero f = true
all_below (suc n) f = all_below n f && f n

-- a test holds of some number below n
unfoldable pub any_below : ℕ → (ℕ → Bool) → Bool
any_below zero f = false
any_below (suc n) f = any_below n f || f n

abbrev pub to_nat : Bool → ℕ
to_nat true = 1
to_nat false = 0

-- how many numbers below n a test holds of
unfoldable pub count_below : ℕ → (ℕ → Bool) → ℕ
count_below zero f = 0
count_below (suc n) f = count_below n f + to_nat (f n)

-- the first number below n that a test holds of, n where it holds of none
abbrev pub one_more : Bool → ℕ → ℕ
one_more true r = 0
one_more false r = suc r

unfoldable pub first_below : ℕ → (ℕ → Bool) → ℕ
first_below zero f = 0
first_below (suc n) f = one_more (f 0) (first_below n (λ i. f (suc i)))

-- the list of f 0, f 1, .. of length n
unfoldable pub tabulate : ℕ → (ℕ → ℕ) → List ℕ
tabulate zero f = []
tabulate (suc n) f = f 0 ∷ tabulate n (λ i. f (suc i))
