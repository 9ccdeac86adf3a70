-- What the steps of the code keep, for their contracts. Assumes nothing.
use Rattle.std.specs.Prelude.{◌≡◌, Bool, ◌&&◌, ◌||◌, ℕ, ◌+◌, ◌^◌, ◌≤◌, ◌<◌, leb, ltb, eqb, List, length, get_or}
use Rattle.types.specs.Base.{count_below, to_nat}
use Rattle.split.specs.declared.Threshold.{Threshold}
use Rattle.split.specs.Split.{weight_sum, floor_of, remainder_of, units_left}

-- the checks are passed: sum is the sum, not 0, of at most 64 weights, and the output list is as long
pub record Checked (sum : ℕ) (weights parts : List ℕ) : Type 0 where
  pub sums : sum ≡ weight_sum weights
  pub some : 0 < sum
  pub few : length weights ≤ 64
  pub long : length parts ≡ length weights

-- the first n words of a list are f 0, f 1, .., f (n - 1)
pub record Begins (f : ℕ → ℕ) (n : ℕ) (l : List ℕ) : Type 0 where
  pub at : (k : ℕ) → k < n → get_or l k 0 ≡ f k

-- every floor and every remainder is written, and the units left are counted
pub record Floored (reward : ℕ) (weights parts remainders : List ℕ) (left : ℕ) : Type 0 where
  pub long : length parts ≡ length weights
  pub floors : Begins (floor_of reward weights) (length weights) parts
  pub rests : Begins (remainder_of reward weights) (length weights) remainders
  pub units : left ≡ units_left reward weights

-- the units left are those for the remainders above the threshold's and the threshold's own; as many remainders at least are no smaller than it
pub record ThresholdOf (remainders : List ℕ) (n left : ℕ) (threshold : Threshold) : Type 0 where
  pub above : count_below n (λ k. ltb threshold.remainder (get_or remainders k 0)) + threshold.units ≡ left
  pub enough : left ≤ count_below n (λ k. leb threshold.remainder (get_or remainders k 0))

-- whether client k gets a unit by the threshold: its remainder is larger, or it is the threshold's, and fewer earlier clients have the same than there are
-- units for these
unfoldable pub passes : Threshold → List ℕ → (k : ℕ) → Bool
passes threshold remainders k =
    ltb threshold.remainder (get_or remainders k 0)
    || (eqb (get_or remainders k 0) threshold.remainder && ltb (count_below k (λ j. eqb (get_or remainders j 0) threshold.remainder)) threshold.units)

-- each word has room for one unit more
pub record Room (parts : List ℕ) : Type 0 where
  pub at : (k : ℕ) → k < length parts → get_or parts k 0 + 1 < 2 ^ 64

-- each word, and a unit more where its client gets one
pub record Given (threshold : Threshold) (remainders found parts : List ℕ) : Type 0 where
  pub long : length parts ≡ length found
  pub unit : (k : ℕ) → k < length found → get_or parts k 0 ≡ get_or found k 0 + to_nat (passes threshold remainders k)
