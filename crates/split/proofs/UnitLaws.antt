-- Units given by a threshold, client after client. Assumes nothing.
use mathlib.Core.Path.{◌≡◌, refl, ap, ◌∙◌}
use mathlib.Core.Logic.{◌⊎◌, inl, inr}
use mathlib.Core.Bool.{Bool, true, false, ◌&&◌, ◌||◌}
use mathlib.Core.List.{List}
use Prim.Native.Nat.{ℕ, ◌+◌, ◌-◌, ◌^◌, ◌≤◌, ◌<◌}
use native.Mathlib.Numerals.{add-one}
use native.Mathlib.Decide.{ℕ_discrete}
use native.Mathlib.Omega.{arith}
use lib.Dec.{ltb, eqb}
use mir.Val.{bool_byte}
use lib.ListN.{length, get_or, set, length-set}
use lib.Seq.{get_or-set_same, get_or-set_other}
use borrow.Author.Tests.{lt-ltb, le-ltb, eq-eqb, ne_eqb}
use borrow.Author.Count.{below_more}
use Rattle.types.specs.Base.{count_below, to_nat}
use Rattle.types.proofs.Below.{lt_or_le, ltb_same, count_none, count_more}
use Rattle.split.specs.declared.Threshold.{Threshold}
use Rattle.split.specs.Steps.{Given, passes}
use Rattle.split.proofs.ThresholdLaws.{passes_larger, passes_tie, passes_less}

-- the first k clients have got theirs: their words, the others, and how many units are left for ties
pub record Giving (t : Threshold) (remainders found : List ℕ) (k : ℕ) (parts : List ℕ) (units : ℕ) : Type 0 where
  pub long : length parts ≡ length found
  pub given : (i : ℕ) → i < k → get_or parts i 0 ≡ get_or found i 0 + to_nat (passes t remainders i)
  pub others : (i : ℕ) → k ≤ i → get_or parts i 0 ≡ get_or found i 0
  pub ties : units ≡ t.units - count_below k (λ j. eqb (get_or remainders j 0) t.remainder)

byte_is : (t : Bool) → bool_byte t ≡ to_nat t
byte_is true = refl
byte_is false = refl

byte_le : (t : Bool) → bool_byte t ≤ 1
byte_le true = omega arith
byte_le false = omega arith

module _ (t : Threshold) (remainders found : List ℕ) where
  abbrev rest : ℕ → ℕ
  rest k = get_or remainders k 0

  abbrev is_tie : ℕ → Bool
  is_tie j = eqb (rest j) t.remainder

  next_tie : (k : ℕ) → count_below (k + 1) is_tie ≡ count_below k is_tie + to_nat (is_tie k)
  next_tie k = rw (add-one k) (count_more is_tie k)

  pub giving_none : Giving t remainders found 0 found (t.units)
  giving_none = record {
    long = refl;
    given = λ i l. absurd (omega arith);
    others = λ i l. refl;
    ties = omega (arith, count_none is_tie);
  }

  pub giving_all : (k : ℕ) (parts : List ℕ) (units : ℕ) → Giving t remainders found k parts units → length found ≤ k → Given t remainders found parts
  giving_all k parts units g h = record { long = g.long; unit = λ i l. g.given i (omega arith) }

  -- whether client k gets a unit as one of the tied
  abbrev tied : (k units : ℕ) → Bool
  tied k units = is_tie k && ltb 0 units

  module _ (k units : ℕ) (parts : List ℕ) (g : Giving t remainders found k parts units) (l : k < length found) where
    unit_is : to_nat (ltb t.remainder (rest k) || tied k units) ≡ to_nat (passes t remainders k)
    unit_is = go (lt_or_le t.remainder (rest k)) (ℕ_discrete (rest k) t.remainder)
      where
        left : ltb 0 units ≡ ltb (count_below k is_tie) t.units
        left = ltb_same _ _ _ _ (λ h. omega (arith, g.ties)) (λ h. omega (arith, g.ties))

        go : (t.remainder < rest k) ⊎ (rest k ≤ t.remainder) → Dec (rest k ≡ t.remainder)
            → to_nat (ltb t.remainder (rest k) || tied k units) ≡ to_nat (passes t remainders k)
        go (inl h) d = rw (lt-ltb t.remainder (rest k) h, passes_larger t remainders k h)
        go (inr h) (yes q) = rw (le-ltb t.remainder (rest k) h, eq-eqb (rest k) t.remainder q, left, passes_tie t remainders k q)
        go (inr h) (no d) = rw (le-ltb t.remainder (rest k) h, ne_eqb (rest k) t.remainder d, passes_less t remainders k (omega arith))

    ties_are : units - to_nat (tied k units) ≡ t.units - count_below (k + 1) is_tie
    ties_are = go (ℕ_discrete (rest k) t.remainder) (lt_or_le 0 units)
      where
        go : Dec (rest k ≡ t.remainder) → (0 < units) ⊎ (units ≤ 0) → units - to_nat (tied k units) ≡ t.units - count_below (k + 1) is_tie
        go (yes q) (inl h) = rw (eq-eqb (rest k) t.remainder q, lt-ltb 0 units h) (omega (arith, g.ties, next_tie k, ap to_nat (eq-eqb (rest k) t.remainder q)))
        go (yes q) (inr h) = rw (eq-eqb (rest k) t.remainder q, le-ltb 0 units h) (omega (arith, g.ties, next_tie k, ap to_nat (eq-eqb (rest k) t.remainder q)))
        go (no d) h = rw (ne_eqb (rest k) t.remainder d) (omega (arith, g.ties, next_tie k, ap to_nat (ne_eqb (rest k) t.remainder d)))

    pub giving_more : (unit tie : ℕ) → unit ≡ bool_byte (ltb t.remainder (rest k) || tied k units) → tie ≡ bool_byte (tied k units)
        → Giving t remainders found (k + 1) (set parts k (get_or parts k 0 + unit)) (units - tie)
    giving_more unit tie u e = record {
      long = length-set parts k (get_or parts k 0 + unit) ∙ g.long;
      given =
          below_more (λ i. get_or (set parts k (get_or parts k 0 + unit)) i 0 ≡ get_or found i 0 + to_nat (passes t remainders i)) k
          (λ i b. get_or-set_other parts k i (get_or parts k 0 + unit) 0 (λ q. omega arith) ∙ g.given i b)
          (get_or-set_same parts k (get_or parts k 0 + unit) 0 (omega (arith, g.long)) ∙ omega (arith, g.others k (omega arith), u, byte_is, unit_is));
      others = λ i b. get_or-set_other parts k i (get_or parts k 0 + unit) 0 (λ q. omega arith) ∙ g.others i (omega arith);
      ties = ap (λ (n : ℕ). units - n) (e ∙ byte_is (tied k units)) ∙ ties_are;
    }

    pub room_at : (unit : ℕ) → unit ≡ bool_byte (ltb t.remainder (rest k) || tied k units)
        → ((i : ℕ) → i < length found → get_or found i 0 + 1 < 2 ^ 64) → get_or parts k 0 + unit < 2 ^ 64
    room_at unit u h = omega (arith, h k l, g.others k (omega arith), u, byte_le (ltb t.remainder (rest k) || tied k units))

pub ruleset units = (giving_none, giving_all, room_at)
