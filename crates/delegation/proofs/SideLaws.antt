-- Laws of a side's roll, and of an amount that is removed. Assumes nothing.
use Rattle.std.proofs.Common.{◌≡◌, ℕ, ◌+◌, ◌-◌, ◌%◌, ◌<◌, ◌≤◌, Bool, true, false, ltb, refl, arith, ltb-false, ltb-true, le-ltb, lt-ltb, le-leb}
use borrow.Author.Tests.{lt-leb}
use Rattle.types.specs.Base.{word, half, refused, accepted}
use Rattle.types.specs.Refusals.{does_not_fit}
use Rattle.positions.specs.declared.position.PositionState.{PositionState}
use Rattle.delegation.specs.Side.{Side, rolled, roll_fits, roll_of, remove_in, remove_of}

module _ (total change : ℕ) where
  -- 13 exactly where the roll does not fit, and else the rolled total with change 0
  pub roll_not : roll_fits total change ≡ false → roll_of total change ≡ refused does_not_fit
  unfolding roll_of
  roll_not e = rw e

  pub roll_into : roll_fits total change ≡ true → roll_of total change ≡ accepted (record { total = rolled total change; change = 0 })
  unfolding roll_of
  roll_into e = rw e

  pub roll_fits_law : (s : Side) → roll_of total change ≡ accepted s → roll_fits total change ≡ true
  roll_fits_law s e = go (roll_fits total change) refl
    where
      go : (t : Bool) → roll_fits total change ≡ t → roll_fits total change ≡ true
      go true h = h
      go false h =
          let q = roll_not h in absurd cc

module _ (total change : ℕ) where
  -- the sum of the words modulo 2^64 is the signed sum where that is in 0 to 2^63 - 1, and 2^63 or more otherwise
  pub roll_out : total < half → change < word → half ≤ (total + change) % word → refused does_not_fit ≡ roll_of total change
  unfolding roll_of roll_fits
  roll_out a w h = go (ltb change half) refl
    where
      go : (t : Bool) → ltb change half ≡ t → refused does_not_fit ≡ roll_of total change
      go true q =
          let up = ltb-true change half q in
          simp (lt-ltb total half a, q, le-ltb (total + change) half (omega arith))
      go false q =
          let down = ltb-false change half q in
          simp (lt-ltb total half a, q, lt-leb (word - change) total (omega arith))

  -- the same where it is below 2^63
  pub roll_in : (v : ℕ) → v ≡ (total + change) % word → total < half → change < word → v < half
      → accepted (record { total = v; change = 0 }) ≡ roll_of total change
  unfolding roll_of roll_fits rolled
  roll_in v e a w h = go (ltb change half) refl
    where
      go : (t : Bool) → ltb change half ≡ t → accepted (record { total = v; change = 0 }) ≡ roll_of total change
      go true q =
          let up = ltb-true change half q in
          let is : v ≡ total + change = omega arith in
          rw is (simp (lt-ltb total half a, q, lt-ltb (total + change) half (omega arith)))
      go false q =
          let down = ltb-false change half q in
          let is : v ≡ total - (word - change) = omega arith in
          rw is (simp (lt-ltb total half a, q, le-leb (word - change) total (omega arith)))

-- an amount below 2^63 is removed by the state's case
pub remove_in_law : (total change amount : ℕ) (state : PositionState) → amount < half
    → remove_in state total change amount ≡ remove_of total change amount state
unfolding remove_of
remove_in_law total change amount state h = rw (lt-leb half amount h)
