-- What the walks of all positions gather. Assumes nothing.
use Rattle.std.specs.Prelude.{◌≡◌, true, false, List, ℕ, get_or, Option, Some, None}
use Rattle.positions.specs.declared.Key.{Key}
use Rattle.image.specs.Layout.{Words}
use Rattle.event_walk.specs.declared.EventAmounts.{EventAmounts}
use Rattle.event_walk.specs.Walk.{slot_amount, gather_fits, reads_of}

-- all fits: each slot's amount and the read count
pub record Gathers (E : ℕ) (w : Words) (words : List ℕ) (publisher : Key) (from unlocking : ℕ) (r : EventAmounts) : Type 0 where
  pub fits : gather_fits E w words publisher from unlocking ≡ true
  pub amounts : (k : ℕ) → get_or r.amounts k 0 ≡ slot_amount E w words publisher from unlocking k
  pub reads : r.reads ≡ reads_of E w words publisher from

-- the same, or that something does not fit
abbrev pub GatheredOf : (E : ℕ) → Words → (words : List ℕ) → Key → (from unlocking : ℕ) → Option EventAmounts → Type 0
GatheredOf E w words publisher from unlocking (Some r) = Gathers E w words publisher from unlocking r
GatheredOf E w words publisher from unlocking None = gather_fits E w words publisher from unlocking ≡ false
