-- What the walk's functions hand on: the newest events, and the amounts after one position's walk. Assumes nothing.
use Rattle.std.specs.Prelude.{◌≡◌, Bool, true, List, ℕ, ◌+◌, ◌-◌, ◌<◌, ◌≤◌, eqb, ltb, length, get_or, replicate, take, if◌then◌else◌}
use Rattle.types.specs.Base.{word, all_below}
use Rattle.image.specs.Layout.{Words}
use Rattle.event_walk.specs.declared.EventAmounts.{EventAmounts}
use Rattle.event_walk.specs.declared.newest.Newest.{Newest}
use Rattle.event_walk.specs.declared.span.Span.{Span}
use Rattle.event_walk.specs.Walk.{walk_epoch, walk_meets, walk_reads}
use Rattle.event_walk.specs.Span.{units_in}

-- the slot in front of a slot, around the ring
unfoldable pub slot_before : (e slot : ℕ) → ℕ
slot_before e slot = if eqb slot 0 then e - 1 else slot - 1

-- the epochs of the events met
abbrev pub epochs_of : Newest → List ℕ
epochs_of n = take n.meets n.epochs

-- the newest events that are not too old, newest first
pub record NewestOf (E : ℕ) (w : Words) (from : ℕ) (r : Newest) : Type 0 where
  pub meets : length (epochs_of r) ≡ walk_meets E w from
  pub reads : r.reads ≡ walk_reads E w from
  pub few : length (epochs_of r) ≤ 52
  pub short : r.reads ≤ 52
  pub epochs : (k : ℕ) → k < length (epochs_of r) → get_or (epochs_of r) k 0 ≡ walk_epoch E w k
  pub words : (k : ℕ) → k < length (epochs_of r) → get_or (epochs_of r) k 0 < word
  pub behind : (k : ℕ) → length (epochs_of r) ≤ k → get_or r.epochs k 0 ≡ 0

-- no walk yet
abbrev pub no_amounts : EventAmounts
no_amounts = record { amounts = replicate 52 0; reads = 0 }

-- what one position's walk adds to the amounts so far
abbrev pub AddedOf : (epochs : List ℕ) → Span → (start r : List ℕ) → Type 0
AddedOf epochs s start r =
    (k : ℕ) → get_or r k 0 ≡ get_or start k 0 + (if ltb k (length epochs) then units_in s (get_or epochs k 0) else 0)

-- every sum is a word
abbrev pub sums_fit : (epochs : List ℕ) → Span → (start : List ℕ) → Bool
sums_fit epochs s start = all_below (length epochs) (λ k. ltb (get_or start k 0 + units_in s (get_or epochs k 0)) word)

-- what it makes of them, where every sum is, and of the read count: the events that it reads come to those of the walks before it
pub record Walked (n : Newest) (s : Span) (start r : EventAmounts) : Type 0 where
  pub fits : sums_fit (epochs_of n) s start.amounts ≡ true
  pub amounts : AddedOf (epochs_of n) s start.amounts r.amounts
  pub reads : r.reads ≡ start.reads + n.reads
