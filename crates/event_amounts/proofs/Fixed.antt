-- What the contract of the gathering fixes. Assumes nothing.
use mathlib.Core.Path.{◌≡◌, refl, sym, ◌∙◌}
use mathlib.Core.Bool.{true≢false}
use mathlib.Core.List.{List}
use Prim.Native.Nat.{ℕ}
use lib.ListN.{length}
use lib.Seq.{ext_get_or}
use Rattle.std.specs.Prelude.{Option, Some, None}
use Rattle.positions.specs.declared.Key.{Key}
use Rattle.image.specs.Layout.{Words}
use Rattle.event_walk.specs.declared.EventAmounts.{EventAmounts}
use Rattle.event_amounts.specs.Gathered.{GatheredOf}

-- an array's length is its type's
abbrev pub Long : Option EventAmounts → Type 0
Long (Some r) = length r.amounts ≡ 52
Long None = Unit {0}

-- whether all fits and, where it does, all else
pub gathered_of_fixes : (E : ℕ) (w : Words) (words : List ℕ) (publisher : Key) (from unlocking : ℕ) (a b : Option EventAmounts) → Long a → Long b
    → GatheredOf E w words publisher from unlocking a → GatheredOf E w words publisher from unlocking b → a ≡ b
gathered_of_fixes E w words publisher from unlocking (Some a) (Some b) l m x y =
    let amounts = ext_get_or 0 a.amounts b.amounts (l ∙ sym m) (λ k h. x.amounts k ∙ sym (y.amounts k)) in
    let reads : a.reads ≡ b.reads = x.reads ∙ sym y.reads in
    λ i. Some (record { amounts = amounts i; reads = reads i })
gathered_of_fixes E w words publisher from unlocking (Some a) None l m x y = absurd (true≢false (sym x.fits ∙ y))
gathered_of_fixes E w words publisher from unlocking None (Some b) l m x y = absurd (true≢false (sym y.fits ∙ x))
gathered_of_fixes E w words publisher from unlocking None None l m x y = refl
