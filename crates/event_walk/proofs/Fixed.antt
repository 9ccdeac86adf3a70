-- What the contracts here fix: any two results of the same inputs are the same, or agree in all that may be read. Assumes nothing.
use mathlib.Core.Path.{◌≡◌, sym, ap, ◌∙◌}
use mathlib.Core.Bool.{true, false, true≢false}
use mathlib.Core.List.{List}
use Prim.Native.Nat.{ℕ, ◌<◌}
use native.Mathlib.Omega.{arith}
use lib.ListN.{length, get_or}
use lib.Seq.{ext_get_or}
use Rattle.std.specs.Prelude.{Option, Some, None}
use Rattle.types.specs.Base.{word, is_accepted, all_below}
use Rattle.types.proofs.Below.{all_each}
use Rattle.positions.specs.declared.position.Position.{Position}
use Rattle.image.specs.Layout.{Words}
use Rattle.event_walk.specs.declared.EventAmounts.{EventAmounts}
use Rattle.event_walk.specs.declared.newest.Newest.{Newest}
use Rattle.event_walk.specs.declared.span.Span.{Span}
use Rattle.event_walk.specs.Walk.{drawn_in}
use Rattle.event_walk.specs.Span.{units_in, SpanOf}
use Rattle.event_walk.specs.Walked.{epochs_of, NewestOf, AddedOf, Walked}

-- the epochs of the events met, and the read count
pub newest_of_fixes : (E : ℕ) (w : Words) (from : ℕ) (a b : Newest) → NewestOf E w from a → NewestOf E w from b
    → (epochs_of a ≡ epochs_of b) × (a.reads ≡ b.reads)
newest_of_fixes E w from a b x y =
    let meets : length (epochs_of a) ≡ length (epochs_of b) = x.meets ∙ sym y.meets in (
      ext_get_or 0 (epochs_of a) (epochs_of b) meets (λ k l. x.epochs k l ∙ sym (y.epochs k (omega arith))),
      x.reads ∙ sym y.reads,
    )

-- both do not fit, or both add the same in every event met
abbrev pub SameSpan : (epochs : List ℕ) → Option Span → Option Span → Type 0
SameSpan epochs (Some s) (Some t) = (k : ℕ) → k < length epochs → units_in s (get_or epochs k 0) ≡ units_in t (get_or epochs k 0)
SameSpan epochs (Some s) None = ⊥
SameSpan epochs None (Some t) = ⊥
SameSpan epochs None None = Unit {0}

-- a walk whose states all fit in the events met is not one that does not fit
all_fit : (epochs : List ℕ) (p : Position) (unlocking : ℕ)
    → ((k : ℕ) → k < length epochs → is_accepted (drawn_in p (get_or epochs k 0) unlocking) ≡ true)
    → all_below (length epochs) (λ k. is_accepted (drawn_in p (get_or epochs k 0) unlocking)) ≡ false → ⊥
all_fit epochs p unlocking h f =
    true≢false (sym (all_each (λ k. is_accepted (drawn_in p (get_or epochs k 0) unlocking)) (length epochs) h) ∙ f)

-- the epochs being words; a span may be told by other bounds that come to the same in the events met
pub span_of_fixes : (epochs : List ℕ) → ((k : ℕ) → k < length epochs → get_or epochs k 0 < word) → (p : Position) (unlocking : ℕ) (a b : Option Span)
    → SpanOf epochs p unlocking a → SpanOf epochs p unlocking b → SameSpan epochs a b
span_of_fixes epochs h p unlocking (Some s) (Some t) x y = λ k l. let e = x k l (h k l) in let f = y k l (h k l) in cc
span_of_fixes epochs h p unlocking (Some s) None x y = all_fit epochs p unlocking (λ k l. ap is_accepted (x k l (h k l))) y
span_of_fixes epochs h p unlocking None (Some t) x y = all_fit epochs p unlocking (λ k l. ap is_accepted (y k l (h k l))) x
span_of_fixes epochs h p unlocking None None x y = tt

-- arrays of one length are the same
pub added_of_fixes : (epochs : List ℕ) (s : Span) (start a b : List ℕ) → length a ≡ length b
    → AddedOf epochs s start a → AddedOf epochs s start b → a ≡ b
added_of_fixes epochs s start a b e x y = ext_get_or 0 a b e (λ k l. x k ∙ sym (y k))

-- and so are the amounts and the read count
pub walked_fixes : (n : Newest) (s : Span) (start a b : EventAmounts) → length a.amounts ≡ length b.amounts → Walked n s start a → Walked n s start b → a ≡ b
walked_fixes n s start a b e x y =
    let amounts = added_of_fixes (epochs_of n) s start.amounts a.amounts b.amounts e x.amounts y.amounts in
    let reads : a.reads ≡ b.reads = x.reads ∙ sym y.reads in
    λ i. record { amounts = amounts i; reads = reads i }
