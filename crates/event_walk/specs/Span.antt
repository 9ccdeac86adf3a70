-- The epochs in which a position adds, as its walk uses them. Assumes nothing.
use Rattle.std.specs.Prelude.{◌≡◌, false, List, ℕ, ◌<◌, ◌≤◌, ltb, length, get_or, if◌then◌else◌, Option, Some, None}
use Rattle.types.specs.Base.{word, accepted, is_accepted, all_below}
use Rattle.positions.specs.declared.position.Position.{Position}
use Rattle.event_walk.specs.declared.span.Span.{Span}
use Rattle.event_walk.specs.Walk.{drawn_in}

-- what is added in an epoch: the amount from the first epoch to the last
unfoldable pub units_in : Span → (epoch : ℕ) → ℕ
units_in s epoch = if ltb epoch s.first then 0 else if ltb s.last epoch then 0 else s.amount

-- a span's first epoch is not behind its last
abbrev pub InOrder : Option Span → Type 0
InOrder (Some s) = s.first ≤ s.last
InOrder None = Unit {0}

-- what an answer says of the events that a walk meets, by their epochs: what is added in each, or that the state does not fit in one of them
abbrev pub SpanOf : (epochs : List ℕ) → Position → (unlocking : ℕ) → Option Span → Type 0
SpanOf epochs p unlocking (Some s) =
    (k : ℕ) → k < length epochs → get_or epochs k 0 < word
    → drawn_in p (get_or epochs k 0) unlocking ≡ accepted (units_in s (get_or epochs k 0))
SpanOf epochs p unlocking None = all_below (length epochs) (λ k. is_accepted (drawn_in p (get_or epochs k 0) unlocking)) ≡ false
