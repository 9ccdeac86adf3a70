-- Lists of bytes, and their items between separators. Assumes nothing.
use Rattle.std.specs.Prelude.{ℕ, ◌+◌, ◌<◌, ◌≤◌, ◌≡◌, List, eqb, length, get_or, Option, MatchOption}
use Rattle.std.specs.List.{slice_split}

-- the items of a list, one more than it has separators b
abbrev pub items : (b : ℕ) → List ℕ → List (List ℕ)
items b s = slice_split (λ x. eqb x b) s

-- no separator b stands in a list from place i on
abbrev pub NoneFrom : (b : ℕ) → List ℕ → (i : ℕ) → Type 0
NoneFrom b s i = (k : ℕ) → i ≤ k → k < length s → get_or s k 0 ≡ b → ⊥

-- the last separator b stands at the place r, if there is one
abbrev pub Last : (b : ℕ) → List ℕ → Option ℕ → Type 0
Last b s r = MatchOption r (NoneFrom b s 0) (λ at. (at < length s) × (get_or s at 0 ≡ b) × NoneFrom b s (at + 1))
