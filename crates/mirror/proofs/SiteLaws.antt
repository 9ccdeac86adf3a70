-- The place of an image's next word other than 0, and zeros put behind zeros. Assumes nothing.
use mathlib.Core.Bool.{true≢false}
use Rattle.std.proofs.Common.{◌≡◌, ℕ, ◌+◌, ◌-◌, ◌≤◌, List, length, drop, get_or, ◌++◌, Option, Some, Result, Ok, Err, Bool, not, eqb}
use Rattle.std.proofs.Common.{arith, append_assoc, length-append, length-drop, refl, ap, sym, ◌∙◌}
use Rattle.std.proofs.lemmas.Bool.Decides.{nat_tests}
use Rattle.std.proofs.lemmas.Iterator.Consumers.{nth_from_yields_List}
use Rattle.std.proofs.lemmas.List.{get_or-drop, length-replicate, replicate-append-replicate}
use Rattle.std.proofs.lemmas.List.Sums.{fails_before_first, passes_at_first}
use Rattle.std.proofs.lemmas.Option.{slice_get_within}
use Rattle.std.specs.List.{position}
use Rattle.std.specs.Prelude.{unwrap_or, replicate, IsOk, OnOk, ◌↔◌}
use Rattle.mirror.specs.Site.{NextNonzero}

abbrev pub is_nonzero : ℕ → Bool
is_nonzero w = not (eqb w 0)

-- a word of the image by its place in the rest
at_rest : (image : List ℕ) (from k : ℕ) → from ≤ k → get_or image k 0 ≡ get_or (drop from image) (k - from) 0
at_rest image from k h = grind (arith, get_or-drop)

-- the next word's place in the rest, or the rest's length, counts from where the rest begins
pub position_is_next : (image rest : List ℕ) (from : ℕ) → from ≤ length image → rest ≡ drop from image
    → NextNonzero image from (from + unwrap_or (position is_nonzero rest) (length rest))
position_is_next image rest from h e =
    grind (arith, nat_tests, at_rest image from, fails_before_first, passes_at_first is_nonzero rest 0, length-drop)

-- zeros behind a list and zeros, where there is room for all
pub zeros_more : {E : Type 0} (old now part more : List ℕ) (n m room : ℕ) (r : Result (Unit {0}) E) → now ≡ old ++ replicate n 0 → part ≡ replicate m 0
    → length old + (n + m) ≤ room → (IsOk r ↔ (length now + length part ≤ room)) → OnOk r (more ≡ now ++ part) → more ≡ old ++ replicate (n + m) 0
zeros_more old now part more n m room (Ok u) zeros last h fits ok =
    ok ∙ rw (zeros, last, append_assoc old (replicate n 0) (replicate m 0), replicate-append-replicate {A = ℕ} n m 0) refl
zeros_more old now part more n m room (Err e) zeros last h fits ok =
    absurd (true≢false (sym (fits.1 (omega (
      arith,
      ap length zeros,
      ap length last,
      length-append old (replicate n 0),
      length-replicate {A = ℕ} n 0,
      length-replicate {A = ℕ} m 0,
    )))))
