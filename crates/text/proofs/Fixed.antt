-- A list has one last separator. Assumes nothing.
use Rattle.std.proofs.Common.{◌≡◌, ℕ, List, refl, ap, arith, Option, None, Some}
use Rattle.text.specs.Items.{Last}

-- two places of the last separator are the same
pub last_fixes : (b : ℕ) (s : List ℕ) (r q : Option ℕ) → Last b s r → Last b s q → r ≡ q
last_fixes b s None None x y = refl
last_fixes b s None (Some q) x y = absurd (x q (omega arith) y.0 y.1)
last_fixes b s (Some r) None x y = absurd (y r (omega arith) x.0 x.1)
last_fixes b s (Some r) (Some q) x y = ap Some (grind (arith, x.2 q, y.2 r))
