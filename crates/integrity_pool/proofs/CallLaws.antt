-- What the proofs of the calls open, and what a refused advance leaves. Assumes nothing.
use mathlib.Core.Path.{◌≡◌}
use mathlib.Core.List.{List}
use Prim.Native.Nat.{ℕ}
use Rattle.std.proofs.Common.{arith}
use Rattle.std.proofs.lemmas.Grind.{common_steps}
use Rattle.types.specs.Base.{refused, accepted}
use Rattle.types.specs.Base.{acceptance}
use Rattle.image.specs.Changes.{changed_image}
use Rattle.advance_plan.specs.declared.Given.{Given}
use Rattle.integrity_pool.specs.Calls.{checked_then, advance_call, advance_image}
use Rattle.integrity_pool.specs.Changes.{checked_image_then}

-- of a change after the check of the pool
unfoldable pub changes : Unit {0}
unfolding checked_image_then changed_image acceptance
changes = tt

-- what the checks refuse leaves the image
pub refused_leaves : (P E : ℕ) (img m : List ℕ) (g : Given) (k : ℕ) → refused k ≡ checked_then P E img m g (accepted m)
    → img ≡ advance_image P E img m g
unfolding checked_then advance_call advance_image
refused_leaves P E img m g k e = grind (arith, common_steps)
