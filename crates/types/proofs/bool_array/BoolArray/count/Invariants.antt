use mathlib.Core.Path.{◌≡◌}
use Prim.Native.Nat.{◌*◌}
use Rattle.types.specs.Base.{count_below}
use Rattle.types.specs.BoolArray.{marked}
use Rattle.types.proofs.bool_array.BoolArray.count.Given as goal

abbrev pub invariant-loop-w : goal.invariant-loop-w
invariant-loop-w l = l.count ≡ count_below (l.w-index * 64) (marked l.self.words)
