use native.Mathlib.Omega.{arith}
use Rattle.types.specs.Wide.{wide_of}
use Rattle.types.proofs.MulDivLaws.{by_halves}
use Rattle.types.proofs.wide.Wide.product.Goals as goal

pub returns : goal.returns
unfolding wide_of
returns c = omega (arith, by_halves c.args.a c.args.b)
