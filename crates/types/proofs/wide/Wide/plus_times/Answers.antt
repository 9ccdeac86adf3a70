use native.Mathlib.Omega.{arith}
use Rattle.types.specs.Wide.{wide_of}
use Rattle.types.proofs.WideLaws.{past_product}
use Rattle.types.proofs.wide.Wide.plus_times.Goals as goal

pub returns-then-more-ne0 : goal.returns-then-more-ne0
unfolding wide_of
returns-then-more-ne0 c =
    past_product c.args.self c.args.k c.args.b (omega arith) (omega arith) c.product-more.result c.product-more.ensures c.if-more-ne0.true
