use native.Mathlib.Omega.{arith}
use borrow.Author.Tests.{ltb-true}
use Rattle.publisher_caps.proofs.LookupLaws.{above_front}
use Rattle.publisher_caps.proofs.PublisherCaps.above_front.Goals as goal

pub returns-else-low-eq0 : goal.returns-else-low-eq0
returns-else-low-eq0 c =
    let caps = c.args.self.now in
    λ t. above_front _ caps.whole _ _ _ _ c.if-low-eq0.false c.requires caps.counted c.key.ensures (omega arith) (omega arith) (omega arith) (ltb-true _ _ t)
