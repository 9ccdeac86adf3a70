use mathlib.Core.Path.{ap, ◌∙◌}
use native.Mathlib.Omega.{arith}
use Rattle.publisher_caps.proofs.LookupLaws.{or_none, enclosed}
use Rattle.publisher_caps.proofs.PublisherCaps.search_from.Goals as goal

pub returns-then-encloses : goal.returns-then-encloses
returns-then-encloses c =
    let a = c.args.self.now in
    c.search.ensures
    ∙ ap or_none (enclosed _ a.whole _ _ _ c.args.key (c.encloses.ensures c.if-encloses.true) (omega arith) (omega arith) (omega arith) a.counted)
