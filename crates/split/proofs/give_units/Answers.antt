use Rattle.split.proofs.UnitLaws.{giving_more}
use Rattle.split.proofs.give_units.Goals as goal

pub loop-k-preserved : goal.loop-k-preserved
loop-k-preserved c = giving_more _ _ _ _ _ _ c.loop-k.invariant c.loop-k-test.true _ _ c.from.ensures c.from-units.ensures
