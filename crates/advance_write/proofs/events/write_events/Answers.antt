use Rattle.std.proofs.Common.{arith}
use Rattle.advance_write.proofs.RingLaws.{late_goes, late_ends}
use Rattle.advance_write.proofs.events.write_events.Goals as goal

pub loop-k-preserved : goal.loop-k-preserved
loop-k-preserved g c = late_goes _ _ _ _ _ _ _ c.loop-k.invariant _ (omega arith) c.write_epoch.ensures

pub returns : goal.returns
returns g c = late_ends _ _ _ _ _ _ _ c.loop-k.invariant (omega arith) (omega arith)
