use Rattle.std.proofs.Common.{arith}
use Rattle.advance_write.proofs.SidesLaws.{rolls_go}
use Rattle.advance_write.proofs.sides.roll_sides.Goals as goal

pub loop-s-preserved : goal.loop-s-preserved
loop-s-preserved c = rolls_go _ _ _ c.loop-s.invariant (omega (arith, c.requires.seats)) _ c.roll_seat.ensures
