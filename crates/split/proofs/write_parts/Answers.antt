use Rattle.split.proofs.StepLaws.{room}
use Rattle.split.proofs.write_parts.Goals as goal

pub give_units-requires-clause-room : goal.give_units-requires-clause-room
give_units-requires-clause-room c = room _ _ _ _ _ _ _ c.requires c.write_floors-left.ensures c.ranges.reward.fits c.if-left-gt0.true
