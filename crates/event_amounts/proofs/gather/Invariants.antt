use Rattle.image.specs.Pool.{words_of}
use Rattle.event_amounts.proofs.ItemLaws.{Kept}
use Rattle.event_amounts.proofs.gather.Given as goal

abbrev pub invariant-loop-position : goal.invariant-loop-position
invariant-loop-position g l =
    Kept g.T.AsPosition.as_position l.positions l.pool.e (words_of l.pool) l.publisher l.from_epoch l.unlocking_duration l.position-index l.drawn l.gathered
