use Rattle.std.proofs.Common.{◌-◌}
use Rattle.image.specs.Pool.{words_in, Becomes}
use Rattle.advance_write.proofs.RingLaws.{late_words}
use Rattle.advance_write.proofs.events.write_events.Given as goal

abbrev pub invariant-loop-k : goal.invariant-loop-k
invariant-loop-k g l = Becomes l.initial.pool l.pool (late_words l.initial.pool.e (words_in l.initial.pool) l.epochs l.seats l.table l.from (l.k - l.from))
