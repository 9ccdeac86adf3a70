use Rattle.image.specs.Pool.{words_in, Becomes}
use Rattle.advance_write.specs.Sides.{rolled_words}
use Rattle.advance_write.proofs.sides.roll_sides.Given as goal

abbrev pub invariant-loop-s : goal.invariant-loop-s
invariant-loop-s l = Becomes l.initial.pool l.pool (rolled_words (words_in l.initial.pool) l.s)
