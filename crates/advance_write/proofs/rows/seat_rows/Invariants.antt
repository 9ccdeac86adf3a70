use Rattle.image.specs.Pool.{words_in, Becomes}
use Rattle.advance_write.proofs.RowLaws.{paired_words}
use Rattle.advance_write.proofs.rows.seat_rows.Given as goal

abbrev pub invariant-loop-place : goal.invariant-loop-place
invariant-loop-place l = Becomes l.initial.pool l.pool (paired_words (words_in l.initial.pool) l.caps.message.now l.yielded)
