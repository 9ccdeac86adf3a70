-- `files::words::give_words` meets its contract. Assumes nothing.
use Rattle.std.proofs.Common.{refl, arith, ◌∙◌}
use Rattle.files.specs.Words.{bytes_of}
use Rattle.files.proofs.WordsLaws.{bytes_more}
use Rattle.files.proofs.words.give_words.Goals as goal

pub loop-i-init : goal.loop-i-init
unfolding bytes_of
loop-i-init c = refl

pub loop-i-preserved : goal.loop-i-preserved
loop-i-preserved c =
    bytes_more c.args.words.now c.loop-i.out c.copy_from_slice.new.self c.loop-i.i _ c.loop-i.invariant (omega arith) (omega arith)
    (c.copy_from_slice.ensures.after ∙ c.to_le_bytes.ensures)
