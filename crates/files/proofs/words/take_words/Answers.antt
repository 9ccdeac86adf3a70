-- `files::words::take_words` meets its contract. Assumes nothing.
use Rattle.std.proofs.Common.{refl, arith}
use Rattle.files.specs.Words.{words_of}
use Rattle.files.proofs.WordsLaws.{words_more}
use Rattle.files.proofs.words.take_words.Goals as goal

pub loop-i-init : goal.loop-i-init
unfolding words_of
loop-i-init c = refl

pub loop-i-preserved : goal.loop-i-preserved
loop-i-preserved c =
    let front = c.as_chunks.ensures.front in
    words_more c.args.s.now c.loop-i.out c.as_chunks.result.0.now _ c.loop-i.i c.from_le_bytes.result _ c.loop-i.invariant front (omega (arith, c.as_chunks.ensures.front_len)) (omega (arith, c.as_chunks.ensures.front_len)) c.from_le_bytes.ensures
