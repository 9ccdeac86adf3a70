-- `files::words::take_words`: the words below the index are taken.
use Rattle.std.proofs.Common.{◌≡◌, take}
use Rattle.files.specs.Words.{words_of}
use Rattle.files.proofs.words.take_words.Given as goal

abbrev pub invariant-loop-i : goal.invariant-loop-i
invariant-loop-i l = take l.i l.out ≡ words_of l.s l.i
