-- `files::words::give_words`: the bytes of the words below the index are given.
use Rattle.std.proofs.Common.{◌≡◌, ◌*◌, take}
use Rattle.files.specs.Words.{bytes_of}
use Rattle.files.proofs.words.give_words.Given as goal

abbrev pub invariant-loop-i : goal.invariant-loop-i
invariant-loop-i l = take (l.i * 8) l.out ≡ bytes_of l.words l.i
