-- `files::write::save_all`: a part has as many words as go at once.
use Rattle.std.proofs.Common.{◌≡◌}
use Rattle.std.specs.Slice.Iter.{chunks_size}
use Rattle.files.proofs.write.save_all.Given as goal

abbrev pub invariant-loop-part : goal.invariant-loop-part
invariant-loop-part g l = chunks_size l.part-iterator ≡ 8192
