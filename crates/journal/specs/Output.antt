-- Standard output's buffer. Assumes nothing.
use Rattle.std.specs.Prelude.{ℕ, List, take}
use Rattle.journal.specs.declared.output.Pen.{Pen}

-- the bytes that wait to be written
abbrev pub waiting : Pen → List ℕ
waiting pen = take pen.at pen.buffer
