use Rattle.show.proofs.CellsLaws.{four_bytes_text}
use Rattle.show.proofs.cells.FourBytesDisplay.fmt.Goals as goal

pub unreachable-requires : goal.unreachable-requires
unreachable-requires g c = c.in_default.ensures.cases.0 (rw c.four_bytes-digits.ensures (four_bytes_text c.args.self.now.0))
