use mathlib.Core.Path.{ap, ◌∙◌}
use Rattle.std.specs.Int.{from_le_bytes, w64}
use Rattle.publisher_caps.proofs.KeyLaws.{little_word}
use Rattle.publisher_caps.proofs.RowLaws.{row_told}
use Rattle.publisher_caps.proofs.PublisherCaps.get_cap.Goals as goal

pub returns : goal.returns
returns c =
    let row = c.row-row.result.now in
    row_told c.args.self.now.message.now row c.args.i c.row-row.ensures _ _ _ _ _
    (c.from_le_bytes.ensures ∙ ap (from_le_bytes w64) c.bytes.ensures ∙ little_word row 0)
    (c.from_le_bytes-2.ensures ∙ ap (from_le_bytes w64) c.bytes-2.ensures ∙ little_word row 8)
    (c.from_le_bytes-3.ensures ∙ ap (from_le_bytes w64) c.bytes-3.ensures ∙ little_word row 16)
    (c.from_le_bytes-4.ensures ∙ ap (from_le_bytes w64) c.bytes-4.ensures ∙ little_word row 24)
    c.be64.ensures
