use mathlib.Core.Path.{ap, ◌∙◌}
use Prim.Native.Nat.{ℕ, ◌*◌, ◌/◌}
use Rattle.std.specs.Int.{from_be_bytes, w16}
use Rattle.publisher_caps.proofs.KeyLaws.{big_half}
use Rattle.publisher_caps.proofs.RowLaws.{row_half}
use Rattle.publisher_caps.proofs.PublisherCaps.row_part.Goals as goal

pub returns-clause-part : goal.returns-clause-part
returns-clause-part c =
    c.part_of.ensures.part
    ∙ ap (λ (n : ℕ). n * c.args.parts / 0x1_0000)
    (row_half c.args.self.now.message.now c.row.result.now c.args.i c.row.ensures _
    (c.from_be_bytes.ensures ∙ ap (from_be_bytes w16) c.bytes.ensures ∙ big_half c.row.result.now 0))
