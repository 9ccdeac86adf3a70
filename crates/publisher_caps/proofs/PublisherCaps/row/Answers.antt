use Rattle.publisher_caps.proofs.RowLaws.{row_at}
use Rattle.publisher_caps.proofs.PublisherCaps.row.Goals as goal

pub returns : goal.returns
returns c = row_at c.args.self.now.message.now c.rows_in.result.now c.args.self.now.rows c.args.i _ c.rows_in.ensures.rows c.requires
