use Rattle.std.proofs.Common.{rules}
use Rattle.journal.proofs.FieldsLaws.{message_dash, message_read}
use Rattle.journal.proofs.fields.message.Goals as goal

pub returns-then-eq : goal.returns-then-eq
returns-then-eq c = message_dash _ _ (search rules)

pub returns : goal.returns
returns c = message_read _ _ _ _ _ (search rules) c.bytes.ensures.count c.bytes.ensures.image c.ok_or.ensures.value
