use Rattle.journal.proofs.FieldsLaws.{list_read}
use Rattle.journal.specs.Fields.{part_of, parted}
use Rattle.journal.proofs.fields.list.Goals as goal

pub returns-then-whole : goal.returns-then-whole
unfolding part_of parted
returns-then-whole c = list_read _ _ _ _ _ (rw c.if-whole.true c.list.ensures.count) (rw c.if-whole.true c.list.ensures.image)

pub returns : goal.returns
unfolding part_of parted
returns c = list_read _ _ _ _ _ (rw c.if-whole.false c.words.ensures.count) (rw c.if-whole.false c.words.ensures.image)
