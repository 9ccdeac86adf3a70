use Rattle.journal.proofs.CallsLaws.{kind_is}
use Rattle.journal.proofs.calls.Call.kind.Goals as goal

pub returns : goal.returns
returns c =
    let h = c.in_ok-kind.ensures.lookup in kind_is c.fields.result.now c.args.self c.args.k c.in_ok-kind.field-0.now c.fields.ensures.fields h.3.0 h.1
