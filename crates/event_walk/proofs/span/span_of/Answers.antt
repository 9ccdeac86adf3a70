use Rattle.std.proofs.Common.{rules}
use Rattle.event_walk.proofs.SpanLaws.{span_refused}
use Rattle.event_walk.proofs.span.span_of.Goals as goal

pub returns-then-any : goal.returns-then-any
returns-then-any c = search (rules, span_refused)
