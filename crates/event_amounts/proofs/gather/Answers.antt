use mathlib.Core.Path.{sym, ◌∙◌}
use mathlib.Core.Logic.{inl, inr}
use Rattle.std.proofs.Common.{arith}
use Rattle.event_amounts.proofs.ItemLaws.{kept_start, kept_end, kept_reads, kept_other, kept_unfit, kept_room, kept_walked, kept_past}
use Rattle.event_amounts.proofs.gather.Goals as goal
use Rattle.event_amounts.proofs.gather.Goals.{in-Some, in-None+else-not-has_room}

pub loop-position-init : goal.loop-position-init
loop-position-init g c = kept_start _ _ _ _ _ _ _ _ c.new-gathered.ensures

pub loop-position-preserved-then-not-in_publisher : goal.loop-position-preserved-then-not-in_publisher
loop-position-preserved-then-not-in_publisher g c =
    kept_other c.loop-position.invariant _ c.position-item.is c.loop-position-test.true c.if-not-in_publisher.ensures

pub returns-in_err-span : goal.returns-in_err-span
returns-in_err-span g c =
    rw c.from_residual.ensures
    (kept_unfit c.loop-position.invariant _ c.position-item.is c.loop-position-test.true _ c.position.ensures _ c.read_newest-newest.ensures
    c.if-not-in_publisher.ensures c.in_err-span.ensures.draws)

pub returns-then-not-has_room : goal.returns-then-not-has_room
returns-then-not-has_room g c =
    kept_past c.loop-position.invariant _ c.position-item.is c.loop-position-test.true _ c.position.ensures _ c.read_newest-newest.ensures
    c.if-not-in_publisher.ensures _ c.in_ok-span.ensures.draws (sym c.has_room.ensures ∙ c.if-not-has_room.true)

pub walk-requires-clause-room : goal.walk-requires-clause-room
walk-requires-clause-room g c =
    elim c.match-checked_add.branch [
      | in-Some w ↦
          kept_room c.loop-position.invariant _ c.position-item.is c.loop-position-test.true _ c.position.ensures _ c.read_newest-newest.ensures
          c.if-not-in_publisher.ensures _ c.in_ok-span.ensures.draws _ w.in-Some.ensures.1 (omega (arith, w.in-Some.ensures))
      | in-None+else-not-has_room w ↦ sym w.has_room.ensures ∙ w.if-not-has_room.false
    ]

pub walk-requires-clause-reads : goal.walk-requires-clause-reads
walk-requires-clause-reads g c = kept_reads c.loop-position.invariant _ c.read_newest-newest.ensures (omega arith)

pub loop-position-preserved : goal.loop-position-preserved
loop-position-preserved g c =
    kept_walked c.loop-position.invariant _ c.position-item.is c.loop-position-test.true _ c.position.ensures _ c.read_newest-newest.ensures
    c.if-not-in_publisher.ensures _ c.in_ok-span.ensures.draws _ _
    (elim c.match-checked_add.branch [ in-Some w ↦ inl (w.drawn-is ∙ w.in-Some.ensures.1) | in-None+else-not-has_room w ↦ inr w.drawn-is ])
    c.walk.ensures

pub returns : goal.returns
returns g c = kept_end c.loop-position.invariant (omega arith) (omega arith)
