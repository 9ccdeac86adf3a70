use Rattle.advance_plan.proofs.RowLaws.{marked_le}
use Rattle.pool.proofs.AdvanceLaws.{seats_in, advance_done}
use Rattle.pool.proofs.advance.advance_in.Goals as goal

pub overflow_sub-pool : goal.overflow_sub-pool
overflow_sub-pool g c =
    let h = c.read.ensures in
    rw h.p at (seats_in c.in_ok-plan.ensures.worked)

pub row_counts-counts-requires : goal.row_counts-counts-requires
row_counts-counts-requires g c = rw c.num_publishers.ensures (marked_le c.in_ok-plan.ensures.worked c.args.caps.whole)

pub returns : goal.returns
returns g c =
    let h = c.read.ensures in
    advance_done _ _ _ _ _ (rw (h.words, h.p, h.e) at c.in_ok-plan.ensures.worked) c.args.caps.whole
    (rw (h.words, h.p, h.e) at c.in_ok-plan.ensures.answer) _ (rw c.num_publishers.ensures at c.row_counts-counts.ensures) _ c.write_advance.ensures
