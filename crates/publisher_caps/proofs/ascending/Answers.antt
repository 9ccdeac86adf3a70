use mathlib.Core.Path.{sym, ◌∙◌}
use mathlib.Core.List.{[]}
use native.Mathlib.Omega.{arith}
use borrow.Author.Tests.{ltb-true}
use Rattle.publisher_caps.proofs.RowLaws.{key_read, climbs_more}
use Rattle.publisher_caps.proofs.ascending.Goals as goal

pub loop-row-preserved : goal.loop-row-preserved
loop-row-preserved c =
    let read = key_read _ _ _ _ [] c.rows_in-row-items.ensures.rows (omega (arith, c.loop-row-test.true, c.rows_in-row-items.ensures.count)) in
    let above = ltb-true _ _ (sym c.rises.ensures ∙ c.if-not-rises.false) in
    let more = climbs_more _ _ _ c.loop-row.invariant.climbs (omega (arith, above, c.loop-row.invariant.key)) read in
    record { key = more.0; first = c.be64-first.ensures; climbs = more.1 }
