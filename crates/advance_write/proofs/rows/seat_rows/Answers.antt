use Rattle.std.proofs.Common.{ap, arith, rules, tests}
use Rattle.types.specs.BoolArray.{marked}
use Rattle.publisher_caps.specs.declared.PublisherCap.{PublisherCap}
use Rattle.image.proofs.PoolLaws.{becomes_as}
use Rattle.advance_write.proofs.RowLaws.{pairs_go, rows_road, RowTurn, row_turn}
use Rattle.advance_write.proofs.rows.seat_rows.Goals as goal
use Rattle.advance_write.proofs.rows.seat_rows.Goals.{After-next}

-- of the item that a call of `next` gave, on which three of the goals rest
turn : (c : After-next) → RowTurn c.args.seats c.args.pool.now.p c.args.caps.rows (marked c.args.marks.now.words) c.loop-place.yielded c.next.result
turn c =
    let z = c.zip-place-items.ensures in
    let f = c.filter-unmatched.ensures in
    row_turn
    (rows_road _ _ _ _ (marked c.args.marks.now.words) c.into_iter-place-iterator.ensures.into_iter_gives z.first z.second f.source f.closure
    (λ x b q k. search (rules, tests)))
    c.requires c.loop-place.yielded_by c.next.ensures.steps

pub get_cap-requires : goal.get_cap-requires
get_cap-requires c = ((turn (goal.at.get_cap-requires c).After-next).within c.in-Some.is).1

pub set_publisher-requires : goal.set_publisher-requires
set_publisher-requires c = omega (arith, (turn (goal.at.set_publisher-requires c).After-next).within c.in-Some.is, c.loop-place.invariant.p)

pub loop-place-preserved : goal.loop-place-preserved
loop-place-preserved c =
    pairs_go c.args.pool.now c.args.caps.message.now _ _ c.loop-place.yielded _ _ _ c.loop-place.invariant
    (ap (λ (x : PublisherCap). x.pubkey) c.get_cap.ensures) c.set_publisher.ensures

pub returns : goal.returns
returns c = becomes_as c.args.pool.now c.loop-place.pool _ c.loop-place.invariant _ ((turn (goal.at.returns c).After-next).ended c.in-None.is _ _ _)
