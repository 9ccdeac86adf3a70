use Rattle.std.proofs.Common.{◌≤◌, refl, arith}
use Rattle.std.proofs.lemmas.Result.{err_from_is_err_and}
use Rattle.image.specs.Pool.{words_of}
use Rattle.image.proofs.SeatLaws.{seats_le}
use Rattle.advance_plan.proofs.PlanLaws.{sums_planned, all_worked}
use Rattle.advance_plan.proofs.plan.plan.Goals as goal

pub returns-in_err-y-clause-answer : goal.returns-in_err-y-clause-answer
returns-in_err-y-clause-answer g c =
    let p = err_from_is_err_and c.from_residual-in_err-y.result c.from_residual-in_err-y.ensures.1 in
    rw (p.1, p.2)
    (sums_planned _ _ _ _ _ c.last_updated_epoch-last.ensures c.publish_time.ensures c.in_ok-passed.ensures c.seats-seats.ensures
    c.match_rows-marks.ensures.matched c.in_ok-sums.ensures.sums c.over-sum.ensures c.num_events.ensures
    c.claimable_rewards-claimable.ensures c.in_err-y.ensures)

pub returns-clause-answer : goal.returns-clause-answer
returns-clause-answer g c =
    sums_planned _ _ _ _ _ c.last_updated_epoch-last.ensures c.publish_time.ensures c.in_ok-passed.ensures c.seats-seats.ensures
    c.match_rows-marks.ensures.matched c.in_ok-sums.ensures.sums c.over-sum.ensures c.num_events.ensures
    c.claimable_rewards-claimable.ensures c.in_ok-y.ensures

pub returns-clause-worked : goal.returns-clause-worked
returns-clause-worked g c =
    let a = c.args in
    let sums = c.in_ok-sums.ensures in
    let room : a.pool.p ≤ g.row.P = c.requires.room in
    all_worked a.every_rolled _ _ _ a.given c.last_updated_epoch-last.ensures c.publish_time.ensures c.in_ok-passed.ensures c.seats-seats.ensures
    c.match_rows-marks.ensures.matched sums.sums c.over-sum.ensures c.num_events.ensures
    c.claimable_rewards-claimable.ensures
    _ _ sums.shares (omega (arith, seats_le a.pool.p (words_of a.pool), c.seats-seats.ensures)) refl refl c.in_ok-y.ensures
