use Rattle.image.specs.Pool.{words_of}
use Rattle.advance_plan.proofs.StakeLaws.{both_roll}
use Rattle.advance_plan.proofs.stake.eligible_at_seat.Goals as goal

pub returns : goal.returns
returns c =
    both_roll (words_of c.args.pool) _ _ _ _ c.side-self_side.ensures c.side-other_side.ensures _ c.in_ok-self_next.ensures _ c.in_ok-other_next.ensures
    _ _ c.seat_eligible.ensures c.seat_eligible-2.ensures
