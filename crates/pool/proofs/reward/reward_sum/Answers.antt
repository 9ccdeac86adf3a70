use Rattle.std.proofs.Common.{rules}
use mathlib.Core.Path.{sym, ap, ◌∙◌}
use Prim.Native.Nat.{ℕ, ◌%◌}
use native.Mathlib.Nat.{mod-lt, sub-zero}
use Rattle.std.proofs.lemmas.Result.{err_from_is_err_and}
use Rattle.types.specs.Base.{outcome_by}
use Rattle.event.specs.Event.{parts_as}
use Rattle.image.specs.Pool.{words_of}
use Rattle.event_walk.proofs.WalkLaws.{slot_from, before_lt}
use Rattle.pool.proofs.RewardLaws.{Turn, turn, sum_13_sums, summed_none, summed_more, sum_13_slot, slot_refused}
use Rattle.pool.proofs.reward.reward_sum.Goals as goal
use Rattle.pool.proofs.reward.reward_sum.Goals.{After-slot_reward}

pub loop-amount-init : goal.loop-amount-init
unfolding slot_from
loop-amount-init c =
    (mod-lt _ c.args.pool.sized.e_low, ap (λ (n : ℕ). n % c.args.pool.e) (c.num_events.ensures ∙ sym (sub-zero _)), summed_none _)

-- of the turn whose slot's reward was worked out, on which four of the goals rest
here : (c : After-slot_reward) → Turn c.args.pool.e (words_of c.args.pool) c.args.s c.args.is_publisher c.args.amounts.now c.loop-amount.amount-index
    c.slot_before-slot.result (outcome_by parts_as c.slot_reward.result)
here c =
    turn c.walk_length.ensures.steps c.loop-amount-test.true c.loop-amount.invariant.1 c.slot_before-slot.ensures c.slot_reward.ensures
    c.args.pool.sized.e_low

pub returns-in_err-reward : goal.returns-in_err-reward
returns-in_err-reward c =
    let p = err_from_is_err_and c.from_residual.result c.from_residual.ensures.1 in
    let t = here (goal.at.returns-in_err-reward c).After-slot_reward in
    let r = t.earns ∙ ap (outcome_by parts_as) c.in_err-reward.was in
    rw (p.1, p.2, slot_refused _ _ _ _ _ _ _ r) (sum_13_slot _ _ _ _ t.within r)

pub returns-in_err-sum : goal.returns-in_err-sum
returns-in_err-sum c =
    let t = here (goal.at.returns-in_err-sum c).After-slot_reward in
    let past = sum_13_sums _ _ _ _ _ _ _ t.within c.loop-amount.invariant.2 (t.earns ∙ ap (outcome_by parts_as) c.in_ok-reward.was) in
    search rules

pub returns-in_err-ok_or : goal.returns-in_err-ok_or
returns-in_err-ok_or c =
    let t = here (goal.at.returns-in_err-ok_or c).After-slot_reward in
    let past = sum_13_sums _ _ _ _ _ _ _ t.within c.loop-amount.invariant.2 (t.earns ∙ ap (outcome_by parts_as) c.in_ok-reward.was) in
    search rules

pub loop-amount-preserved : goal.loop-amount-preserved
loop-amount-preserved c =
    let t = here (goal.at.loop-amount-preserved c).After-slot_reward in (
      before_lt _ _ _ c.loop-amount.invariant.0 c.slot_before-slot.ensures,
      t.next,
      summed_more _ _ _ _ _ _ c.loop-amount.invariant.2 (t.earns ∙ ap (outcome_by parts_as) c.in_ok-reward.was) (search rules),
    )
