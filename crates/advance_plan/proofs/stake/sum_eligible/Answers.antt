use Rattle.std.proofs.Common.{◌≡◌, ℕ, ◌<◌, ◌≤◌, List, length, get_or, set, refl, ap, ◌∙◌, arith, rules, length-set}
use Rattle.std.proofs.lemmas.Result.{err_from_is_err_and}
use Rattle.types.specs.Wide.{wide_of}
use Rattle.image.specs.Layout.{Words}
use Rattle.image.specs.Pool.{words_of}
use Rattle.advance_plan.specs.Stake.{seat_epochs}
use Rattle.advance_plan.proofs.StakeLaws.{summed_none, summed_more, sums_done, sums_not}
use Rattle.advance_plan.proofs.stake.sum_eligible.Goals as goal

-- the caps of a table that are not changed give a seat what they gave
same_caps : (w : Words) (s : ℕ) (caps old : List ℕ) → caps ≡ old → seat_epochs w (get_or caps s 0) s ≡ seat_epochs w (get_or old s 0) s
same_caps w s caps old e = ap (λ (l : List ℕ). seat_epochs w (get_or l s 0) s) e

pub loop-s-init : goal.loop-s-init
unfolding wide_of
loop-s-init g c = record {
  first_high = omega arith;
  later_high = omega arith;
  first_long = search rules;
  later_long = search rules;
  caps = refl;
  summed = let a = c.default-first_sum.ensures in let b = c.default-later_sum.ensures in rw (a.0, a.1, b.0, b.1) (summed_none _ _ _);
}

pub returns-in_err-seat-clause-sums : goal.returns-in_err-seat-clause-sums
returns-in_err-seat-clause-sums g c =
    let at = c.loop-s in
    let p = err_from_is_err_and c.from_residual.result c.from_residual.ensures.1 in
    rw (p.1, p.2)
    (sums_not (words_of c.args.pool) (λ (s : ℕ). get_or c.args.table.now.caps s 0) c.args.seats at.s _ c.loop-s-test.true
    (c.in_err-seat.ensures ∙ same_caps _ _ _ _ at.invariant.caps))

pub loop-s-preserved : goal.loop-s-preserved
loop-s-preserved g c =
    let at = c.loop-s in
    let within : at.s < c.args.seats = c.loop-s-test.true in
    let room : c.args.pool.p ≤ g.row.P = c.requires.room in
    let seats : c.args.seats ≤ c.args.pool.p = c.requires.seats in
    let first_long : length at.table.first_shares ≡ g.row.P = at.invariant.first_long in
    let later_long : length at.table.later_shares ≡ g.row.P = at.invariant.later_long in
    record {
      first_high = omega (arith, at.invariant.first_high, c.plus-first_sum.ensures.1);
      later_high = omega (arith, at.invariant.later_high, c.plus-later_sum.ensures.1);
      first_long = simp length-set first_long;
      later_long = simp length-set later_long;
      caps = at.invariant.caps;
      summed =
          summed_more (words_of c.args.pool) (λ (s : ℕ). get_or c.args.table.now.caps s 0) at.s at.table _ _ _ at.invariant.summed c.in_ok-seat.seat
          (c.in_ok-seat.ensures ∙ same_caps _ _ _ _ at.invariant.caps) _ _ _ c.plus-first_sum.ensures.0 c.plus-later_sum.ensures.0
          c.delegation_fee-fee.ensures (omega arith) (omega arith)
          (ap (set at.table.first_shares at.s) c.shares.ensures) (ap (set at.table.later_shares at.s) c.shares-in-loop-s.ensures);
    }

pub returns-clause-sums : goal.returns-clause-sums
returns-clause-sums g c = let at = c.loop-s in sums_done _ _ _ _ at.table _ _ (omega arith) at.invariant.summed
