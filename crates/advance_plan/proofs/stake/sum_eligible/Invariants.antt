use Rattle.std.proofs.Common.{◌≡◌, ℕ, ◌≤◌, length, get_or}
use Rattle.types.specs.Wide.{wide_of}
use Rattle.image.specs.Pool.{words_of}
use Rattle.advance_plan.proofs.StakeLaws.{Summed}
use Rattle.advance_plan.proofs.stake.sum_eligible.Given as goal

abbrev pub invariant-loop-s : goal.invariant-loop-s
invariant-loop-s g l = record {
  first_high : l.first_sum.hi ≤ l.s;
  later_high : l.later_sum.hi ≤ l.s;
  first_long : length l.table.first_shares ≡ g.row.P;
  later_long : length l.table.later_shares ≡ g.row.P;
  caps : l.table.caps ≡ l.initial.table.caps;
  summed : Summed (words_of l.pool) (λ (s : ℕ). get_or l.initial.table.caps s 0) l.s l.table (wide_of l.first_sum) (wide_of l.later_sum);
}
