use Rattle.std.proofs.Common.{rules, ◌≡◌, ltb}
use Rattle.std.specs.List.{count_by}
use native.Mathlib.Omega.{arith}
use Rattle.split.proofs.ThresholdLaws.{larger_le, threshold_found}
use Rattle.split.proofs.Threshold.of.Goals as goal

pub overflow_sub-result : goal.overflow_sub-result
overflow_sub-result c =
    let s = c.select_nth_unstable-least in
    let e : c.count-larger.result ≡ count_by (λ r. ltb s.result.1.now r) s.result.2.now = search rules in
    rw e (larger_le _ _ _ _ _ _ c.requires.0 c.requires.1 (omega arith) s.ensures.permutation s.ensures.front_len s.ensures.partitioned)

pub returns : goal.returns
returns c =
    let s = c.select_nth_unstable-least in
    let e : c.count-larger.result ≡ count_by (λ r. ltb s.result.1.now r) s.result.2.now = search rules in
    rw e (threshold_found _ _ _ _ _ _ c.requires.0 c.requires.1 (omega arith) s.ensures.permutation s.ensures.front_len s.ensures.partitioned)
