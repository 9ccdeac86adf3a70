-- Refusal 16 of a payment, only where what has been earned is above claimable. Assumes nothing.
use mathlib.Core.Path.{◌≡◌}
use mathlib.Core.Logic.{◌≢◌}
use mathlib.Core.Bool.{Bool, not}
use mathlib.Core.List.{List}
use Prim.Native.Nat.{ℕ, ◌+◌, ◌<◌}
use native.Mathlib.Omega.{arith}
use lib.Dec.{eqb}
use Rattle.std.proofs.lemmas.Grind.{common_steps}
use Rattle.types.specs.Base.{Outcome, refused, accepted}
use Rattle.types.specs.Refusals.{payment_above_claimable}
use Rattle.types.proofs.OutcomeLaws.{test_refused, then_refused}
use Rattle.positions.specs.declared.Key.{Key}
use Rattle.std.specs.Prelude.{Option, Some, None}
use Rattle.positions.specs.Positions.{positions_hold}
use Rattle.event.specs.Event.{Parts}
use Rattle.image.specs.Layout.{last_updated_epoch, claimable_rewards, head, Words, read}
use Rattle.image.specs.Seats.{checked_image, stake_account_at, publisher_index_of}
use Rattle.image.specs.Changes.{self_side}
use Rattle.pool.specs.Reward.{reward_sum, Earned, calculate_reward}
use Rattle.integrity_pool.specs.declared.payment.Claim.{Claim}
use Rattle.integrity_pool.specs.Payment.{custody_fall, pay_out, payment_at, payment_of, payment_call}

-- ---- the steps before and behind the test of 16 don't give it

index_not_16 : (P : ℕ) (w : Words) (publisher : Key) → publisher_index_of P w publisher ≢ refused payment_above_claimable
unfolding publisher_index_of
index_not_16 P w publisher e = grind (arith, common_steps)

sum_not_16 : (n : ℕ) (f : ℕ → Outcome Parts) → reward_sum n f ≢ refused payment_above_claimable
unfolding reward_sum
sum_not_16 n f e = grind (arith, common_steps)

reward_not_16 : (E : ℕ) (w : Words) (s : ℕ) (words : List ℕ) (publisher : Key) (from unlocking : ℕ) (self_side : Bool)
    → calculate_reward E w s words publisher from unlocking self_side ≢ refused payment_above_claimable
unfolding calculate_reward
reward_not_16 E w s words publisher from unlocking self_side e = grind (arith, common_steps, sum_not_16)

fall_not_16 : (stake_account : Key) (account : Option Key) (custody delegator both : ℕ)
    → custody_fall stake_account account custody delegator both ≢ refused payment_above_claimable
unfolding custody_fall
fall_not_16 stake_account (Some key) custody delegator both e = grind (arith, common_steps)
fall_not_16 stake_account None custody delegator both e = grind (arith, common_steps)

-- ---- 16 only by its test

pay_16_only : (claimable : ℕ) (stake_account : Key) (c : Claim) (r : Earned) → pay_out claimable stake_account c r ≡ refused payment_above_claimable
    → claimable < r.delegator + r.publisher
unfolding pay_out
pay_16_only claimable stake_account c r e = grind (arith, common_steps, fall_not_16)

-- the publisher's seat, and that what has been earned there is above claimable
pub record Above (P E : ℕ) (w : Words) (words : List ℕ) (c : Claim) : Type 0 where
  pub seat : ℕ
  pub found : publisher_index_of P w c.publisher ≡ accepted seat
  pub earned : Earned
  pub earns :
      calculate_reward E w seat words c.publisher c.delegation_record.last_epoch.0 c.unlocking_duration
      (self_side w seat c.stake_account_positions)
      ≡ accepted earned
  pub above : w (head claimable_rewards) < earned.delegator + earned.publisher

pub call_16_only : (P E : ℕ) (img words : List ℕ) (c : Claim) → payment_call P E img words c ≡ refused payment_above_claimable
    → Above P E (read P E img) words c
unfolding payment_call payment_of payment_at
call_16_only P E img words c e =
    let w = read P E img in
    let t0 = test_refused (not (checked_image P E img)) _ _ _ (λ q. omega arith) e in
    let t1 = test_refused (not (positions_hold words)) _ _ _ (λ q. omega arith) t0.1 in
    let s = then_refused (payment_at E w words c) (publisher_index_of P w c.publisher) _ (index_not_16 P w c.publisher) t1.1 in
    let t2 = test_refused (not (eqb (w (head last_updated_epoch)) c.current_epoch)) _ _ _ (λ q. omega arith) s.1.1 in
    let r = then_refused (pay_out (w (head claimable_rewards)) (stake_account_at w s.0) c) _ _ (reward_not_16 E w s.0 words c.publisher _ _ _) t2.1 in
    record { seat = s.0; found = s.1.0; earned = r.0; earns = r.1.0; above = pay_16_only _ _ c r.0 r.1.1 }
