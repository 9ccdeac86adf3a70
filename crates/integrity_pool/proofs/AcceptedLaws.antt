-- What an accepted call tells: each test on the way to it passed. Assumes nothing.
use mathlib.Core.Path.{◌≡◌}
use mathlib.Core.Bool.{true}
use mathlib.Core.List.{List}
use Prim.Native.Nat.{ℕ, ◌+◌, ◌/◌, ◌≤◌, ◌<◌, max}
use native.Mathlib.Omega.{arith}
use Rattle.std.proofs.lemmas.Grind.{common_steps}
use Rattle.types.specs.Base.{word, half, Outcome, accepted, all_below}
use Rattle.types.proofs.OutcomeLaws.{map_accepted}
use Rattle.publisher_caps.specs.Message.{time_of, message_holds}
use Rattle.event.specs.Adjust.{Adjustment, adjust_of}
use Rattle.event.proofs.AdjustLaws.{adjust_keeps}
use Rattle.image.specs.Layout.{last_updated_epoch, claimable_rewards, num_events, head, Words, read}
use Rattle.image.specs.Seats.{Sized, seats_of}
use Rattle.image.proofs.SeatLaws.{sized_says, checked_says}
use Rattle.advance_plan.specs.declared.Given.{Given}
use Rattle.advance_plan.specs.Advance.{Advanced, seat_cap, seat_rolls, eligible_sum, passed_of, adjustment_of, answer_with, advance_of}
use Rattle.integrity_pool.specs.Calls.{fresh_call, checked_then, advance_call}

module _ (P E : ℕ) (img : List ℕ) where
  pub fresh_accepted : (given : ℕ) → fresh_call P E img given ≡ accepted tt → Sized img P E × (1 ≤ given)
  unfolding fresh_call
  fresh_accepted given e = (sized_says P E img (grind (arith, common_steps)), grind (arith, common_steps))

-- of an adjustment: refusals 7, 8, 13 for a negative time, 9, other 13 were not given, and y was adjusted
pub record Adjusts (P : ℕ) (w : Words) (m : List ℕ) (g : Given) (sum : ℕ) (r : Adjustment) : Type 0 where
  pub verified : g.is_verified ≡ 1
  pub later : w (head last_updated_epoch) < g.current_epoch
  pub time : time_of m < half
  pub current : g.current_epoch ≡ time_of m / g.epoch_duration
  pub rolls : all_below (seats_of P w) (seat_rolls w) ≡ true
  pub sum_fits : sum < word
  pub count_fits : w (head num_events) + passed_of w g < half
  pub adjusted : adjust_of sum g.y (w (head claimable_rewards)) g.pool_reward_custody_balance ≡ accepted r

pub adjustment_accepted : (P : ℕ) (w : Words) (m : List ℕ) (g : Given) (sum : ℕ) (r : Adjustment) → adjustment_of P w m g sum ≡ accepted r
    → Adjusts P w m g sum r
unfolding adjustment_of
adjustment_accepted P w m g sum r e = record {
  verified = grind (arith, common_steps);
  later = grind (arith, common_steps);
  time = grind (arith, common_steps);
  current = grind (arith, common_steps);
  rolls = grind (arith, common_steps);
  sum_fits = grind (arith, common_steps);
  count_fits = grind (arith, common_steps);
  adjusted = grind (arith, common_steps);
}

-- of the checks ahead of it: refusals 1, 2, 3, 5 were not given
pub record Checked (P E : ℕ) (img m : List ℕ) (g : Given) : Type 0 where
  pub sized : Sized img P E
  pub count : read P E img (head num_events) < half
  pub seconds : 1 ≤ g.epoch_duration
  pub message : message_holds m ≡ true
  pub y_le : g.y ≤ 10_000

-- document 01's T
abbrev pub total_eligible : (P : ℕ) → Words → List ℕ → Given → ℕ
total_eligible P w m g = eligible_sum w (seat_cap w m) (seats_of P w) (passed_of w g)

-- an accepted advance: what its checks and its adjustment tell, and its answer
pub record Accepted (P E : ℕ) (img m : List ℕ) (g : Given) (a : Advanced) : Type 0 where
  pub checked : Checked P E img m g
  pub adjustment : Adjustment
  pub adjusts : Adjusts P (read P E img) m g (total_eligible P (read P E img) m g) adjustment
  pub answer : a ≡ answer_with P (read P E img) m adjustment

module _ (P E : ℕ) (img m : List ℕ) (g : Given) where
  pub then_accepted : {A : Type 0} (rest : Outcome A) (a : A) → checked_then P E img m g rest ≡ accepted a → Checked P E img m g × (rest ≡ accepted a)
  unfolding checked_then
  then_accepted rest a e =
      let c = checked_says P E img (grind (arith, common_steps)) in (
        record {
          sized = c.0;
          count = c.1;
          seconds = grind (arith, common_steps);
          message = grind (arith, common_steps);
          y_le = grind (arith, common_steps);
        },
        grind (arith, common_steps),
      )

  pub advance_accepted : (a : Advanced) → advance_call P E img m g ≡ accepted a → Accepted P E img m g a
  unfolding advance_call advance_of
  advance_accepted a e =
      let t = then_accepted (advance_of P (read P E img) m g) a e in
      let q = map_accepted (answer_with P (read P E img) m) (adjustment_of P (read P E img) m g (total_eligible P (read P E img) m g)) a t.1 in
      record { checked = t.0; adjustment = q.0; adjusts = adjustment_accepted P (read P E img) m g _ q.0 q.1.0; answer = q.1.1 }

  -- y does not grow, and claimable with what is set aside is at most the larger of custody and claimable
  pub advance_keeps : (a : Advanced) → advance_call P E img m g ≡ accepted a
      → (a.y ≤ g.y) × (read P E img (head claimable_rewards) + a.set_aside ≤ max g.pool_reward_custody_balance (read P E img (head claimable_rewards)))
  unfolding answer_with
  advance_keeps a e =
      let t = advance_accepted a e in
      let k = adjust_keeps _ _ _ _ t.adjustment t.adjusts.adjusted in
      rw t.answer (k.y_le, k.covered)
