-- What an accepted payment tells, and which words of the image a payment writes. Assumes nothing.
use mathlib.Core.Path.{◌≡◌, refl, sym, ap, ◌∙◌}
use mathlib.Core.Logic.{◌≢◌}
use mathlib.Core.Bool.{true, not}
use mathlib.Core.List.{List}
use Prim.Native.Nat.{ℕ, ◌+◌, ◌≤◌}
use native.Mathlib.Omega.{arith}
use lib.Dec.{ltb, eqb}
use lib.ListN.{length}
use borrow.Author.Tests.{ltb-false, eqb-true, not-false}
use Rattle.std.proofs.lemmas.Grind.{common_steps}
use Rattle.types.specs.Base.{Outcome, refused, accepted, after}
use Rattle.types.proofs.OutcomeLaws.{test_passed, then_accepts}
use Rattle.positions.specs.declared.Key.{Key}
use Rattle.positions.specs.Positions.{positions_hold}
use Rattle.std.specs.Prelude.{Option, Some, None}
use Rattle.image.specs.Layout.{last_updated_epoch, claimable_rewards, num_events, Field, head, seat, slot, share, Words, InRange, read, image}
use Rattle.image.specs.Seats.{checked_image, stake_account_at, publisher_index_of}
use Rattle.image.proofs.SeatLaws.{checked_says}
use Rattle.image.proofs.LayoutLaws.{read_image, length_image}
use Rattle.event_walk.specs.Walk.{reads_of}
use Rattle.pool.specs.Reward.{Earned, calculate_reward}
use Rattle.pool.proofs.PaidLaws.{earned_reads}
use Rattle.integrity_pool.specs.declared.payment.Claim.{Claim}
use Rattle.image.specs.Changes.{self_side}
use Rattle.integrity_pool.specs.Payment.{custody_fall, Payment, payment_with, pay_out, payment_at, payment_of, paid_words, payment_call, payment_image}

-- ---- each test on the way to an accepted payment passed

-- the publisher's seat, what was earned there and that claimable covers it, by how much custody falls, the record to keep
pub record PaymentTells (P E : ℕ) (w : Words) (words : List ℕ) (c : Claim) (a : Payment) : Type 0 where
  pub seat : ℕ
  pub found : publisher_index_of P w c.publisher ≡ accepted seat
  pub current : w (head last_updated_epoch) ≡ c.current_epoch
  pub earned : Earned
  pub earns :
      calculate_reward E w seat words c.publisher c.delegation_record.last_epoch.0 c.unlocking_duration
      (self_side w seat c.stake_account_positions)
      ≡ accepted earned
  pub covered : earned.delegator + earned.publisher ≤ w (head claimable_rewards)
  pub fall : ℕ
  pub falls :
      custody_fall (stake_account_at w seat) c.publisher_stake_account_positions c.publisher_stake_account_custody earned.delegator
      (earned.delegator + earned.publisher)
      ≡ accepted fall
  pub answer : payment_with c earned fall ≡ a

pub payment_tells : (P E : ℕ) (w : Words) (words : List ℕ) (c : Claim) (a : Payment)
    → payment_of P E w words c ≡ accepted a → PaymentTells P E w words c a
unfolding payment_of payment_at pay_out
payment_tells P E w words c a e =
    let s = then_accepts (payment_at E w words c) (publisher_index_of P w c.publisher) a e in
    let t0 = test_passed (not (eqb (w (head last_updated_epoch)) c.current_epoch)) _ _ a s.1.1 in
    let earning = calculate_reward E w s.0 words c.publisher c.delegation_record.last_epoch.0 c.unlocking_duration
    (self_side w s.0 c.stake_account_positions) in
    let r = then_accepts (pay_out (w (head claimable_rewards)) (stake_account_at w s.0) c) earning a t0.1 in
    let both = r.0.delegator + r.0.publisher in
    let t1 = test_passed (ltb (w (head claimable_rewards)) both) _ _ a r.1.1 in
    let falling = custody_fall (stake_account_at w s.0) c.publisher_stake_account_positions c.publisher_stake_account_custody
    r.0.delegator both in
    let f = then_accepts (λ fall. accepted (payment_with c r.0 fall)) falling a t1.1 in
    record {
      seat = s.0;
      found = s.1.0;
      current = eqb-true _ _ (not-false _ t0.0);
      earned = r.0;
      earns = r.1.0;
      covered = ltb-false _ _ t1.0;
      fall = f.0;
      falls = f.1.0;
      answer = cc f.1.1;
    }

pub payment_covered : (P E : ℕ) (w : Words) (words : List ℕ) (c : Claim) (a : Payment) → payment_of P E w words c ≡ accepted a
    → a.delegator + a.publisher ≤ w (head claimable_rewards)
payment_covered P E w words c a e =
    let t = payment_tells P E w words c a e in
    rw (sym t.answer) t.covered

-- [9] 'exactly the events read: for each matching position ..', of every payment that is accepted
pub payment_reads : (P E : ℕ) (w : Words) (words : List ℕ) (c : Claim) (a : Payment) → payment_of P E w words c ≡ accepted a
    → a.reads ≡ reads_of E w words c.publisher c.delegation_record.last_epoch.0
payment_reads P E w words c a e =
    let t = payment_tells P E w words c a e in
    rw (sym t.answer)
    (earned_reads E w t.seat words c.publisher c.delegation_record.last_epoch.0 c.unlocking_duration (self_side w t.seat c.stake_account_positions)
    t.earned t.earns)

pub call_reads : (P E : ℕ) (img words : List ℕ) (c : Claim) (a : Payment) → payment_call P E img words c ≡ accepted a
    → a.reads ≡ reads_of E (read P E img) words c.publisher c.delegation_record.last_epoch.0
unfolding payment_call
call_reads P E img words c a e =
    let image = test_passed (not (checked_image P E img)) _ _ a e in
    let positions = test_passed (not (positions_hold words)) _ _ a image.1 in
    payment_reads P E (read P E img) words c a positions.1

-- by how much custody falls: at most by both parts
fall_le : (stake_account : Key) (account : Option Key) (custody delegator both fall : ℕ)
    → custody_fall stake_account account custody delegator both ≡ accepted fall → delegator ≤ both → fall ≤ both
unfolding custody_fall
fall_le stake_account (Some key) custody delegator both fall e l = grind (arith, common_steps)
fall_le stake_account None custody delegator both fall e l = grind (arith, common_steps)

-- ---- what is written

-- claimable falls by what is paid, and every other word stays
pub record PaymentWrites (P E : ℕ) (img l : List ℕ) (paid : ℕ) : Type 0 where
  pub long : length l ≡ length img
  pub falls : read P E l (head claimable_rewards) + paid ≡ read P E img (head claimable_rewards)
  pub stays : (f : Field) → InRange P E f → f ≢ head claimable_rewards → read P E l f ≡ read P E img f

paid_stays : (w : Words) (paid : ℕ) (f : Field) → f ≢ head claimable_rewards → paid_words w paid f ≡ w f
paid_stays w paid (head last_updated_epoch) n = refl
paid_stays w paid (head claimable_rewards) n = absurd (n refl)
paid_stays w paid (head num_events) n = refl
paid_stays w paid (seat s x) n = refl
paid_stays w paid (slot t x) n = refl
paid_stays w paid (share t s x) n = refl

module _ (P E : ℕ) (img words : List ℕ) (c : Claim) where
  -- 1 and 4 were not given
  call_accepted : (a : Payment) → payment_call P E img words c ≡ accepted a
      → (checked_image P E img ≡ true) × (payment_of P E (read P E img) words c ≡ accepted a)
  unfolding payment_call
  call_accepted a e = (grind (arith, common_steps), grind (arith, common_steps))

  pub payment_writes : (a : Payment) → payment_call P E img words c ≡ accepted a
      → PaymentWrites P E img (payment_image P E img words c) (a.delegator + a.publisher)
  unfolding payment_image
  payment_writes a e =
      let w = read P E img in
      let paid = a.delegator + a.publisher in
      let size = (checked_says P E img (call_accepted a e).0).0.size in
      let cover = payment_covered P E w words c a (call_accepted a e).1 in
      let q : payment_image P E img words c ≡ image P E (paid_words w paid) =
      ap (λ (o : Outcome Payment). after o (λ a. image P E (paid_words w (a.delegator + a.publisher))) img) e in
      record {
        long = ap length q ∙ length_image P E (paid_words w paid) ∙ sym size;
        falls =
            let r = ap (λ (l : List ℕ). read P E l (head claimable_rewards)) q ∙ read_image P E (paid_words w paid) (head claimable_rewards) tt in
            omega arith;
        stays = λ f i n. ap (λ (l : List ℕ). read P E l f) q ∙ read_image P E (paid_words w paid) f i ∙ paid_stays w paid f n;
      }

  pub payment_falls : (a : Payment) → payment_call P E img words c ≡ accepted a → a.custody_fall ≤ a.delegator + a.publisher
  payment_falls a e =
      let t = payment_tells P E (read P E img) words c a (call_accepted a e).1 in
      rw (sym t.answer) (fall_le _ _ _ _ _ t.fall t.falls (omega arith))

  pub refused_writes : (k : ℕ) → payment_call P E img words c ≡ refused k → payment_image P E img words c ≡ img
  unfolding payment_image
  refused_writes k e = rw e
