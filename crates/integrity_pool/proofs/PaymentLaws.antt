-- What a payment takes is covered, amounts that were gathered are paid as their positions are, and what it writes. Assumes nothing.
use mathlib.Core.Path.{◌≡◌, refl}
use mathlib.Core.List.{List}
use Prim.Native.Nat.{ℕ, ◌+◌, ◌-◌, ◌≤◌}
use Rattle.std.proofs.Common.{arith}
use Rattle.std.proofs.lemmas.Grind.{common_steps}
use Rattle.types.specs.Base.{Outcome, refused, accepted, and_then}
use Rattle.std.specs.Prelude.{Option}
use Rattle.image.specs.Layout.{last_updated_epoch, claimable_rewards, num_events, Field, head, seat, slot, share, Words, InRange, image}
use Rattle.image.specs.Seats.{publisher_index_of, with_head}
use Rattle.image.proofs.HoldsLaws.{same_image}
use Rattle.event_walk.specs.declared.EventAmounts.{EventAmounts}
use Rattle.event_amounts.specs.Gathered.{GatheredOf}
use Rattle.pool.proofs.RewardLaws.{reward_gathered}
use Rattle.integrity_pool.specs.declared.payment.Claim.{Claim}
use Rattle.image.specs.Changes.{self_side}
use Rattle.integrity_pool.specs.Payment.{Payment, pay_out, payment_at, payment_of, gathered_payment_at, gathered_payment, paid_words}

-- ---- what is paid

module _ (P E : ℕ) (w : Words) (g : Option EventAmounts) (c : Claim) where
  -- claimable covers what is paid
  pub gathered_covered : (a : Payment) → gathered_payment P E w g c ≡ accepted a → a.delegator + a.publisher ≤ w (head claimable_rewards)
  unfolding gathered_payment gathered_payment_at pay_out
  gathered_covered a e = grind (arith, common_steps)

  -- amounts that an account's positions gathered are paid as the positions are
  pub gathered_pays : (words : List ℕ)
      → GatheredOf E w words c.publisher c.delegation_record.last_epoch.0 c.unlocking_duration g
      → gathered_payment P E w g c ≡ payment_of P E w words c
  unfolding gathered_payment gathered_payment_at payment_of payment_at
  gathered_pays words gathered = go (publisher_index_of P w c.publisher)
    where
      seat_pays : (s : ℕ) → gathered_payment_at E w g c s ≡ payment_at E w words c s
      seat_pays s = rw (reward_gathered E w s (self_side w s c.stake_account_positions) g words _ _ _ gathered)

      go : (o : Outcome ℕ) → and_then o (gathered_payment_at E w g c) ≡ and_then o (payment_at E w words c)
      go (refused k) = refl
      go (accepted s) = seat_pays s

-- ---- the image: claimable falls, every other word stays

pub paid_image_law : (P E : ℕ) (w : Words) (paid : ℕ)
    → image P E (with_head w claimable_rewards (w (head claimable_rewards) - paid)) ≡ image P E (paid_words w paid)
unfolding with_head
paid_image_law P E w paid = same_image P E (with_head w claimable_rewards (w (head claimable_rewards) - paid)) (paid_words w paid) words
  where
    words : (f : Field) → InRange P E f → with_head w claimable_rewards (w (head claimable_rewards) - paid) f ≡ paid_words w paid f
    words (head last_updated_epoch) r = refl
    words (head claimable_rewards) r = refl
    words (head num_events) r = refl
    words (seat s x) r = refl
    words (slot t x) r = refl
    words (share t s x) r = refl
