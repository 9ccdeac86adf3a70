-- What is earned, and so what a payment pays: the parts add up to the totals of the slots, and those of gathered amounts fit a word together. Assumes nothing.
use mathlib.Core.Path.{◌≡◌, refl, sym, ap, ◌∙◌}
use mathlib.Core.Bool.{Bool, true, false, not}
use mathlib.Core.List.{List}
use Prim.Native.Nat.{ℕ, zero, suc, ◌+◌, ◌<◌}
use native.Mathlib.Omega.{arith}
use lib.Dec.{leb}
use borrow.Author.Tests.{leb-false, not-false}
use Rattle.std.specs.Prelude.{if◌then◌else◌, Option, Some, None}
use Rattle.types.specs.Base.{word, Outcome, refused, accepted, is_accepted, sum_below, all_below}
use Rattle.types.proofs.Below.{all_at}
use Rattle.types.proofs.OutcomeLaws.{test_passed, map_accepted, not_accepted}
use Rattle.positions.specs.declared.Key.{Key}
use Rattle.event.specs.Event.{Parts, rate_of, total_of}
use Rattle.event.proofs.EventLaws.{event_adds}
use Rattle.image.specs.Layout.{self, other, event_y, reward_ratio, slot, share, Words}
use Rattle.event_walk.specs.declared.EventAmounts.{EventAmounts}
use Rattle.event_walk.specs.Walk.{walk_length, walk_slot, slot_amount, gather_fits, reads_of}
use Rattle.pool.specs.Reward.{event_of, slot_reward, delegator_in, publisher_in, reward_sum, Earned, earned_with, calculate_reward, reward_of}

-- ---- a sum that is accepted

-- two sums of the same slots
sums_add : (f g h : ℕ → ℕ) (n : ℕ) → ((k : ℕ) → k < n → f k + g k ≡ h k) → sum_below n f + sum_below n g ≡ sum_below n h
unfolding sum_below
sums_add f g h zero e = refl
sums_add f g h (suc n) e = omega (arith, sums_add f g h n (λ k l. e k (omega arith)), e n (omega arith))

-- the parts of a reward that is accepted
parts_in : (o : Outcome Parts) (total : ℕ) → is_accepted o ≡ true → ((p : Parts) → o ≡ accepted p → p.delegator + p.publisher ≡ total)
    → delegator_in o + publisher_in o ≡ total
parts_in (refused k) total t h = absurd (let z : false ≡ true = t in let y : ◌≡◌ {A = ℕ} 0 1 = cc in omega arith)
parts_in (accepted p) total t h = h p refl

-- each slot's reward is accepted, the parts are the sums, and both together fit
record Adds (f : ℕ → Outcome Parts) (n : ℕ) (p : Parts) : Type 0 where
  each : all_below n (λ k. is_accepted (f k)) ≡ true
  delegator : p.delegator ≡ sum_below n (λ k. delegator_in (f k))
  publisher : p.publisher ≡ sum_below n (λ k. publisher_in (f k))
  fits : sum_below n (λ k. delegator_in (f k)) + sum_below n (λ k. publisher_in (f k)) < word

sum_adds : (f : ℕ → Outcome Parts) (n : ℕ) (p : Parts) → reward_sum n f ≡ accepted p → Adds f n p
unfolding reward_sum
sum_adds f n p e =
    let t0 = test_passed (not (all_below n (λ k. is_accepted (f k)))) _ _ p e in
    let t1 = test_passed (leb word (sum_below n (λ k. delegator_in (f k)) + sum_below n (λ k. publisher_in (f k)))) _ _ p t0.1 in
    record { each = not-false _ t0.0; delegator = cc t1.1; publisher = cc t1.1; fits = leb-false _ _ t1.0 }

-- ---- what is earned

-- of gathered amounts: both parts together fit
pub reward_fits : (E : ℕ) (w : Words) (s : ℕ) (g : Option EventAmounts) (self_side : Bool) (r : Earned) → reward_of E w s g self_side ≡ accepted r
    → r.delegator + r.publisher < word
unfolding reward_of
reward_fits E w s None self_side r e = absurd (not_accepted r _ (sym e))
reward_fits E w s (Some g) self_side r e =
    let m = map_accepted (earned_with g.reads) _ r e in
    let a = sum_adds _ _ m.0 m.1.0 in
    rw m.1.1 (omega (arith, a.delegator, a.publisher, a.fits))

-- each side has its own ratio
side_ratio : (w : Words) (t s : ℕ) (self_side : Bool)
    → (if self_side then w (share t s (reward_ratio self)) else w (share t s (reward_ratio other)))
    ≡ w (share t s (reward_ratio (if self_side then self else other)))
side_ratio w t s true = refl
side_ratio w t s false = refl

module _ (E : ℕ) (w : Words) (s : ℕ) (words : List ℕ) (publisher : Key) (from unlocking : ℕ) (self_side : Bool) (r : Earned)
    (e : calculate_reward E w s words publisher from unlocking self_side ≡ accepted r) where
  adds : (p : Parts) × (Adds (slot_reward E w s self_side (slot_amount E w words publisher from unlocking)) (walk_length E w) p
      × (r ≡ earned_with (reads_of E w words publisher from) p))
  unfolding calculate_reward
  adds =
      let t = test_passed (not (gather_fits E w words publisher from unlocking)) _ _ r e in
      let m = map_accepted (earned_with (reads_of E w words publisher from)) _ r t.1 in
      (m.0, (sum_adds _ _ m.0 m.1.0, m.1.1))

  -- [9] the read count that is answered is that of the definition
  pub earned_reads : r.reads ≡ reads_of E w words publisher from
  earned_reads = ap (λ (x : Earned). x.reads) adds.1.1

  -- the parts together are the sum, over the slots of a walk, of the amount there at the event's rate for the side
  pub paid_adds : r.delegator + r.publisher ≡ sum_below (walk_length E w) (λ (k : ℕ). total_of (slot_amount E w words publisher from unlocking k)
      (rate_of (w (slot (walk_slot E w k) event_y)) (w (share (walk_slot E w k) s (reward_ratio (if self_side then self else other))))))
  unfolding slot_reward
  paid_adds =
      let a = adds.1.0 in
      let f = slot_reward E w s self_side (slot_amount E w words publisher from unlocking) in
      rw (adds.1.1, a.delegator, a.publisher) (sums_add (λ k. delegator_in (f k)) (λ k. publisher_in (f k)) _ (walk_length E w) (λ k l.
      parts_in (f k) _ (all_at (λ i. is_accepted (f i)) (walk_length E w) k l a.each) (λ p q.
      event_adds (event_of w (walk_slot E w k) s) (slot_amount E w words publisher from unlocking k) self_side p q
      ∙ ap (λ (x : ℕ). total_of (slot_amount E w words publisher from unlocking k) (rate_of (w (slot (walk_slot E w k) event_y)) x))
      (side_ratio w (walk_slot E w k) s self_side))))
