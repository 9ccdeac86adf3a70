-- What positions have earned, one law for each way out of the code. Assumes nothing.
use mathlib.Core.Path.{◌≡◌, refl, sym, ap, ◌∙◌}
use mathlib.Core.Bool.{Bool, true, false, not}
use mathlib.Core.List.{List}
use Prim.Native.Nat.{ℕ, ◌+◌, ◌≤◌, ◌<◌}
use native.Mathlib.Omega.{arith}
use lib.Dec.{leb}
use lib.ListN.{get_or}
use borrow.Author.Tests.{le-leb, lt-leb}
use Rattle.std.proofs.lemmas.List.{get_or-take, length-take}
use Rattle.std.specs.Prelude.{if◌then◌else◌, Option, Some, None, take, length}
use Rattle.types.specs.Base.{word, Outcome, refused, accepted, map_outcome, is_accepted, sum_below, all_below}
use Rattle.types.specs.Refusals.{does_not_fit}
use Rattle.types.proofs.Below.{sum_none, sum_more, sum_same, sum_grows, all_none, all_more, all_not, all_same}
use Rattle.positions.specs.declared.Key.{Key}
use Rattle.event.specs.Event.{Parts, event_reward}
use Rattle.event.proofs.EventLaws.{event_refused}
use Rattle.image.specs.Layout.{Words}
use Rattle.event_walk.specs.Walk.{walk_length, walk_slot, slot_amount, reads_of}
use Rattle.event_walk.specs.Walked.{slot_before}
use Rattle.event_walk.specs.declared.EventAmounts.{EventAmounts}
use Rattle.event_walk.proofs.WalkLaws.{slot_from, slot_back, slot_kept}
use Rattle.event_amounts.specs.Gathered.{GatheredOf}
use Rattle.pool.specs.Reward.{event_of, slot_reward, delegator_in, publisher_in, reward_sum, earned_with, calculate_reward, reward_of}

-- a slot's reward is refused with 13 alone
pub slot_refused : (E : ℕ) (w : Words) (s : ℕ) (self_side : Bool) (amount : ℕ → ℕ) (k m : ℕ) → slot_reward E w s self_side amount k ≡ refused m → m ≡ does_not_fit
unfolding slot_reward
slot_refused E w s self_side amount k m e = event_refused _ _ _ _ e

-- ---- the sum over the slots

-- the sums over the first k slots, all of which fit: what the loop keeps
pub record Summed (f : ℕ → Outcome Parts) (k d p : ℕ) : Type 0 where
  pub each : all_below k (λ i. is_accepted (f i)) ≡ true
  pub delegators : d ≡ sum_below k (λ i. delegator_in (f i))
  pub publishers : p ≡ sum_below k (λ i. publisher_in (f i))
  pub fits : d + p < word

-- sums past a word do not fit, whether or not each slot's reward does
past_13 : (each : Bool) (d p : ℕ) → word ≤ d + p
    → ◌≡◌ {A = Outcome Parts} (refused does_not_fit)
    (if not each then refused does_not_fit else if leb word (d + p) then refused does_not_fit else accepted (record { delegator = d; publisher = p }))
past_13 true d p h = rw (le-leb word (d + p) h)
past_13 false d p h = refl

module _ (f : ℕ → Outcome Parts) where
  pub summed_none : Summed f 0 0 0
  summed_none = record { each = all_none (λ i. is_accepted (f i)); delegators = sum_none _; publishers = sum_none _; fits = omega arith }

  pub summed_more : (k d p a b : ℕ) → Summed f k d p → f k ≡ accepted (record { delegator = a; publisher = b }) → d + p + (a + b) < word
      → Summed f (k + 1) (d + a) (p + b)
  summed_more k d p a b h e l = record {
    each = all_more (λ i. is_accepted (f i)) k h.each (ap is_accepted e);
    delegators = let m = sum_more (λ i. delegator_in (f i)) k in omega (arith, h.delegators, ap delegator_in e, m);
    publishers = let m = sum_more (λ i. publisher_in (f i)) k in omega (arith, h.publishers, ap publisher_in e, m);
    fits = omega arith;
  }

  pub sum_paid : (n k d p : ℕ) → k ≡ n → Summed f k d p → accepted (record { delegator = d; publisher = p }) ≡ reward_sum n f
  unfolding reward_sum
  sum_paid n k d p q h =
      let b : all_below n (λ i. is_accepted (f i)) ≡ true = ap (λ (j : ℕ). all_below j (λ i. is_accepted (f i))) (sym q) ∙ h.each in
      let ds : sum_below n (λ i. delegator_in (f i)) ≡ d = ap (λ (j : ℕ). sum_below j (λ i. delegator_in (f i))) (sym q) ∙ sym h.delegators in
      let ps : sum_below n (λ i. publisher_in (f i)) ≡ p = ap (λ (j : ℕ). sum_below j (λ i. publisher_in (f i))) (sym q) ∙ sym h.publishers in
      rw (b, ds, ps, lt-leb word (d + p) h.fits)

  -- 13: one slot's reward does not fit, or the sums do not
  pub sum_13_slot : (n k m : ℕ) → k < n → f k ≡ refused m → refused does_not_fit ≡ reward_sum n f
  unfolding reward_sum
  sum_13_slot n k m l e = rw (all_not (λ i. is_accepted (f i)) n k l (ap is_accepted e))

  pub sum_13_sums : (n k d p a b : ℕ) → k < n → Summed f k d p → f k ≡ accepted (record { delegator = a; publisher = b }) → word ≤ d + p + (a + b)
      → refused does_not_fit ≡ reward_sum n f
  unfolding reward_sum
  sum_13_sums n k d p a b l h e past = past_13 (all_below n (λ i. is_accepted (f i))) _ _ grown
    where
      grown : word ≤ sum_below n (λ i. delegator_in (f i)) + sum_below n (λ i. publisher_in (f i))
      grown =
          let ds = sum_more (λ i. delegator_in (f i)) k in
          let ps = sum_more (λ i. publisher_in (f i)) k in
          let dn = sum_grows (λ i. delegator_in (f i)) (k + 1) n (omega arith) in
          let pn = sum_grows (λ i. publisher_in (f i)) (k + 1) n (omega arith) in
          omega (arith, h.delegators, h.publishers, ap delegator_in e, ap publisher_in e)

-- a turn of the walk over the first n amounts: it is one of the walk, and a step back from the slots so far comes to its slot t
pub record Turn (E : ℕ) (w : Words) (s : ℕ) (self_side : Bool) (amounts : List ℕ) (k t : ℕ) (o : Outcome Parts) : Type 0 where
  pub within : k < walk_length E w
  pub next : t ≡ slot_from E w (k + 1)
  pub earns : slot_reward E w s self_side (λ i. get_or amounts i 0) k ≡ o

pub turn : {E : ℕ} {w : Words} {s : ℕ} {self_side : Bool} {amounts : List ℕ} {n k slot t : ℕ} {o : Outcome Parts} → n ≡ walk_length E w
    → k < length (take n amounts) → slot ≡ slot_from E w k → t ≡ slot_before E slot
    → o ≡ event_reward (event_of w t s) (get_or (take n amounts) k 0) self_side → 1 ≤ E → Turn E w s self_side amounts k t o
unfolding slot_reward
turn {E} {w} {s} {self_side} {amounts} {n} {k} {slot} {t} {o} steps within at back r low = record {
  within = lt;
  next = slot_kept E w k t is;
  earns = earns;
}
  where
    lt : k < walk_length E w
    lt = omega (arith, length-take n amounts)

    is : t ≡ walk_slot E w k
    is = slot_back E w k slot t low lt at back

    earns : slot_reward E w s self_side (λ i. get_or amounts i 0) k ≡ o
    earns = rw (sym is, sym (get_or-take n amounts k 0 (omega (arith, length-take n amounts)))) (sym r)

-- it depends on the rewards of the first n slots alone
pub reward_sum_same : (f g : ℕ → Outcome Parts) (n : ℕ) → ((k : ℕ) → k < n → f k ≡ g k) → reward_sum n f ≡ reward_sum n g
unfolding reward_sum
reward_sum_same f g n h =
    rw (
      all_same (λ k. is_accepted (f k)) (λ k. is_accepted (g k)) n (λ k l. ap is_accepted (h k l)),
      sum_same (λ k. delegator_in (f k)) (λ k. delegator_in (g k)) n (λ k l. ap delegator_in (h k l)),
      sum_same (λ k. publisher_in (f k)) (λ k. publisher_in (g k)) n (λ k l. ap publisher_in (h k l)),
    )

-- ---- the gathered amounts

module _ (E : ℕ) (w : Words) (s : ℕ) (self_side : Bool) where
  -- amounts that an account's positions gather earn what the positions do
  pub reward_gathered : (g : Option EventAmounts) (words : List ℕ) (publisher : Key) (from unlocking : ℕ) → GatheredOf E w words publisher from unlocking g
      → reward_of E w s g self_side ≡ calculate_reward E w s words publisher from unlocking self_side
  unfolding reward_of calculate_reward slot_reward
  reward_gathered None words publisher from unlocking unfit = rw unfit refl
  reward_gathered (Some g) words publisher from unlocking gathered =
      let same = reward_sum_same
      (slot_reward E w s self_side (λ (k : ℕ). get_or g.amounts k 0)) (slot_reward E w s self_side (slot_amount E w words publisher from unlocking))
      (walk_length E w)
      (λ k l. ap (λ (a : ℕ). event_reward (event_of w (walk_slot E w k) s) a self_side) (gathered.amounts k)) in
      rw (gathered.fits, gathered.reads) (ap (map_outcome (earned_with (reads_of E w words publisher from))) same)
