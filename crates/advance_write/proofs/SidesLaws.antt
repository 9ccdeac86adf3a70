-- Rolling the sides of a pool: a seat's, from what its two rolls answer, and seat by seat. Assumes nothing.
use Rattle.std.proofs.Common.{◌≡◌, ◌≢◌, ℕ, ◌+◌, ◌<◌, Bool, true, false, eqb, ltb, refl, sym, ap}
use Rattle.std.proofs.Common.{ap₂, ◌∙◌, arith, eq-eqb, ne_eqb, lt-ltb, le-ltb, ltb-true, ltb-false}
use native.Mathlib.Decide.{ℕ_discrete}
use Rattle.std.specs.Prelude.{if◌then◌else◌, Result, Ok, Err, IsOk}
use Rattle.types.specs.Base.{accepted, all_below, outcome_by}
use Rattle.types.specs.declared.refusals.Refusal.{Refusal}
use Rattle.types.proofs.Below.{and_both, all_at}
use Rattle.delegation.specs.declared.DelegationState.{DelegationState}
use Rattle.delegation.specs.Side.{Side, rolled, roll_fits, roll_of, side_of}
use Rattle.delegation.proofs.SideLaws.{roll_into}
use Rattle.image.specs.Layout.{Whose, self, other, publishers, total_delegation, delta_delegation, publisher_stake_accounts}
use Rattle.image.specs.Layout.{num_slash_events, delegation_fees, Field, head, seat, slot, share, Words, InRange}
use Rattle.image.specs.Seats.{side_at, with_side}
use Rattle.image.specs.declared.pool_data.PoolDataMut.{PoolDataMut}
use Rattle.image.specs.Pool.{words_in, Becomes}
use Rattle.image.proofs.PoolLaws.{becomes_reads, becomes_same, becomes_next}
use Rattle.advance_plan.specs.Advance.{total_in, seat_rolls}
use Rattle.advance_write.specs.Sides.{rolled_seat, rolled_words}

-- ---- a seat

module _ (w : Words) (s : ℕ) (rolls : seat_rolls w s ≡ true) where
  fits : (d : Whose) → roll_fits (w (seat s (total_delegation d))) (w (seat s (delta_delegation d))) ≡ true
  unfolding seat_rolls
  fits self =
      (and_both (roll_fits (w (seat s (total_delegation self))) (w (seat s (delta_delegation self))))
      (roll_fits (w (seat s (total_delegation other))) (w (seat s (delta_delegation other)))) rolls).0
  fits other =
      (and_both (roll_fits (w (seat s (total_delegation self))) (w (seat s (delta_delegation self))))
      (roll_fits (w (seat s (total_delegation other))) (w (seat s (delta_delegation other)))) rolls).1

  module _ (d : Whose) (v : Words) (ev : v ≡ w) (side : DelegationState) (is : side ≡ side_at v s d)
      (r : Result DelegationState Refusal) (e : outcome_by side_of r ≡ roll_of side.total_delegation.0 side.delta_delegation)
    where
      answer : outcome_by side_of r ≡ accepted (record { total = total_in w 1 s d; change = 0 })
      answer =
          e ∙ ap (λ (x : DelegationState). roll_of x.total_delegation.0 x.delta_delegation) (is ∙ ap (λ (u : Words). side_at u s d) ev) ∙ roll_into _ _ (fits d)

      -- a roll does not fail
      pub surely_rolls : IsOk r
      surely_rolls = go r answer
        where
          go : (x : Result DelegationState Refusal) → outcome_by side_of x ≡ accepted (record { total = total_in w 1 s d; change = 0 }) → IsOk x
          go (Ok a) h = refl
          go (Err k) h = let z : ◌≡◌ {A = ℕ} 0 1 = cc in absurd (omega arith)

      -- and gives the rolled total, with change 0
      pub rolls_into : (a : DelegationState) → r ≡ Ok a → (a.total_delegation.0 ≡ total_in w 1 s d) × (a.delta_delegation ≡ 0)
      rolls_into a q =
          let x : accepted (side_of a) ≡ accepted (record { total = total_in w 1 s d; change = 0 }) = sym (ap (outcome_by side_of) q) ∙ answer in
          let z : side_of a ≡ record { total = total_in w 1 s d; change = 0 } = cc in
          (ap (λ (y : Side). y.total) z, ap (λ (y : Side). y.change) z)

-- both sides written, one after the other
module _ (P E : ℕ) (w v : Words) (s : ℕ) (a b : DelegationState)
    (ea : (a.total_delegation.0 ≡ total_in w 1 s self) × (a.delta_delegation ≡ 0))
    (eb : (b.total_delegation.0 ≡ total_in w 1 s other) × (b.delta_delegation ≡ 0))
    (has : (f : Field) → InRange P E f → v f ≡ with_side w s self a f)
  where
    total_at : (q : ℕ) (d : Whose) → InRange P E (seat q (total_delegation d)) → Dec (q ≡ s)
        → with_side v s other b (seat q (total_delegation d)) ≡ rolled_seat w s (seat q (total_delegation d))
    unfolding with_side rolled_seat
    total_at q self r (yes k) =
        rw (eq-eqb q s k) (has (seat q (total_delegation self)) r ∙ rw (eq-eqb q s k) (ea.0 ∙ ap (λ (x : ℕ). total_in w 1 x self) (sym k)))
    total_at q other r (yes k) = rw (eq-eqb q s k) (eb.0 ∙ ap (λ (x : ℕ). total_in w 1 x other) (sym k))
    total_at q d r (no n) = rw (ne_eqb q s n) (has (seat q (total_delegation d)) r ∙ rw (ne_eqb q s n))

    delta_at : (q : ℕ) (d : Whose) → InRange P E (seat q (delta_delegation d)) → Dec (q ≡ s)
        → with_side v s other b (seat q (delta_delegation d)) ≡ rolled_seat w s (seat q (delta_delegation d))
    unfolding with_side rolled_seat
    delta_at q self r (yes k) = rw (eq-eqb q s k) (has (seat q (delta_delegation self)) r ∙ rw (eq-eqb q s k) ea.1)
    delta_at q other r (yes k) = rw (eq-eqb q s k) eb.1
    delta_at q d r (no n) = rw (ne_eqb q s n) (has (seat q (delta_delegation d)) r ∙ rw (ne_eqb q s n))

    pub both_words : (g : Field) → InRange P E g → with_side v s other b g ≡ rolled_seat w s g
    unfolding with_side rolled_seat
    both_words (head x) r = has (head x) r
    both_words (seat q (publishers c)) r = has (seat q (publishers c)) r
    both_words (seat q (total_delegation d)) r = total_at q d r (ℕ_discrete q s)
    both_words (seat q (delta_delegation d)) r = delta_at q d r (ℕ_discrete q s)
    both_words (seat q (publisher_stake_accounts c)) r = has (seat q (publisher_stake_accounts c)) r
    both_words (seat q num_slash_events) r = has (seat q num_slash_events) r
    both_words (seat q delegation_fees) r = has (seat q delegation_fees) r
    both_words (slot t x) r = has (slot t x) r
    both_words (share t q x) r = has (share t q x) r

-- ---- the loop

rolls_none : (w : Words) (g : Field) → w g ≡ rolled_words w 0 g
unfolding rolled_words
rolls_none w (head h) = refl
rolls_none w (seat q (publishers c)) = refl
rolls_none w (seat q (total_delegation d)) = rw (le-ltb q 0 (omega arith))
rolls_none w (seat q (delta_delegation d)) = rw (le-ltb q 0 (omega arith))
rolls_none w (seat q (publisher_stake_accounts c)) = refl
rolls_none w (seat q num_slash_events) = refl
rolls_none w (seat q delegation_fees) = refl
rolls_none w (slot t x) = refl
rolls_none w (share t q x) = refl

module _ (P E : ℕ) (w v : Words) (s : ℕ) (has : (f : Field) → InRange P E f → v f ≡ rolled_words w s f) (in_seat : s < P) where
  still_total : (d : Whose) → v (seat s (total_delegation d)) ≡ w (seat s (total_delegation d))
  unfolding rolled_words
  still_total d = has (seat s (total_delegation d)) (in_seat, tt) ∙ rw (le-ltb s s (omega arith))

  still_change : (d : Whose) → v (seat s (delta_delegation d)) ≡ w (seat s (delta_delegation d))
  unfolding rolled_words
  still_change d = has (seat s (delta_delegation d)) (in_seat, tt) ∙ rw (le-ltb s s (omega arith))

  still_rolls : seat_rolls w s ≡ true → seat_rolls v s ≡ true
  unfolding seat_rolls
  still_rolls e = rw (still_total self, still_change self, still_total other, still_change other) e

  pick : (q x y : ℕ) → q ≢ s → (if ltb q s then x else y) ≡ (if ltb q (s + 1) then x else y)
  pick q x y n = go (ltb q s) refl
    where
      go : (t : Bool) → ltb q s ≡ t → (if t then x else y) ≡ (if ltb q (s + 1) then x else y)
      go true e = let l = ltb-true q s e in rw (lt-ltb q (s + 1) (omega arith))
      go false e = let l = ltb-false q s e in rw (le-ltb q (s + 1) (omega arith))

  next_total : (q : ℕ) (d : Whose) → q < P → Dec (q ≡ s)
      → (if eqb q s then total_in v 1 q d else v (seat q (total_delegation d))) ≡ (if ltb q (s + 1) then total_in w 1 q d else w (seat q (total_delegation d)))
  unfolding rolled_words
  next_total q d l (yes e) = rw (eq-eqb q s e, lt-ltb q (s + 1) (omega arith), e) (ap₂ rolled (still_total d) (still_change d))
  next_total q d l (no n) = rw (ne_eqb q s n) (has (seat q (total_delegation d)) (l, tt) ∙ pick q _ _ n)

  next_change : (q : ℕ) (d : Whose) → q < P → Dec (q ≡ s)
      → (if eqb q s then 0 else v (seat q (delta_delegation d))) ≡ (if ltb q (s + 1) then 0 else w (seat q (delta_delegation d)))
  unfolding rolled_words
  next_change q d l (yes e) = rw (eq-eqb q s e, lt-ltb q (s + 1) (omega arith))
  next_change q d l (no n) = rw (ne_eqb q s n) (has (seat q (delta_delegation d)) (l, tt) ∙ pick q 0 _ n)

  rolls_more : (g : Field) → InRange P E g → rolled_seat v s g ≡ rolled_words w (s + 1) g
  unfolding rolled_seat rolled_words
  rolls_more (head x) r = has (head x) r
  rolls_more (seat q (publishers c)) r = has (seat q (publishers c)) r
  rolls_more (seat q (total_delegation d)) r = next_total q d r.0 (ℕ_discrete q s)
  rolls_more (seat q (delta_delegation d)) r = next_change q d r.0 (ℕ_discrete q s)
  rolls_more (seat q (publisher_stake_accounts c)) r = has (seat q (publisher_stake_accounts c)) r
  rolls_more (seat q num_slash_events) r = has (seat q num_slash_events) r
  rolls_more (seat q delegation_fees) r = has (seat q delegation_fees) r
  rolls_more (slot t x) r = has (slot t x) r
  rolls_more (share t q x) r = has (share t q x) r

-- the same of a pool
pub rolls_begin : (pool : PoolDataMut) → Becomes pool pool (rolled_words (words_in pool) 0)
rolls_begin pool = becomes_same pool _ (λ f r. rolls_none (words_in pool) f)

module _ (pool at : PoolDataMut) (s : ℕ) (b : Becomes pool at (rolled_words (words_in pool) s)) (in_pool : s < pool.p) where
  pub rolls_still : (seats : ℕ) → s < seats → all_below seats (seat_rolls (words_in pool)) ≡ true → seat_rolls (words_in at) s ≡ true
  rolls_still seats l all = still_rolls pool.p pool.e (words_in pool) (words_in at) s (becomes_reads pool at _ b) in_pool (all_at _ seats s l all)

  pub rolls_go : (next : PoolDataMut) → Becomes at next (rolled_seat (words_in at) s) → Becomes pool next (rolled_words (words_in pool) (s + 1))
  rolls_go next n = becomes_next pool at next _ _ _ b n (rolls_more pool.p pool.e (words_in pool) (words_in at) s (becomes_reads pool at _ b) in_pool)

pub ruleset rolling = (rolls_begin, rolls_still)
