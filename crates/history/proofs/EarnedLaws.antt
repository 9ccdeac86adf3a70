-- What amounts earn over epochs, seats and sides, and what the totals that an event is written from earn: at most y' times what is eligible. Assumes
-- nothing.
use Prim.Native.Nat.{ℕ, ◌+◌, ◌-◌, ◌*◌, ◌/◌, ◌≤◌, ◌<◌}
use native.Mathlib.Nat.{le_trans, mul-div-le, mul-le-mul_left, le_of_mul-le-mul_left}
use native.Mathlib.Omega.{arith}
use Rattle.types.specs.Base.{M, sum_below}
use Rattle.types.proofs.Below.{sum_le, sums_le, sum_term, sum_down}
use Rattle.event.specs.Eligible.{self_eligible, other_eligible, ratio_of}
use Rattle.event.specs.Event.{rate_of, total_of}
use Rattle.event.proofs.EligibleLaws.{ratio_part}
use Rattle.event.proofs.EventLaws.{total_split}
use Rattle.image.specs.Layout.{Whose, self, other}
use Rattle.advance_plan.specs.Advance.{eligible_at, ratio_at}
use Rattle.history.proofs.Invariant.{Figures, earned_in, earned}

-- ---- a total, at the rate of what is eligible of it

rate_part : (p t y ratio rate : ℕ) → t * ratio ≤ M * p → M * rate ≤ y * ratio → t * rate ≤ y * p
rate_part p t y ratio rate h k =
    le_of_mul-le-mul_left {m = t * rate} {n = y * p} {k = M} (omega (arith, mul-le-mul_left t k, mul-le-mul_left y h)) (omega arith)

total_part : (p t y : ℕ) → M * total_of t (rate_of y (ratio_of p t)) ≤ y * p
unfolding total_of rate_of
total_part p t y =
    le_trans (mul-div-le (t * (y * ratio_of p t / M)) M) (rate_part p t y (ratio_of p t) (y * ratio_of p t / M) (ratio_part p t) (mul-div-le (y * ratio_of p t) M))

-- both sides of a seat
pub seat_part : (y cap a b : ℕ) → M * (total_of a (rate_of y (ratio_at cap a b self)) + total_of b (rate_of y (ratio_at cap a b other))) ≤ y * eligible_at cap a b
unfolding ratio_at eligible_at
seat_part y cap a b = omega (arith, total_part (self_eligible cap a) a y, total_part (other_eligible cap a b) b y)

-- ---- what amounts earn over epochs, seats and sides

module _ (P first n : ℕ) (rate : Figures) where
  -- apart they earn at most what they earn together
  pub earned_split : (f g : Figures) → earned P first n rate f + earned P first n rate g ≤ earned P first n rate (λ e s d. f e s d + g e s d)
  earned_split f g =
      sums_le _ _ _ n (λ i l. sums_le _ _ _ P (λ s m.
      let e = first + i in
      omega (arith, total_split (f e s self) (g e s self) (rate e s self), total_split (f e s other) (g e s other) (rate e s other))))

  pub earned_le : (f g : Figures)
      → ((e s : ℕ) (d : Whose) → first ≤ e → e < first + n → s < P → total_of (f e s d) (rate e s d) ≤ total_of (g e s d) (rate e s d))
      → earned P first n rate f ≤ earned P first n rate g
  earned_le f g h =
      sum_le _ _ n (λ i l. sum_le _ _ P (λ s m.
      omega (arith, h (first + i) s self (omega arith) (omega arith) m, h (first + i) s other (omega arith) (omega arith) m)))

  module _ (amount : Figures) (s : ℕ) (d : Whose) (lt : s < P) where
    -- one seat and side of an epoch
    in_term : (e : ℕ) → total_of (amount e s d) (rate e s d) ≤ earned_in P rate amount e
    in_term e = go d (sum_term (λ s. total_of (amount e s self) (rate e s self) + total_of (amount e s other) (rate e s other)) P s lt)
      where
        go : (d : Whose) → total_of (amount e s self) (rate e s self) + total_of (amount e s other) (rate e s other) ≤ earned_in P rate amount e
            → total_of (amount e s d) (rate e s d) ≤ earned_in P rate amount e
        go self h = omega arith
        go other h = omega arith

    -- one seat and side over the newest m epochs
    pub earned_newest : (m : ℕ) → m ≤ n
        → sum_below m (λ k. total_of (amount (first + (n - 1 - k)) s d) (rate (first + (n - 1 - k)) s d)) ≤ earned P first n rate amount
    earned_newest m l =
        let each : ℕ → ℕ = λ i. total_of (amount (first + i) s d) (rate (first + i) s d) in
        omega (arith, sum_down each m n l, sum_le each (λ i. earned_in P rate amount (first + i)) n (λ i b. in_term (first + i)))
