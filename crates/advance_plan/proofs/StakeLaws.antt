-- What a seat comes to, one law for each way out of the code, and the sums and lists, seat by seat. Assumes nothing.
use Rattle.std.proofs.Common.{◌≡◌, ℕ, ◌+◌, ◌<◌, ◌≤◌, Bool, true, false, List, [], length, get_or, set, sym}
use Rattle.std.proofs.Common.{refl, ap, ◌∙◌, subst, arith, get_or-set_other, get_or-set_same}
use native.Mathlib.Decide.{ℕ_discrete}
use Rattle.std.specs.Prelude.{if◌then◌else◌}
use Rattle.types.specs.Base.{Outcome, refused, accepted, sum_below, all_below}
use Rattle.types.specs.Refusals.{does_not_fit}
use Rattle.types.proofs.Below.{sum_none, sum_more, all_none, all_more, all_not}
use Rattle.event.specs.declared.eligible.EligibleDelegationData.{EligibleDelegationData}
use Rattle.event.specs.Eligible.{eligible_of}
use Rattle.event.proofs.EligibleLaws.{both_are}
use Rattle.delegation.specs.declared.DelegationState.{DelegationState}
use Rattle.delegation.specs.Side.{Side, roll_fits, roll_of, rolled, side_of}
use Rattle.image.specs.Layout.{self, other, total_delegation, delta_delegation, delegation_fees, seat, Words}
use Rattle.image.specs.Seats.{side_at}
use Rattle.advance_plan.specs.declared.stake.SeatEligible.{SeatEligible}
use Rattle.advance_plan.specs.declared.stake.SeatEpochs.{SeatEpochs}
use Rattle.advance_plan.specs.declared.table.SeatTable.{SeatTable}
use Rattle.advance_plan.specs.Advance.{seat_rolls, eligible_at, ratio_at, eligible_in, ratio_in}
use Rattle.advance_plan.specs.Stake.{seat_eligible, seat_in, seat_epochs, sums_of, shares_of, Shared, Tabled}

-- a list filled up to n, one more
pub list_more : {A : Type 0} (d : A) (f : ℕ → A) (l : List A) (n : ℕ) (v : A) → ((i : ℕ) → i < n → get_or l i d ≡ f i) → n < length l → v ≡ f n
    → (i : ℕ) → i < n + 1 → get_or (set l n v) i d ≡ f i
list_more d f l n v h r e i lt = go (ℕ_discrete i n)
  where
    go : Dec (i ≡ n) → get_or (set l n v) i d ≡ f i
    go (yes q) = rw q (get_or-set_same l n v d r ∙ e)
    go (no q) = get_or-set_other l n i v d q ∙ h i (omega arith)

-- ---- two sides under a cap

module _ (x : EligibleDelegationData) (cap self_total other_total : ℕ) (e : x ≡ eligible_of cap self_total other_total) where
  pub sides_fit : x.self_eligible_delegation.0 + x.other_eligible_delegation.0 ≤ cap
  unfolding eligible_of
  sides_fit = rw e (omega (arith, both_are cap self_total other_total))

  pub sides_eligible : record {
    total_eligible_delegation = record { 0 = x.self_eligible_delegation.0 + x.other_eligible_delegation.0 };
    self_reward_ratio = x.reward_ratios.self_reward_ratio;
    other_reward_ratio = x.reward_ratios.other_reward_ratio;
  } ≡ seat_eligible cap self_total other_total
  unfolding seat_eligible eligible_at ratio_at eligible_of
  sides_eligible = rw e

-- ---- a seat's sides roll or not

-- what a roll's answer says
roll_refused : (total change n : ℕ) → refused n ≡ roll_of total change → (roll_fits total change ≡ false) × (n ≡ does_not_fit)
unfolding roll_of
roll_refused total change n e = go (roll_fits total change) e
  where
    go : (b : Bool) → ◌≡◌ {A = Outcome Side} (refused n) (if b then accepted (record { total = rolled total change; change = 0 }) else refused does_not_fit)
        → (b ≡ false) × (n ≡ does_not_fit)
    go true h = let z : ◌≡◌ {A = ℕ} 0 1 = cc in absurd (omega arith)
    go false h = (refl, cc)

roll_accepted : (total change : ℕ) (x : Side) → accepted x ≡ roll_of total change → (roll_fits total change ≡ true) × (x.total ≡ rolled total change)
unfolding roll_of
roll_accepted total change x e = go (roll_fits total change) e
  where
    go : (b : Bool) → accepted x ≡ (if b then accepted (record { total = rolled total change; change = 0 }) else refused does_not_fit)
        → (b ≡ true) × (x.total ≡ rolled total change)
    go true h = let z : x ≡ record { total = rolled total change; change = 0 } = cc in (refl, ap (λ (y : Side). y.total) z)
    go false h = let z : ◌≡◌ {A = ℕ} 0 1 = cc in absurd (omega arith)

module _ (w : Words) (s cap : ℕ) (a b : DelegationState) (ea : a ≡ side_at w s self) (eb : b ≡ side_at w s other) where
  pub self_not : (n : ℕ) → refused n ≡ roll_of a.total_delegation.0 a.delta_delegation → refused n ≡ seat_epochs w cap s
  unfolding seat_epochs seat_rolls
  self_not n e =
      let h = roll_refused (w (seat s (total_delegation self))) (w (seat s (delta_delegation self))) n (rw ea at e) in
      rw (h.0, h.1)

  module _ (a' : DelegationState) (qa : accepted (side_of a') ≡ roll_of a.total_delegation.0 a.delta_delegation) where
    pub other_not : (n : ℕ) → refused n ≡ roll_of b.total_delegation.0 b.delta_delegation → refused n ≡ seat_epochs w cap s
    unfolding seat_epochs seat_rolls
    other_not n e =
        let x = roll_accepted (w (seat s (total_delegation self))) (w (seat s (delta_delegation self))) _ (rw ea at qa) in
        let h = roll_refused (w (seat s (total_delegation other))) (w (seat s (delta_delegation other))) n (rw eb at e) in
        rw (x.0, h.0, h.1)

    pub both_roll : (b' : DelegationState) → accepted (side_of b') ≡ roll_of b.total_delegation.0 b.delta_delegation → (first later : SeatEligible)
        → first ≡ seat_eligible cap a.total_delegation.0 b.total_delegation.0
        → later ≡ seat_eligible cap a'.total_delegation.0 b'.total_delegation.0 → accepted (record { first = first; later = later }) ≡ seat_epochs w cap s
    unfolding seat_epochs seat_rolls
    both_roll b' qb first later ef el =
        let x = roll_accepted (w (seat s (total_delegation self))) (w (seat s (delta_delegation self))) _ (rw ea at qa) in
        let y = roll_accepted (w (seat s (total_delegation other))) (w (seat s (delta_delegation other))) _ (rw eb at qb) in
        rw (x.0, y.0, ef, el, x.1, y.1, ea, eb)

-- ---- what a seat's answer says

module _ (w : Words) (cap s : ℕ) where
  pub seat_not : (n : ℕ) → refused n ≡ seat_epochs w cap s → (seat_rolls w s ≡ false) × (n ≡ does_not_fit)
  unfolding seat_epochs
  seat_not n e = go (seat_rolls w s) e
    where
      go : (b : Bool)
          → ◌≡◌ {A = Outcome SeatEpochs} (refused n) (if b then accepted
          (record { first = seat_in w cap 0 s; later = seat_in w cap 1 s }) else refused does_not_fit) → (b ≡ false) × (n ≡ does_not_fit)
      go true h = let z : ◌≡◌ {A = ℕ} 0 1 = cc in absurd (omega arith)
      go false h = (refl, cc)

  pub seat_says : (x : SeatEpochs) → accepted x ≡ seat_epochs w cap s → (seat_rolls w s ≡ true) × (x.first ≡ seat_in w cap 0 s) × (x.later ≡ seat_in w cap 1 s)
  unfolding seat_epochs
  seat_says x e = go (seat_rolls w s) e
    where
      go : (b : Bool) → accepted x ≡ (if b then accepted (record { first = seat_in w cap 0 s; later = seat_in w cap 1 s }) else refused does_not_fit)
          → (b ≡ true) × (x.first ≡ seat_in w cap 0 s) × (x.later ≡ seat_in w cap 1 s)
      go true h =
          let z : x ≡ record { first = seat_in w cap 0 s; later = seat_in w cap 1 s } = cc in
          (refl, ap (λ (y : SeatEpochs). y.first) z, ap (λ (y : SeatEpochs). y.later) z)
      go false h = let z : ◌≡◌ {A = ℕ} 0 1 = cc in absurd (omega arith)

-- ---- the loop over the seats

-- the first n seats: all of them roll; the sums over them, and the table
pub record Summed {P : ℕ} (w : Words) (cap : ℕ → ℕ) (n : ℕ) (t : SeatTable P) (first later : ℕ) : Type 0 where
  pub rolls : all_below n (seat_rolls w) ≡ true
  pub first_sum : first ≡ sum_below n (eligible_in w cap 0)
  pub later_sum : later ≡ sum_below n (eligible_in w cap 1)
  pub table : Tabled w cap n t

shared_none : (w : Words) (cap : ℕ → ℕ) (k : ℕ) (l : List (List ℕ)) → Shared w cap k 0 l
shared_none w cap k l = record { share = λ s l. absurd (omega arith) }

pub summed_none : {P : ℕ} (w : Words) (cap : ℕ → ℕ) (t : SeatTable P) → Summed w cap 0 t 0 0
summed_none w cap t = record {
  rolls = all_none _;
  first_sum = sum_none _;
  later_sum = sum_none _;
  table = record { first = shared_none w cap 0 t.first_shares; later = shared_none w cap 1 t.later_shares };
}

-- a seat's total in the k-th passed epoch
seat_total : (w : Words) (cap : ℕ → ℕ) (k s : ℕ) (x : SeatEligible) → x ≡ seat_in w (cap s) k s → x.total_eligible_delegation.0 ≡ eligible_in w cap k s
unfolding seat_eligible eligible_in
seat_total w cap k s x e = ap (λ (v : SeatEligible). v.total_eligible_delegation.0) e

-- a list with the words of one more seat
shared_more : (w : Words) (cap : ℕ → ℕ) (k s : ℕ) (l : List (List ℕ)) (x : SeatEligible) (fee : ℕ) → Shared w cap k s l → s < length l
    → x ≡ seat_in w (cap s) k s → fee ≡ w (seat s delegation_fees) → Shared w cap k (s + 1) (set l s (shares_of x fee))
unfolding seat_eligible ratio_in
shared_more w cap k s l x fee h room e ef = record { share = list_more [] _ l s (shares_of x fee) h.share room (rw (e, ef)) }

pub summed_more : {P : ℕ} (w : Words) (cap : ℕ → ℕ) (s : ℕ) (t u : SeatTable P) (x y : ℕ) → Summed w cap s t x y → (r : SeatEpochs)
    → accepted r ≡ seat_epochs w (cap s) s
    → (x' y' v : ℕ) → x' ≡ x + r.first.total_eligible_delegation.0 → y' ≡ y + r.later.total_eligible_delegation.0 → v ≡ w (seat s delegation_fees)
    → s < length t.first_shares → s < length t.later_shares
    → u.first_shares ≡ set t.first_shares s (shares_of r.first v) → u.later_shares ≡ set t.later_shares s (shares_of r.later v)
    → Summed w cap (s + 1) u x' y'
summed_more w cap s t u x y h r e x' y' v ex ey ev la lb qa qb =
    let says = seat_says w (cap s) s r e in
    record {
      rolls = all_more _ s h.rolls says.0;
      first_sum = omega (arith, h.first_sum, seat_total w cap 0 s r.first says.1, sum_more (eligible_in w cap 0) s);
      later_sum = omega (arith, h.later_sum, seat_total w cap 1 s r.later says.2, sum_more (eligible_in w cap 1) s);
      table = record {
        first = subst (Shared w cap 0 (s + 1)) (sym qa) (shared_more w cap 0 s t.first_shares r.first v h.table.first la says.1 ev);
        later = subst (Shared w cap 1 (s + 1)) (sym qb) (shared_more w cap 1 s t.later_shares r.later v h.table.later lb says.2 ev);
      };
    }

-- ---- the sums' answer

pub sums_done : {P : ℕ} (w : Words) (cap : ℕ → ℕ) (s seats : ℕ) (t : SeatTable P) (x y : ℕ) → s ≡ seats → Summed w cap s t x y
    → accepted (record { first = x; later = y }) ≡ sums_of w cap seats
unfolding sums_of
sums_done w cap s seats t x y e h = rw (← e) (rw (h.rolls, h.first_sum, h.later_sum))

pub sums_not : (w : Words) (cap : ℕ → ℕ) (seats s n : ℕ) → s < seats → refused n ≡ seat_epochs w (cap s) s → refused n ≡ sums_of w cap seats
unfolding sums_of
sums_not w cap seats s n l e =
    let h = seat_not w (cap s) s n e in
    rw (all_not (seat_rolls w) seats s l h.0, h.1)

-- the ways out of a seat
pub ruleset eligibles = (sides_fit, sides_eligible)

pub ruleset seats_roll = (self_not, other_not)
