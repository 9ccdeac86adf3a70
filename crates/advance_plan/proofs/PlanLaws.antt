-- The parts of a plan, one law for each way out of the code. Assumes nothing.
use Rattle.std.proofs.Common.{◌≡◌, ℕ, zero, suc, ◌+◌, ◌-◌, ◌*◌, ◌/◌, ◌<◌, ◌≤◌, Bool, true, false, not, eqb, ltb, leb}
use Rattle.std.proofs.Common.{List, get_or, sym, refl, ap, ◌∙◌, subst, ap₂, arith, ltb-false, ltb-true, le-leb, leb-false}
use borrow.Author.Tests.{lt-leb}
use Rattle.std.specs.Prelude.{Option, Some, None, if◌then◌else◌}
use Rattle.types.specs.Base.{word, half, Outcome, refused, accepted, map_outcome, sum_below, all_below}
use Rattle.types.specs.Refusals.{unverified_publisher_caps, pool_data_already_up_to_date, outdated_publisher_caps, does_not_fit}
use Rattle.types.specs.Wide.{fit_of}
use Rattle.types.proofs.Below.{sum_same}
use Rattle.publisher_caps.specs.Message.{time_of}
use Rattle.event.specs.Adjust.{Adjustment, adjust_of}
use Rattle.event.proofs.AdjustLaws.{adjust_keeps}
use Rattle.image.specs.Layout.{last_updated_epoch, claimable_rewards, num_events, head, Words}
use Rattle.image.specs.Seats.{seats_of}
use Rattle.advance_plan.specs.declared.Given.{Given}
use Rattle.advance_plan.specs.declared.plan.AdvancePlan.{AdvancePlan}
use Rattle.advance_plan.specs.declared.table.SeatTable.{SeatTable}
use Rattle.advance_plan.specs.Advance.{seat_cap, seat_rolls, eligible_in, ratio_in, eligible_sum, forecast_sum}
use Rattle.advance_plan.specs.Advance.{passed_of, adjustment_of, answer_with, advance_of, forecast_of}
use Rattle.advance_plan.specs.Stake.{Sums, sums_of, Tabled}
use Rattle.advance_plan.specs.Rows.{Matched}
use Rattle.advance_plan.specs.Plan.{due_of, sum_of, adjust_fit, planned_of, planned_as, Worked}

-- ---- whether an advance is due

-- the first four refusals, and what comes behind them
abbrev chain : {A : Type 0} → (b1 b2 b3 b4 : Bool) → Outcome A → Outcome A
chain b1 b2 b3 b4 x =
    if not b1 then refused unverified_publisher_caps
    else if b2 then refused pool_data_already_up_to_date
    else if b3 then refused does_not_fit
    else if not b4 then refused outdated_publisher_caps
    else x

chain_refused : (b1 b2 b3 b4 : Bool) (d k : ℕ) (x : Outcome Adjustment) → chain b1 b2 b3 b4 (accepted d) ≡ refused k → refused k ≡ chain b1 b2 b3 b4 x
chain_refused false b2 b3 b4 d k x h = cc
chain_refused true true b3 b4 d k x h = cc
chain_refused true false true b4 d k x h = cc
chain_refused true false false false d k x h = cc
chain_refused true false false true d k x h = let z : ◌≡◌ {A = ℕ} 0 1 = cc in absurd (omega arith)

chain_accepted : (b1 b2 b3 b4 : Bool) (d n : ℕ) (x : Outcome Adjustment) → chain b1 b2 b3 b4 (accepted d) ≡ accepted n
    → (b2 ≡ false) × (n ≡ d) × (x ≡ chain b1 b2 b3 b4 x)
chain_accepted false b2 b3 b4 d n x h = let z : ◌≡◌ {A = ℕ} 0 1 = cc in absurd (omega arith)
chain_accepted true true b3 b4 d n x h = let z : ◌≡◌ {A = ℕ} 0 1 = cc in absurd (omega arith)
chain_accepted true false true b4 d n x h = let z : ◌≡◌ {A = ℕ} 0 1 = cc in absurd (omega arith)
chain_accepted true false false false d n x h = let z : ◌≡◌ {A = ℕ} 0 1 = cc in absurd (omega arith)
chain_accepted true false false true d n x h = (refl, cc, refl)

-- some epoch has passed
pub due_some : (last time passed : ℕ) (g : Given) → accepted passed ≡ due_of last time g → 1 ≤ passed
unfolding due_of
due_some last time passed g e =
    let x =
    chain_accepted (eqb g.is_verified 1) (leb g.current_epoch last) (leb half time) (eqb g.current_epoch (time / g.epoch_duration))
    (g.current_epoch - last) passed (refused 0) (sym e) in
    omega (arith, leb-false _ _ x.0, x.1)

-- what comes behind them
abbrev rest : (P : ℕ) → Words → Given → (sum : ℕ) → Outcome Adjustment
rest P w g sum =
    if not (all_below (seats_of P w) (seat_rolls w)) then refused does_not_fit
    else if leb word sum then refused does_not_fit
    else if leb half (w (head num_events) + passed_of w g) then refused does_not_fit
    else adjust_of sum g.y (w (head claimable_rewards)) g.pool_reward_custody_balance

module _ (P : ℕ) (w : Words) (m : List ℕ) (g : Given) where
  due_refuses : (k sum : ℕ) → due_of (w (head last_updated_epoch)) (time_of m) g ≡ refused k → refused k ≡ adjustment_of P w m g sum
  unfolding due_of adjustment_of
  due_refuses k sum e =
      chain_refused (eqb g.is_verified 1) (leb g.current_epoch (w (head last_updated_epoch))) (leb half (time_of m))
      (eqb g.current_epoch (time_of m / g.epoch_duration))
      (passed_of w g) k (rest P w g sum) e

  module _ (passed : ℕ) (e : due_of (w (head last_updated_epoch)) (time_of m) g ≡ accepted passed) where
    due_says : (sum : ℕ) → (leb g.current_epoch (w (head last_updated_epoch)) ≡ false) × (passed ≡ passed_of w g) × (rest P w g sum ≡ adjustment_of P w m g sum)
    unfolding due_of adjustment_of
    due_says sum =
        chain_accepted (eqb g.is_verified 1) (leb g.current_epoch (w (head last_updated_epoch))) (leb half (time_of m))
        (eqb g.current_epoch (time_of m / g.epoch_duration))
        (passed_of w g) passed (rest P w g sum) e

    due_later : w (head last_updated_epoch) < g.current_epoch
    due_later = leb-false _ _ (due_says 0).0

    passed_is : passed ≡ passed_of w g
    passed_is = (due_says 0).1

-- ---- item 5, for a sum that is a word or past one

module _ (n passed claimable : ℕ) (g : Given) where
  -- an accepted one has a count that fits, and an amount that fits on top of claimable
  adjust_says : (r : Option ℕ) (a : Adjustment) → adjust_fit r n passed claimable g ≡ accepted a
      → (n + passed < half) × (claimable + a.set_aside < word)
  unfolding adjust_fit
  adjust_says None a e = let z : ◌≡◌ {A = ℕ} 0 1 = cc in absurd (omega arith)
  adjust_says (Some sum) a e = go (leb half (n + passed)) refl e
    where
      go : (b : Bool) → leb half (n + passed) ≡ b → (if b then refused does_not_fit else adjust_of sum g.y claimable g.pool_reward_custody_balance) ≡ accepted a
          → (n + passed < half) × (claimable + a.set_aside < word)
      go true q h = let z : ◌≡◌ {A = ℕ} 0 1 = cc in absurd (omega arith)
      go false q h = (leb-false half (n + passed) q, (adjust_keeps sum g.y claimable g.pool_reward_custody_balance a h).fits)

-- ---- sums over the passed epochs

-- where every number but the first is the same
steady_more : (f : ℕ → ℕ) (x : ℕ) → ((k : ℕ) → f (suc k) ≡ x) → (n : ℕ) → sum_below (suc n) f ≡ f 0 + n * x
unfolding sum_below
steady_more f x h zero = omega arith
steady_more f x h (suc n) = let a = steady_more f x h n in let b = h n in omega arith

steady : (f : ℕ → ℕ) (x : ℕ) → ((k : ℕ) → f (suc k) ≡ x) → (n : ℕ) → 1 ≤ n → sum_below n f ≡ f 0 + (n - 1) * x
steady f x h zero l = absurd (omega arith)
steady f x h (suc n) l = steady_more f x h n ∙ ap (λ (k : ℕ). f 0 + k * x) (omega arith)

module _ (w : Words) (cap : ℕ → ℕ) (seats : ℕ) where
  later_same : (k : ℕ) → sum_below seats (eligible_in w cap (suc k)) ≡ sum_below seats (eligible_in w cap 1)
  unfolding eligible_in
  later_same k = sum_same _ _ seats (λ s l. refl)

  -- T is the first epoch's sum and as often a later one's as epochs passed besides
  pub eligible_sum_law : (passed : ℕ) → 1 ≤ passed
      → eligible_sum w cap seats passed ≡ sum_below seats (eligible_in w cap 0) + (passed - 1) * sum_below seats (eligible_in w cap 1)
  unfolding eligible_sum
  eligible_sum_law passed h = steady (λ k. sum_below seats (eligible_in w cap k)) _ later_same passed h

  -- the forecast's has a later one's in place of the first
  pub forecast_sum_law : (passed : ℕ) → 1 ≤ passed
      → forecast_sum w cap seats passed ≡ sum_below seats (eligible_in w cap 1) + (passed - 1) * sum_below seats (eligible_in w cap 1)
  unfolding forecast_sum
  forecast_sum_law passed h = steady (λ k. sum_below seats (eligible_in w cap (suc k))) _ (λ k. later_same (suc k)) passed h

  sum_parts : (every_rolled : Bool) (first later passed : ℕ) → 1 ≤ passed → first ≡ sum_below seats (eligible_in w cap 0)
      → later ≡ sum_below seats (eligible_in w cap 1)
      → (if every_rolled then later else first) + (passed - 1) * later ≡ sum_of every_rolled w cap seats passed
  unfolding sum_of
  sum_parts true first later passed h ef el = rw el (sym (forecast_sum_law passed h))
  sum_parts false first later passed h ef el = rw (ef, el) (sym (eligible_sum_law passed h))

caps_same : (w : Words) (cap cap' : ℕ → ℕ) (seats k : ℕ) → ((s : ℕ) → s < seats → cap s ≡ cap' s)
    → sum_below seats (eligible_in w cap k) ≡ sum_below seats (eligible_in w cap' k)
unfolding eligible_in
caps_same w cap cap' seats k h = sum_same _ _ seats (λ s l. rw (h s l))

-- ---- the plan, from what is due

fits_rest : (P : ℕ) (w : Words) (g : Given) (sum : ℕ) → all_below (seats_of P w) (seat_rolls w) ≡ true
    → adjust_fit (fit_of sum) (w (head num_events)) (passed_of w g) (w (head claimable_rewards)) g ≡ rest P w g sum
unfolding fit_of adjust_fit
fits_rest P w g sum e = rw e (go (ltb sum word) refl)
  where
    go : (b : Bool) → ltb sum word ≡ b
        → adjust_fit (if b then Some sum else None) (w (head num_events)) (passed_of w g) (w (head claimable_rewards)) g
        ≡ (if leb word sum then refused does_not_fit
        else if leb half (w (head num_events) + passed_of w g) then refused does_not_fit
        else adjust_of sum g.y (w (head claimable_rewards)) g.pool_reward_custody_balance)
    go true q = rw (lt-leb word sum (ltb-true sum word q))
    go false q = rw (le-leb word sum (ltb-false sum word q))

-- what the seats' sums say
module _ (w : Words) (cap : ℕ → ℕ) (seats : ℕ) where
  sums_refused : (n : ℕ) → refused n ≡ sums_of w cap seats → (all_below seats (seat_rolls w) ≡ false) × (n ≡ does_not_fit)
  unfolding sums_of
  sums_refused n e = go (all_below seats (seat_rolls w)) e
    where
      go : (b : Bool)
          → ◌≡◌ {A = Outcome Sums} (refused n) (if b then accepted
          (record { first = sum_below seats (eligible_in w cap 0); later = sum_below seats (eligible_in w cap 1) }) else refused does_not_fit)
          → (b ≡ false) × (n ≡ does_not_fit)
      go true h = let z : ◌≡◌ {A = ℕ} 0 1 = cc in absurd (omega arith)
      go false h = (refl, cc)

  sums_accepted : (x : Sums) → accepted x ≡ sums_of w cap seats
      → (all_below seats (seat_rolls w) ≡ true) × (x.first ≡ sum_below seats (eligible_in w cap 0)) × (x.later ≡ sum_below seats (eligible_in w cap 1))
  unfolding sums_of
  sums_accepted x e = go (all_below seats (seat_rolls w)) e
    where
      go : (b : Bool)
          → accepted x
          ≡ (if b then accepted
          (record { first = sum_below seats (eligible_in w cap 0); later = sum_below seats (eligible_in w cap 1) }) else refused does_not_fit)
          → (b ≡ true) × (x.first ≡ sum_below seats (eligible_in w cap 0)) × (x.later ≡ sum_below seats (eligible_in w cap 1))
      go true h =
          let z : x ≡ record { first = sum_below seats (eligible_in w cap 0); later = sum_below seats (eligible_in w cap 1) } = cc in
          (refl, ap (λ (y : Sums). y.first) z, ap (λ (y : Sums). y.later) z)
      go false h = let z : ◌≡◌ {A = ℕ} 0 1 = cc in absurd (omega arith)

-- by the words that were read
module _ (every_rolled : Bool) (P : ℕ) (w : Words) (m : List ℕ) (g : Given) {last time : ℕ} (el : last ≡ w (head last_updated_epoch)) (et : time ≡ time_of m)
  where
    due_read : due_of last time g ≡ due_of (w (head last_updated_epoch)) (time_of m) g
    due_read = ap₂ (λ (l t : ℕ). due_of l t g) el et

    pub due_refused : {n : ℕ} → refused n ≡ due_of last time g → refused n ≡ planned_of every_rolled P w m g
    unfolding planned_of
    due_refused {n} e = due_refuses P w m g n _ (sym (e ∙ due_read))

    module _ {passed : ℕ} (e : accepted passed ≡ due_of last time g) where
      due : due_of (w (head last_updated_epoch)) (time_of m) g ≡ accepted passed
      due = sym (e ∙ due_read)

      module _ {seats : ℕ} (es : seats ≡ seats_of P w) {caps marks : List ℕ} (mt : Matched w m seats caps marks) where
        -- a seat does not roll
        pub rolls_not : {n : ℕ} → refused n ≡ sums_of w (λ (s : ℕ). get_or caps s 0) seats → refused n ≡ planned_of every_rolled P w m g
        unfolding planned_of
        rolls_not {n} h =
            let x = sums_refused w (λ (s : ℕ). get_or caps s 0) seats n h in
            let f : all_below (seats_of P w) (seat_rolls w) ≡ false = subst (λ (k : ℕ). all_below k (seat_rolls w) ≡ false) es x.0 in
            let q = (due_says P w m g passed due (sum_of every_rolled w (seat_cap w m) (seats_of P w) (passed_of w g))).2 in
            rw x.1 (rw f at q)

        module _ {sums : Sums} (h : accepted sums ≡ sums_of w (λ (s : ℕ). get_or caps s 0) seats)
            {r : Option ℕ} (ef : r ≡ fit_of ((if every_rolled then sums.later else sums.first) + (passed - 1) * sums.later))
            {n claimable : ℕ} (en : n ≡ w (head num_events)) (ec : claimable ≡ w (head claimable_rewards))
          where
            adjust_read : adjust_fit r n passed claimable g ≡ adjust_fit r (w (head num_events)) passed (w (head claimable_rewards)) g
            adjust_read = ap₂ (λ (x y : ℕ). adjust_fit r x passed y g) en ec

            total_is : (if every_rolled then sums.later else sums.first) + (passed - 1) * sums.later
                ≡ sum_of every_rolled w (seat_cap w m) (seats_of P w) (passed_of w g)
            total_is =
                let x = sums_accepted w (λ (s : ℕ). get_or caps s 0) seats sums h in
                sum_parts w (seat_cap w m) seats every_rolled _ _ passed (due_some _ _ _ g e)
                (x.1 ∙ caps_same w _ (seat_cap w m) seats 0 mt.cap) (x.2 ∙ caps_same w _ (seat_cap w m) seats 1 mt.cap)
                ∙ ap₂ (sum_of every_rolled w (seat_cap w m)) es (passed_is P w m g passed due)

            -- all seats roll
            pub sums_planned : {o : Outcome Adjustment} → o ≡ adjust_fit r n passed claimable g → o ≡ planned_of every_rolled P w m g
            unfolding planned_of
            sums_planned a =
                let rolls : all_below (seats_of P w) (seat_rolls w) ≡ true =
                subst (λ (k : ℕ). all_below k (seat_rolls w) ≡ true) es (sums_accepted w (λ (s : ℕ). get_or caps s 0) seats sums h).0 in
                a ∙ adjust_read ∙ rw (ef, total_is, passed_is P w m g passed due) (fits_rest P w g _ rolls) ∙ (due_says P w m g passed due _).2

            pub all_worked : {Q : ℕ} (t : SeatTable Q) (plan : AdvancePlan) → Tabled w (λ (s : ℕ). get_or caps s 0) seats t → seats ≤ Q → plan.seats ≡ seats
                → plan.marks.words ≡ marks
                → accepted (planned_as plan) ≡ adjust_fit r n passed claimable g
                → Worked P w m plan t g.current_epoch
            unfolding ratio_in
            all_worked t plan tb room ep em ea =
                let x = adjust_says (w (head num_events)) passed (w (head claimable_rewards)) g r (planned_as plan) (sym (ea ∙ adjust_read)) in
                record {
                  seats_is = ep ∙ es;
                  rolls = rw ep ((sums_accepted w (λ (s : ℕ). get_or caps s 0) seats sums h).0);
                  table = rw ep (record {
                    first = record { share = λ s l. rw (← mt.cap s l) (tb.first.share s l) };
                    later = record { share = λ s l. rw (← mt.cap s l) (tb.later.share s l) };
                  });
                  room = omega arith;
                  marks = rw (ep, em) mt.mark;
                  unmarked = rw em mt.rest;
                  later = due_later P w m g passed due;
                  count = omega (arith, passed_is P w m g passed due);
                  covers = omega arith;
                }

-- the ways out of a plan
pub ruleset plans = (due_refused, due_some, rolls_not)

-- ---- what a plan says of the calls

pub plan_advances : (P : ℕ) (w : Words) (m : List ℕ) (g : Given) → map_outcome (answer_with P w m) (planned_of false P w m g) ≡ advance_of P w m g
unfolding planned_of advance_of sum_of
plan_advances P w m g = refl

pub plan_forecasts : (P : ℕ) (w : Words) (m : List ℕ) (g : Given)
    → map_outcome (λ (a : Adjustment). a.set_aside) (planned_of true P w m g) ≡ forecast_of P w m g
unfolding planned_of forecast_of sum_of
plan_forecasts P w m g = refl
