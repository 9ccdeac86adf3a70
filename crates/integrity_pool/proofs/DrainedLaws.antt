-- Request [8] on the calls: an advance that was refused with 14 passes, with y' 0 and nothing set aside, and every other answer stands; so of a forecast.
-- Assumes nothing.
use mathlib.Core.Path.{◌≡◌, refl, ap, ◌∙◌}
use mathlib.Core.Bool.{not}
use mathlib.Core.List.{List}
use Prim.Native.Nat.{ℕ, ◌+◌, ◌/◌, ◌<◌}
use lib.Dec.{leb, eqb}
use Rattle.std.specs.Prelude.{if◌then◌else◌}
use Rattle.types.specs.Base.{word, half, Outcome, refused, accepted, map_outcome, all_below}
use Rattle.types.specs.Refusals.{unverified_publisher_caps, pool_data_already_up_to_date, outdated_publisher_caps, does_not_fit}
use Rattle.types.proofs.OutcomeLaws.{map_accepted}
use Rattle.publisher_caps.specs.Message.{time_of, negative_time}
use Rattle.event.specs.Adjust.{Adjustment, nothing}
use Rattle.event.proofs.AdjustLaws.{drained_is}
use Rattle.event.proofs.EarlierLaws.{earlier_adjust_of, without_14, test_without, map_without, adjust_without}
use Rattle.image.specs.Layout.{last_updated_epoch, claimable_rewards, num_events, head, Words, read, image}
use Rattle.image.specs.Seats.{seats_of}
use Rattle.advance_plan.specs.declared.Given.{Given}
use Rattle.advance_plan.specs.Advance.{Advanced, seat_cap, seat_rolls, forecast_sum, passed_of, adjustment_of, answer_with, advance_of, forecast_of}
use Rattle.advance_plan.specs.Advance.{advanced_words}
use Rattle.integrity_pool.specs.Calls.{checked_then, advance_call, advance_image, forecast_call}
use Rattle.integrity_pool.proofs.AcceptedLaws.{adjustment_accepted, then_accepted, total_eligible, advance_accepted}

-- ---- 'Such an advance now passes', 'Every advance accepted earlier answers as it did'

-- the definitions before the request
unfoldable pub earlier_adjustment_of : (P : ℕ) → Words → List ℕ → Given → (sum : ℕ) → Outcome Adjustment
earlier_adjustment_of P w m g sum =
    if not (eqb g.is_verified 1) then refused unverified_publisher_caps
    else if leb g.current_epoch (w (head last_updated_epoch)) then refused pool_data_already_up_to_date
    else if negative_time m then refused does_not_fit
    else if not (eqb g.current_epoch (time_of m / g.epoch_duration)) then refused outdated_publisher_caps
    else if not (all_below (seats_of P w) (seat_rolls w)) then refused does_not_fit
    else if leb word sum then refused does_not_fit
    else if leb half (w (head num_events) + passed_of w g) then refused does_not_fit
    else earlier_adjust_of sum g.y (w (head claimable_rewards)) g.pool_reward_custody_balance

adjustment_without : (P : ℕ) (w : Words) (m : List ℕ) (g : Given) (sum : ℕ)
    → adjustment_of P w m g sum ≡ without_14 nothing (earlier_adjustment_of P w m g sum)
unfolding adjustment_of earlier_adjustment_of
adjustment_without P w m g sum = search (test_without, adjust_without) depth 30

module _ (P E : ℕ) (img m : List ℕ) (g : Given) where
  unfoldable pub earlier_advance : Outcome Advanced
  earlier_advance =
      checked_then P E img m g (map_outcome (answer_with P (read P E img) m)
      (earlier_adjustment_of P (read P E img) m g (total_eligible P (read P E img) m g)))

  unfoldable pub earlier_forecast : Outcome ℕ
  earlier_forecast =
      checked_then P E img m g (map_outcome (λ a. a.set_aside)
      (earlier_adjustment_of P (read P E img) m g
      (forecast_sum (read P E img) (seat_cap (read P E img) m) (seats_of P (read P E img)) (passed_of (read P E img) g))))

  checked_without : {A : Type 0} (answer : A) (earlier now : Outcome A) → now ≡ without_14 answer earlier
      → checked_then P E img m g now ≡ without_14 answer (checked_then P E img m g earlier)
  unfolding checked_then
  checked_without answer earlier now e = search test_without depth 20

  pub advance_without : advance_call P E img m g ≡ without_14 (answer_with P (read P E img) m nothing) earlier_advance
  unfolding earlier_advance advance_call advance_of
  advance_without =
      checked_without _ _ _ (ap (map_outcome (answer_with P (read P E img) m)) (adjustment_without P (read P E img) m g _) ∙ map_without _ nothing _)

  pub forecast_without : forecast_call P E img m g ≡ without_14 0 earlier_forecast
  unfolding earlier_forecast forecast_call forecast_of
  forecast_without = checked_without _ _ _ (ap (map_outcome (λ a. a.set_aside)) (adjustment_without P (read P E img) m g _) ∙ map_without _ nothing _)

  pub advance_as_earlier : (a : Advanced) → earlier_advance ≡ accepted a → advance_call P E img m g ≡ accepted a
  unfolding without_14
  advance_as_earlier a e = advance_without ∙ ap (without_14 _) e

  pub forecast_as_earlier : (a : ℕ) → earlier_forecast ≡ accepted a → forecast_call P E img m g ≡ accepted a
  unfolding without_14
  forecast_as_earlier a e = forecast_without ∙ ap (without_14 _) e

  -- ---- 'y' is 0, nothing is set aside, events are written and totals roll', wherever claimable is above custody

  module _ (drained : g.pool_reward_custody_balance < read P E img (head claimable_rewards)) where
    pub advance_drained : (a : Advanced) → advance_call P E img m g ≡ accepted a → a ≡ answer_with P (read P E img) m nothing
    advance_drained a e =
        let t = advance_accepted P E img m g a e in
        t.answer ∙ ap (answer_with P (read P E img) m) (drained_is _ _ _ _ drained t.adjustment t.adjusts.adjusted)

    -- the words of any accepted advance, at y' 0
    pub image_drained : (a : Advanced) → advance_call P E img m g ≡ accepted a
        → advance_image P E img m g ≡ image P E (advanced_words P E (read P E img) m g.current_epoch 0 0)
    unfolding advance_image answer_with
    image_drained a e = rw (e, advance_drained a e) refl

    pub forecast_drained : (set_aside : ℕ) → forecast_call P E img m g ≡ accepted set_aside → set_aside ≡ 0
    unfolding forecast_call forecast_of
    forecast_drained set_aside e =
        let t = then_accepted P E img m g _ set_aside e in
        let q = map_accepted (λ (a : Adjustment). a.set_aside) _ set_aside t.1 in
        let k = adjustment_accepted P (read P E img) m g _ q.0 q.1.0 in
        q.1.1 ∙ ap (λ (a : Adjustment). a.set_aside) (drained_is _ _ _ _ drained q.0 k.adjusted)
