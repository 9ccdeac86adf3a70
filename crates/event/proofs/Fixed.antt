-- The views of an adjustment and of a reward fix them. Assumes nothing.
use mathlib.Core.Path.{◌≡◌, refl}
use Rattle.types.proofs.Fixed.{by_return}
use Rattle.event.specs.declared.adjust.Adjusted.{Adjusted}
use Rattle.event.specs.declared.event.Reward.{Reward}
use Rattle.event.specs.Adjust.{Adjustment, adjusted_as}
use Rattle.event.specs.Event.{Parts, parts_as}

abbrev adjusted : Adjustment → Adjusted
adjusted a = record { y = record { 0 = a.y }; set_aside = record { 0 = a.set_aside } }

-- two adjustments with the same y and amount set aside are the same
pub adjusted_as_fixes : (a b : Adjusted) → adjusted_as a ≡ adjusted_as b → a ≡ b
adjusted_as_fixes = by_return adjusted_as adjusted (λ a. refl)

abbrev reward : Parts → Reward
reward p = record { delegator_reward = record { 0 = p.delegator }; publisher_reward = record { 0 = p.publisher } }

-- two rewards with the same parts are the same
pub parts_as_fixes : (a b : Reward) → parts_as a ≡ parts_as b → a ≡ b
parts_as_fixes = by_return parts_as reward (λ a. refl)
