-- Item 3 of document 01: eligible amounts and ratios. Assumes nothing.
use Rattle.std.specs.Prelude.{ℕ, ◌-◌, ◌*◌, ◌/◌, min, eqb, if◌then◌else◌}
use Rattle.types.specs.Base.{M}
use Rattle.event.specs.declared.eligible.EligibleDelegationData.{EligibleDelegationData}

-- self eligible = smaller of cap and self total
unfoldable pub self_eligible : (cap self_total : ℕ) → ℕ
self_eligible cap self_total = min cap self_total

-- other eligible = smaller of the cap's rest and other total
unfoldable pub other_eligible : (cap self_total other_total : ℕ) → ℕ
other_eligible cap self_total other_total = min (cap - self_eligible cap self_total) other_total

-- a ratio is M times eligible over total, 0 for total 0
unfoldable pub ratio_of : (eligible total : ℕ) → ℕ
ratio_of eligible total = if eqb total 0 then 0 else M * eligible / total

-- each side's ratio
abbrev pub self_ratio : (cap self_total : ℕ) → ℕ
self_ratio cap self_total = ratio_of (self_eligible cap self_total) self_total

abbrev pub other_ratio : (cap self_total other_total : ℕ) → ℕ
other_ratio cap self_total other_total = ratio_of (other_eligible cap self_total other_total) other_total

-- both sides, from the cap and the two totals
unfoldable pub eligible_of : (cap self_total other_total : ℕ) → EligibleDelegationData
eligible_of cap self_total other_total = record {
  self_eligible_delegation = record { 0 = self_eligible cap self_total };
  other_eligible_delegation = record { 0 = other_eligible cap self_total other_total };
  reward_ratios = record {
    self_reward_ratio = record { 0 = self_ratio cap self_total };
    other_reward_ratio = record { 0 = other_ratio cap self_total other_total };
  };
}
