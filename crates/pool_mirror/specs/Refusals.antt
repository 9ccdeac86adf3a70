-- The refusals of each call: these and no others, and none of them is 0. Assumes nothing.
use Rattle.std.specs.Prelude.{◌≡◌, Bool, true, false, ◌||◌, List, [], ◌∷◌, ℕ, eqb}
use Rattle.types.specs.Base.{Outcome, refused, accepted}
use Rattle.types.specs.Refusals.{invalid_image, invalid_epoch, invalid_publisher_caps, invalid_positions, invalid_y, invalid_delegation_fee}
use Rattle.types.specs.Refusals.{unverified_publisher_caps, pool_data_already_up_to_date, outdated_publisher_caps, invalid_publisher}
use Rattle.types.specs.Refusals.{publisher_not_found, outdated_publisher_accounting, does_not_fit, unexpected_position_state, payment_above_claimable}
use Rattle.types.specs.Refusals.{publisher_stake_account_mismatch, publisher_custody_account_required, outdated_delegator_accounting}
use Rattle.types.specs.Refusals.{wrong_slash_event_order, invalid_slash_event_index, slash_event_ahead_of_now}
use Rattle.types.specs.Refusals.{publisher_or_reward_authority_needs_to_sign, current_stake_account_should_be_undelegated}
use Rattle.types.specs.Refusals.{stake_account_owner_needs_to_sign, account_not_enough_keys, new_stake_account_should_be_undelegated}
use Rattle.types.specs.Refusals.{invalid_weights, zero_weight_sum}

-- whether a number is in a list
abbrev pub has : List ℕ → ℕ → Bool
has [] n = false
has (k ∷ ks) n = eqb n k || has ks n

-- a refusal's number is one of these
unfoldable pub Among : {A : Type 0} → List ℕ → Outcome A → Type 0
Among ks (refused n) = has ks n ≡ true
Among ks (accepted a) = Unit {0}

abbrev pub fresh_refusals : List ℕ
fresh_refusals = invalid_image ∷ invalid_epoch ∷ []

-- of an advance and of a forecast; 14 is none of them ([8] of document 02)
abbrev pub advance_refusals : List ℕ
advance_refusals =
    invalid_image ∷ invalid_epoch ∷ invalid_publisher_caps ∷ invalid_y ∷ unverified_publisher_caps ∷ pool_data_already_up_to_date ∷ outdated_publisher_caps
    ∷ does_not_fit ∷ []

abbrev pub payment_refusals : List ℕ
payment_refusals =
    invalid_image ∷ invalid_positions ∷ invalid_publisher ∷ publisher_not_found ∷ outdated_publisher_accounting ∷ does_not_fit ∷ payment_above_claimable
    ∷ publisher_stake_account_mismatch ∷ publisher_custody_account_required ∷ []

abbrev pub add_refusals : List ℕ
add_refusals = invalid_image ∷ invalid_publisher ∷ publisher_not_found ∷ outdated_publisher_accounting ∷ does_not_fit ∷ []

abbrev pub remove_refusals : List ℕ
remove_refusals = invalid_image ∷ invalid_publisher ∷ publisher_not_found ∷ outdated_publisher_accounting ∷ does_not_fit ∷ unexpected_position_state ∷ []

abbrev pub create_refusals : List ℕ
create_refusals = invalid_image ∷ invalid_publisher ∷ publisher_not_found ∷ invalid_slash_event_index ∷ does_not_fit ∷ []

abbrev pub slash_refusals : List ℕ
slash_refusals =
    invalid_image ∷ outdated_delegator_accounting ∷ slash_event_ahead_of_now ∷ wrong_slash_event_order ∷ does_not_fit ∷ outdated_publisher_accounting
    ∷ invalid_publisher ∷ publisher_not_found ∷ []

abbrev pub fee_refusals : List ℕ
fee_refusals = invalid_image ∷ invalid_delegation_fee ∷ []

abbrev pub stake_account_refusals : List ℕ
stake_account_refusals =
    invalid_image ∷ invalid_positions ∷ invalid_publisher ∷ publisher_not_found ∷ publisher_or_reward_authority_needs_to_sign ∷ account_not_enough_keys
    ∷ publisher_stake_account_mismatch ∷ current_stake_account_should_be_undelegated ∷ stake_account_owner_needs_to_sign
    ∷ new_stake_account_should_be_undelegated ∷ []

abbrev pub position_state_refusals : List ℕ
position_state_refusals = invalid_positions ∷ does_not_fit ∷ []

abbrev pub split_refusals : List ℕ
split_refusals = invalid_weights ∷ does_not_fit ∷ zero_weight_sum ∷ []
