-- Document 01's table 'Turned back', and the numbers that document 02 adds: every refusal number by name.
-- The names are the Rust's errors where it has one. Assumes nothing.
use Rattle.std.specs.Prelude.{ℕ}
use Rattle.types.specs.declared.refusals.Refusal.{Refusal}
use Rattle.types.specs.declared.refusals.Refusal.TheVariants.{InvalidImage, InvalidEpoch, InvalidPublisherCaps, InvalidPositions, InvalidY}
use Rattle.types.specs.declared.refusals.Refusal.TheVariants.{InvalidDelegationFee, UnverifiedPublisherCaps, PoolDataAlreadyUpToDate}
use Rattle.types.specs.declared.refusals.Refusal.TheVariants.{OutdatedPublisherCaps, InvalidPublisher, PublisherNotFound, OutdatedPublisherAccounting}
use Rattle.types.specs.declared.refusals.Refusal.TheVariants.{DoesNotFit, ClaimableOverCustody, UnexpectedPositionState, PaymentAboveClaimable}
use Rattle.types.specs.declared.refusals.Refusal.TheVariants.{PublisherStakeAccountMismatch, PublisherCustodyAccountRequired, OutdatedDelegatorAccounting}
use Rattle.types.specs.declared.refusals.Refusal.TheVariants.{WrongSlashEventOrder, InvalidSlashEventIndex, SlashEventAheadOfNow}
use Rattle.types.specs.declared.refusals.Refusal.TheVariants.{PublisherOrRewardAuthorityNeedsToSign, CurrentStakeAccountShouldBeUndelegated}
use Rattle.types.specs.declared.refusals.Refusal.TheVariants.{StakeAccountOwnerNeedsToSign, AccountNotEnoughKeys, NewStakeAccountShouldBeUndelegated}
use Rattle.types.specs.declared.refusals.Refusal.TheVariants.{InvalidWeights, ZeroWeightSum}

-- image size, P, E, n
abbrev pub invalid_image : ℕ
invalid_image = 1

-- epoch seconds 0; fresh at 0
abbrev pub invalid_epoch : ℕ
invalid_epoch = 2

-- caps message
abbrev pub invalid_publisher_caps : ℕ
invalid_publisher_caps = 3

-- positions: not whole nines, over 256, kind, flag
abbrev pub invalid_positions : ℕ
invalid_positions = 4

abbrev pub invalid_y : ℕ
invalid_y = 5

abbrev pub invalid_delegation_fee : ℕ
invalid_delegation_fee = 6

abbrev pub unverified_publisher_caps : ℕ
unverified_publisher_caps = 7

abbrev pub pool_data_already_up_to_date : ℕ
pool_data_already_up_to_date = 8

abbrev pub outdated_publisher_caps : ℕ
outdated_publisher_caps = 9

abbrev pub invalid_publisher : ℕ
invalid_publisher = 10

abbrev pub publisher_not_found : ℕ
publisher_not_found = 11

abbrev pub outdated_publisher_accounting : ℕ
outdated_publisher_accounting = 12

-- a number doesn't fit; n would reach 2^63
abbrev pub does_not_fit : ℕ
does_not_fit = 13

-- claimable over custody: never given, since [8] of document 02 lets such an advance pass
abbrev pub claimable_over_custody : ℕ
claimable_over_custody = 14

abbrev pub unexpected_position_state : ℕ
unexpected_position_state = 15

-- payment above claimable
abbrev pub payment_above_claimable : ℕ
payment_above_claimable = 16

abbrev pub publisher_stake_account_mismatch : ℕ
publisher_stake_account_mismatch = 17

abbrev pub publisher_custody_account_required : ℕ
publisher_custody_account_required = 18

abbrev pub outdated_delegator_accounting : ℕ
outdated_delegator_accounting = 19

abbrev pub wrong_slash_event_order : ℕ
wrong_slash_event_order = 20

abbrev pub invalid_slash_event_index : ℕ
invalid_slash_event_index = 21

-- slash event ahead of now
abbrev pub slash_event_ahead_of_now : ℕ
slash_event_ahead_of_now = 22

abbrev pub publisher_or_reward_authority_needs_to_sign : ℕ
publisher_or_reward_authority_needs_to_sign = 23

abbrev pub current_stake_account_should_be_undelegated : ℕ
current_stake_account_should_be_undelegated = 24

abbrev pub stake_account_owner_needs_to_sign : ℕ
stake_account_owner_needs_to_sign = 25

abbrev pub account_not_enough_keys : ℕ
account_not_enough_keys = 26

abbrev pub new_stake_account_should_be_undelegated : ℕ
new_stake_account_should_be_undelegated = 27

-- [1] of document 02: more than 64 weights, or an output list of another length
abbrev pub invalid_weights : ℕ
invalid_weights = 28

-- [1] of document 02: the weights add up to 0
abbrev pub zero_weight_sum : ℕ
zero_weight_sum = 29

-- the number of a refusal
abbrev pub number_of : Refusal → ℕ
number_of InvalidImage = invalid_image
number_of InvalidEpoch = invalid_epoch
number_of InvalidPublisherCaps = invalid_publisher_caps
number_of InvalidPositions = invalid_positions
number_of InvalidY = invalid_y
number_of InvalidDelegationFee = invalid_delegation_fee
number_of UnverifiedPublisherCaps = unverified_publisher_caps
number_of PoolDataAlreadyUpToDate = pool_data_already_up_to_date
number_of OutdatedPublisherCaps = outdated_publisher_caps
number_of InvalidPublisher = invalid_publisher
number_of PublisherNotFound = publisher_not_found
number_of OutdatedPublisherAccounting = outdated_publisher_accounting
number_of DoesNotFit = does_not_fit
number_of ClaimableOverCustody = claimable_over_custody
number_of UnexpectedPositionState = unexpected_position_state
number_of PaymentAboveClaimable = payment_above_claimable
number_of PublisherStakeAccountMismatch = publisher_stake_account_mismatch
number_of PublisherCustodyAccountRequired = publisher_custody_account_required
number_of OutdatedDelegatorAccounting = outdated_delegator_accounting
number_of WrongSlashEventOrder = wrong_slash_event_order
number_of InvalidSlashEventIndex = invalid_slash_event_index
number_of SlashEventAheadOfNow = slash_event_ahead_of_now
number_of PublisherOrRewardAuthorityNeedsToSign = publisher_or_reward_authority_needs_to_sign
number_of CurrentStakeAccountShouldBeUndelegated = current_stake_account_should_be_undelegated
number_of StakeAccountOwnerNeedsToSign = stake_account_owner_needs_to_sign
number_of AccountNotEnoughKeys = account_not_enough_keys
number_of NewStakeAccountShouldBeUndelegated = new_stake_account_should_be_undelegated
number_of InvalidWeights = invalid_weights
number_of ZeroWeightSum = zero_weight_sum
