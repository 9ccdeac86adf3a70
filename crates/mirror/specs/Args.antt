-- A line's numbers and keys, as the journal's reader leaves them, and what the library is given of them. Assumes nothing.
use Rattle.std.specs.Prelude.{ℕ, List, Option, None, Some}
use Rattle.positions.specs.declared.Key.{Key}
use Rattle.positions.specs.declared.position.PositionState.{PositionState}
use Rattle.positions.specs.Positions.{key_from}
use Rattle.image.specs.Seats.{zero_key}
use Rattle.advance_plan.specs.declared.Given.{Given}
use Rattle.pool.specs.declared.changes.Delegation.{Delegation}
use Rattle.integrity_pool.specs.declared.payment.DelegationRecord.{DelegationRecord}
use Rattle.integrity_pool.specs.declared.payment.Claim.{Claim}
use Rattle.integrity_pool.specs.declared.slash.Slashing.{Slashing}
use Rattle.integrity_pool.specs.declared.stake_account.StakeAccounts.{StakeAccounts}
use Rattle.journal.specs.declared.values.Value.{Value}
use Rattle.journal.specs.Values as line

-- the number of field k
abbrev pub number_at : List Value → (k : ℕ) → ℕ
number_at values k = line.number_at values k

-- the state of field k
abbrev pub state_at : List Value → (k : ℕ) → PositionState
state_at values k = line.state_at values k

-- a key by its words, or none
abbrev pub key_of_words : Option (List ℕ) → Option Key
key_of_words (Some words) = Some (key_from words 0)
key_of_words None = None

-- the key of field k, or none
abbrev pub key_or_none : List Value → (k : ℕ) → Option Key
key_or_none values k = key_of_words (line.key_at values k)

-- the same, the zero key where it is none
abbrev pub or_zero_key : Option Key → Key
or_zero_key (Some key) = key
or_zero_key None = zero_key

abbrev pub key_at : List Value → (k : ℕ) → Key
key_at values k = or_zero_key (key_or_none values k)

-- RECORD_EPOCH NEXT_INDEX, fields 3 and 4
abbrev pub record_in : List Value → DelegationRecord
record_in values = record { last_epoch = record { 0 = number_at values 3 }; next_slash_event_index = number_at values 4 }

-- NOW PUBLISHER ACCOUNT
abbrev pub delegation_in : List Value → Delegation
delegation_in values = record { publisher = key_at values 1; stake_account_positions = key_at values 2; current_epoch = number_at values 0 }

-- NOW Y CUSTODY VERIFIED, under the length of an epoch in force
abbrev pub given_in : List Value → (epoch_duration : ℕ) → Given
given_in values epoch_duration = record {
  current_epoch = number_at values 0;
  y = number_at values 1;
  pool_reward_custody_balance = number_at values 2;
  epoch_duration = epoch_duration;
  is_verified = number_at values 3;
}

-- NOW PUBLISHER ACCOUNT RECORD_EPOCH NEXT_INDEX PUBLISHER_ACCOUNT CUSTODY_FLAG, under the length of unlocking in force
abbrev pub claim_in : List Value → (unlocking_duration : ℕ) → Claim
claim_in values unlocking_duration = record {
  delegation_record = record_in values;
  publisher = key_at values 1;
  stake_account_positions = key_at values 2;
  publisher_stake_account_positions = key_or_none values 5;
  publisher_stake_account_custody = number_at values 6;
  current_epoch = number_at values 0;
  unlocking_duration = unlocking_duration;
}

-- NOW PUBLISHER ACCOUNT RECORD_EPOCH NEXT_INDEX INDEX EVENT_EPOCH LOCKED PREUNLOCKING
abbrev pub slashing_in : List Value → Slashing
slashing_in values = record {
  delegation_record = record_in values;
  delegation = delegation_in values;
  index = number_at values 5;
  slash_event_epoch = record { 0 = number_at values 6 };
  locked_slashed = record { 0 = number_at values 7 };
  preunlocking_slashed = record { 0 = number_at values 8 };
}

-- PUBLISHER SIGNER AUTHORITY OLD OLD_OWNER OLD_POSITIONS NEW NEW_POSITIONS
abbrev pub accounts_in : List Value → StakeAccounts
accounts_in values = record {
  publisher = key_at values 0;
  signer = key_at values 1;
  reward_program_authority = key_at values 2;
  current_stake_account_positions = key_or_none values 3;
  current_owner = key_at values 4;
  new_stake_account_positions = key_or_none values 6;
}
