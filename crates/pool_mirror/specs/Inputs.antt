-- What the calls are given of a caller's numbers and fixed arrays. Assumes nothing.
use Rattle.std.specs.Prelude.{List, ℕ, eqb, if◌then◌else◌, Option, Some, None}
use Rattle.positions.specs.declared.Key.{Key}
use Rattle.positions.specs.declared.position.PositionState.{PositionState}
use Rattle.positions.specs.declared.position.PositionState.TheVariants.{LOCKING, LOCKED, PREUNLOCKING, UNLOCKING, UNLOCKED}
use Rattle.positions.specs.Positions.{key_from}
use Rattle.advance_plan.specs.declared.Given.{Given}
use Rattle.pool.specs.declared.changes.Delegation.{Delegation}
use Rattle.integrity_pool.specs.Payment.{record_of}
use Rattle.integrity_pool.specs.declared.payment.Claim.{Claim}
use Rattle.integrity_pool.specs.declared.slash.Slashing.{Slashing}
use Rattle.integrity_pool.specs.declared.stake_account.StakeAccounts.{StakeAccounts}

-- a key of four words
unfoldable pub key_of : List ℕ → Key
key_of words = key_from words 0

-- an account that may be absent: a flag of 0 says so
unfoldable pub key_or_none : (has : ℕ) → List ℕ → Option Key
key_or_none has words = if eqb has 0 then None else Some (key_of words)

-- the state with this number, by the Rust's order; a number that is no state's counts as UNLOCKING, which a remove always refuses (`no-state-refused`)
unfoldable pub state_of : ℕ → PositionState
state_of n =
    if eqb n 0 then UNLOCKED
    else if eqb n 1 then LOCKING
    else if eqb n 2 then LOCKED
    else if eqb n 3 then PREUNLOCKING
    else UNLOCKING

-- an advance or a forecast
abbrev pub given_of : (now y custody verified seconds : ℕ) → Given
given_of now y custody verified seconds = record {
  current_epoch = now;
  y = y;
  pool_reward_custody_balance = custody;
  epoch_duration = seconds;
  is_verified = verified;
}

-- a payment
unfoldable pub claim_of : (now : ℕ) → (publisher account found : List ℕ) → (has : ℕ) → (publisher_account : List ℕ) → (custody unlocking : ℕ) → Claim
claim_of now publisher account found has publisher_account custody unlocking = record {
  delegation_record = record_of found;
  publisher = key_of publisher;
  stake_account_positions = key_of account;
  publisher_stake_account_positions = key_or_none has publisher_account;
  publisher_stake_account_custody = custody;
  current_epoch = now;
  unlocking_duration = unlocking;
}

-- an add, a remove, a slash
unfoldable pub delegation_of : (now : ℕ) → (publisher account : List ℕ) → Delegation
delegation_of now publisher account = record { publisher = key_of publisher; stake_account_positions = key_of account; current_epoch = now }

unfoldable pub slashing_of : (now : ℕ) → (publisher account found : List ℕ) → (index event locked preunlocking : ℕ) → Slashing
slashing_of now publisher account found index event locked preunlocking = record {
  delegation_record = record_of found;
  delegation = delegation_of now publisher account;
  index = index;
  slash_event_epoch = record { 0 = event };
  locked_slashed = record { 0 = locked };
  preunlocking_slashed = record { 0 = preunlocking };
}

-- a stake account
unfoldable pub accounts_of : (publisher signer authority : List ℕ) → (has_old : ℕ) → (old owner : List ℕ) → (has_new : ℕ) → (new : List ℕ) → StakeAccounts
accounts_of publisher signer authority has_old old owner has_new new = record {
  publisher = key_of publisher;
  signer = key_of signer;
  reward_program_authority = key_of authority;
  current_stake_account_positions = key_or_none has_old old;
  current_owner = key_of owner;
  new_stake_account_positions = key_or_none has_new new;
}
