-- A payment over lent records: the definitions of the call over words, at the words of the records, and what stands in the staker's record
-- afterwards. Assumes nothing.
use Rattle.std.specs.Prelude.{List, ℕ}
use Rattle.types.specs.Base.{Outcome, after}
use Rattle.positions.specs.declared.position.Position.{Position}
use Rattle.event_amounts.specs.Records.{records_words}
use Rattle.integrity_pool.specs.declared.payment.DelegationRecord.{DelegationRecord}
use Rattle.integrity_pool.specs.declared.payment.Claim.{Claim}
use Rattle.integrity_pool.specs.Payment.{Payment, payment_call}
use Rattle.lent.specs.declared.payment.LentClaim.{LentClaim}

-- the claim with the record
abbrev pub claim_of : DelegationRecord → LentClaim → Claim
claim_of found x = record {
  delegation_record = found;
  publisher = x.publisher;
  stake_account_positions = x.stake_account_positions;
  publisher_stake_account_positions = x.publisher_stake_account_positions;
  publisher_stake_account_custody = x.publisher_stake_account_custody;
  current_epoch = x.current_epoch;
  unlocking_duration = x.unlocking_duration;
}

-- 'hands over the account's positions as one lent list of position records': the call at the words of the records. The image that it leaves
-- is `paid_image`'s
abbrev pub lent_payment : (P E : ℕ) → List ℕ → List Position → DelegationRecord → LentClaim → Outcome Payment
lent_payment P E img positions found x = payment_call P E img (records_words positions) (claim_of found x)

-- 'An accepted payment moves the staker's record to the current epoch'; a refused one leaves it as it was
abbrev pub payment_record : DelegationRecord → Outcome Payment → DelegationRecord
payment_record found o = after o (λ a. a.kept) found
