-- A slash with the record lent: the definitions of the call with the record in what it is given, and what stands in the record afterwards. Assumes nothing.
use Rattle.std.specs.Prelude.{List, ℕ}
use Rattle.types.specs.Base.{Outcome, after}
use Rattle.image.specs.Changes.{Change}
use Rattle.integrity_pool.specs.declared.payment.DelegationRecord.{DelegationRecord}
use Rattle.integrity_pool.specs.declared.slash.Slashing.{Slashing}
use Rattle.integrity_pool.specs.Changes.{slash_call, slashed_with}
use Rattle.lent.specs.declared.slash.LentSlashing.{LentSlashing}

-- the slashing with the record
abbrev pub slashing_of : DelegationRecord → LentSlashing → Slashing
slashing_of found x = record {
  delegation_record = found;
  delegation = x.delegation;
  index = x.index;
  slash_event_epoch = x.slash_event_epoch;
  locked_slashed = x.locked_slashed;
  preunlocking_slashed = x.preunlocking_slashed;
}

abbrev pub lent_slash_call : (P E : ℕ) → List ℕ → DelegationRecord → LentSlashing → Outcome Change
lent_slash_call P E img found x = slash_call P E img (slashing_of found x)

-- its answer
abbrev pub lent_slash : (P E : ℕ) → List ℕ → DelegationRecord → LentSlashing → Outcome DelegationRecord
lent_slash P E img found x = slashed_with (slashing_of found x) (lent_slash_call P E img found x)

-- the record afterwards: the one to keep, or, where the slash is refused, as it was
abbrev pub slash_record : DelegationRecord → Outcome DelegationRecord → DelegationRecord
slash_record found o = after o (λ kept. kept) found
