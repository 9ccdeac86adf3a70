-- The views of the calls' answers fix them. Assumes nothing.
use mathlib.Core.Path.{◌≡◌, refl}
use Prim.Native.Nat.{ℕ}
use Rattle.types.proofs.Fixed.{by_return}
use Rattle.types.specs.declared.Epoch.{Epoch}
use Rattle.integrity_pool.specs.declared.payment.Payment as answer
use Rattle.integrity_pool.specs.Payment.{Payment, payment_as}
use Rattle.integrity_pool.specs.Changes.{epoch_as}

abbrev paid : Payment → answer.Payment
paid a = record {
  delegator_reward = record { 0 = a.delegator };
  publisher_reward = record { 0 = a.publisher };
  custody_fall = record { 0 = a.custody_fall };
  delegation_record = a.kept;
  reads = a.reads;
}

-- two answers with the same values are the same
pub payment_as_fixes : (a b : answer.Payment) → payment_as a ≡ payment_as b → a ≡ b
payment_as_fixes = by_return payment_as paid (λ a. refl)

abbrev created : ℕ → Epoch
created epoch = record { 0 = epoch }

pub epoch_as_fixes : (a b : Epoch) → epoch_as a ≡ epoch_as b → a ≡ b
epoch_as_fixes = by_return epoch_as created (λ a. refl)
