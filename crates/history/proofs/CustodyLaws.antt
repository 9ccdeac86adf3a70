-- What `custody_suffices` says of each call of a list: a withdrawal is at most the balance there is then, and so is what an accepted payment lowers it
-- by. Assumes nothing.
use mathlib.Core.Path.{◌≡◌, subst}
use mathlib.Core.Bool.{true}
use mathlib.Core.List.{List, [], ◌∷◌, ◌++◌}
use Prim.Native.Nat.{ℕ, ◌≤◌}
use native.Mathlib.Omega.{arith}
use lib.Dec.{leb}
use borrow.Author.Tests.{leb-true}
use Rattle.types.specs.Base.{accepted}
use Rattle.types.proofs.Below.{and_both}
use Rattle.integrity_pool.specs.declared.payment.Claim.{Claim}
use Rattle.integrity_pool.specs.Payment.{Payment, payment_call}
use Rattle.history.specs.Calls.{Call, payment, withdraw, State, payment_step, withdraw_step, step, run, lowers, custody_suffices}

module _ (P E first : ℕ) where
  lowers_withdrawal : (st : State) (x : ℕ) → lowers P E first st (withdraw x) ≡ x
  unfolding lowers step withdraw_step
  lowers_withdrawal st x = omega arith

  lowers_payment : (st : State) (words : List ℕ) (c : Claim) (a : Payment) → payment_call P E st.image words c ≡ accepted a
      → lowers P E first st (payment words c) ≡ a.custody_fall
  unfolding lowers step payment_step
  lowers_payment st words c a e = rw e (omega arith)

  -- by the calls before it
  suffices_at : (st : State) (before : List Call) (c : Call) (later : List Call) → custody_suffices P E first st (before ++ c ∷ later) ≡ true
      → lowers P E first (run P E first st before) c ≤ (run P E first st before).custody
  unfolding custody_suffices run
  suffices_at st [] c later h =
      leb-true _ _ (and_both (leb (lowers P E first st c) st.custody) (custody_suffices P E first (step P E first st c) later) h).0
  suffices_at st (d ∷ before) c later h =
      suffices_at (step P E first st d) before c later
      (and_both (leb (lowers P E first st d) st.custody) (custody_suffices P E first (step P E first st d) (before ++ c ∷ later)) h).1

  module _ (begin : State) (calls : List Call) (h : custody_suffices P E first begin calls ≡ true) where
    pub suffices_withdrawal : (before later : List Call) (x : ℕ) → calls ≡ before ++ withdraw x ∷ later → x ≤ (run P E first begin before).custody
    suffices_withdrawal before later x q =
        omega (
          arith,
          suffices_at begin before (withdraw x) later (subst (λ (l : List Call). custody_suffices P E first begin l ≡ true) q h),
          lowers_withdrawal (run P E first begin before) x,
        )

    pub suffices_payment : (before later : List Call) (words : List ℕ) (c : Claim) (a : Payment) → calls ≡ before ++ payment words c ∷ later
        → payment_call P E (run P E first begin before).image words c ≡ accepted a → a.custody_fall ≤ (run P E first begin before).custody
    suffices_payment before later words c a q e =
        omega (
          arith,
          suffices_at begin before (payment words c) later (subst (λ (l : List Call). custody_suffices P E first begin l ≡ true) q h),
          lowers_payment (run P E first begin before) words c a e,
        )
