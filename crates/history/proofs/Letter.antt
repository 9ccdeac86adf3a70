-- Refusal 16 by the letter follows from demand 3: what accepted payments drew is at most what all payments drew. Assumes nothing.
use mathlib.Core.Path.{◌≡◌}
use mathlib.Core.Bool.{true}
use mathlib.Core.List.{List, [], ◌∷◌}
use Prim.Native.Nat.{ℕ, ◌+◌, ◌-◌, ◌≤◌, ◌<◌}
use native.Mathlib.Omega.{arith}
use lib.Dec.{ltb}
use Rattle.types.specs.Base.{word, accepted}
use Rattle.types.proofs.OutcomeLaws.{after_holds}
use Rattle.image.specs.Layout.{Whose, read}
use Rattle.integrity_pool.specs.Calls.{fresh_call, advance_call}
use Rattle.integrity_pool.specs.Payment.{payment_call}
use Rattle.history.specs.Calls.{Call, advance, forecast, payment, add, remove, create_slash_event, slash, fee, stake_account, deposit, withdraw}
use Rattle.history.specs.Calls.{State, start, told, draws, advance_history, payment_history, advance_step, payment_step, change_step, deposit_step}
use Rattle.history.specs.Calls.{withdraw_step, step, run, custody_suffices}
use Rattle.history.specs.Letter.{draws_of, drawn_by, CoveredByLetter}
use Rattle.history.proofs.Theorem.{where_true, demand3}

module _ (P E first : ℕ) (e s : ℕ) (d : Whose) where
  abbrev Drawn : (most : ℕ) → State → Type 0
  Drawn most st = st.history.drawn e s d ≤ most

  -- a call adds at most what it draws
  step_draws : (st : State) (c : Call) → (step P E first st c).history.drawn e s d ≤ st.history.drawn e s d + draws_of P E first st c e s d
  unfolding step draws_of change_step advance_step advance_history payment_step payment_history deposit_step withdraw_step
  step_draws st (advance m g) = after_holds (Drawn (st.history.drawn e s d + 0)) (advance_call P E st.image m (told st.custody g)) _ st (λ a q. omega arith) (omega arith)
  step_draws st (forecast m g) = omega arith
  step_draws st (payment words c) =
      after_holds (Drawn (st.history.drawn e s d + draws P E first st.history.now (read P E st.image) words c e s d)) (payment_call P E st.image words c) _ st (λ a q. omega arith) (omega arith)
  step_draws st (add x amount) = omega arith
  step_draws st (remove x amount state) = omega arith
  step_draws st (create_slash_event publisher index now) = omega arith
  step_draws st (slash x) = omega arith
  step_draws st (fee x) = omega arith
  step_draws st (stake_account old new a) = omega arith
  step_draws st (deposit x) = where_true (Drawn (st.history.drawn e s d + 0)) (ltb (st.custody + x) word) _ st (λ q. omega arith) (omega arith)
  step_draws st (withdraw x) = omega arith

  run_draws : (st : State) (calls : List Call) → (run P E first st calls).history.drawn e s d ≤ st.history.drawn e s d + drawn_by P E first st calls e s d
  unfolding run drawn_by
  run_draws st [] = omega arith
  run_draws st (c ∷ calls) = omega (arith, run_draws (step P E first st c) calls, step_draws st c)

pub covered_by_letter : (P E : ℕ) (img : List ℕ) (given custody : ℕ) → fresh_call P E img given ≡ accepted tt → custody < word
    → (calls : List Call) → custody_suffices P E (given - 1) (start P E img given custody) calls ≡ true
    → CoveredByLetter P E (given - 1) (start P E img given custody) calls
unfolding draws_of
covered_by_letter P E img given custody q b calls h before after words c same t =
    (demand3 P E img given custody q b calls h).covered before after words c same
    (λ e s d l m o. omega (arith, run_draws P E (given - 1) e s d (start P E img given custody) before, t e s d l m o))
