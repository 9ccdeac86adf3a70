-- Refusal 16 by the letter of 'A payment, a refused one too, draws': what refused payments before it drew counts against a payment as well. That asks
-- more of a payment than Demand does, so it follows from demand 3. Assumes nothing.
use Rattle.std.specs.Prelude.{◌≡◌, ◌≢◌, true, List, [], ◌∷◌, ◌++◌, ℕ, ◌+◌, ◌≤◌, ◌<◌}
use Rattle.types.specs.Base.{refused}
use Rattle.types.specs.Refusals.{payment_above_claimable}
use Rattle.image.specs.Layout.{Whose, read}
use Rattle.integrity_pool.specs.declared.payment.Claim.{Claim}
use Rattle.integrity_pool.specs.Payment.{payment_call}
use Rattle.history.specs.Calls.{Call, advance, forecast, payment, add, remove, create_slash_event, slash, fee, stake_account, deposit, withdraw}
use Rattle.history.specs.Calls.{State, draws, step, run}

module _ (P E first : ℕ) where
  -- what one call draws, accepted or refused
  unfoldable pub draws_of : State → Call → (epoch s : ℕ) → Whose → ℕ
  draws_of st (payment words c) e s d = draws P E first st.history.now (read P E st.image) words c e s d
  draws_of st (advance m g) e s d = 0
  draws_of st (forecast m g) e s d = 0
  draws_of st (add x amount) e s d = 0
  draws_of st (remove x amount state) e s d = 0
  draws_of st (create_slash_event publisher index now) e s d = 0
  draws_of st (slash x) e s d = 0
  draws_of st (fee x) e s d = 0
  draws_of st (stake_account old new a) e s d = 0
  draws_of st (deposit x) e s d = 0
  draws_of st (withdraw x) e s d = 0

  -- what a list of calls draws from this state on
  unfoldable pub drawn_by : State → List Call → (epoch s : ℕ) → Whose → ℕ
  drawn_by st [] e s d = 0
  drawn_by st (c ∷ calls) e s d = draws_of st c e s d + drawn_by (step P E first st c) calls e s d

  abbrev pub WithinTotalsByLetter : State → (before : List Call) → (positions : List ℕ) → Claim → Type 0
  WithinTotalsByLetter begin before words c =
      (e s : ℕ) (d : Whose) → first ≤ e → e < (run P E first begin before).history.now → (run P E first begin before).history.occupied e s ≡ true
      → drawn_by begin before e s d + draws_of (run P E first begin before) (payment words c) e s d ≤ (run P E first begin before).history.written e s d

  abbrev pub CoveredByLetter : State → List Call → Type 0
  CoveredByLetter begin calls =
      (before after : List Call) (words : List ℕ) (c : Claim) → calls ≡ before ++ payment words c ∷ after
      → WithinTotalsByLetter begin before words c
      → payment_call P E (run P E first begin before).image words c ≢ refused payment_above_claimable
