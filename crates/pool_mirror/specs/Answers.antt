-- What the functions return, and what stands in the caller's fixed arrays afterwards. Assumes nothing.
use Rattle.std.specs.Prelude.{List, [], ◌∷◌, ℕ}
use Rattle.types.specs.Base.{Outcome, refused, accepted, after}
use Rattle.positions.specs.declared.position.PositionState.{PositionState}
use Rattle.positions.specs.State.{state_number}
use Rattle.advance_plan.specs.Advance.{Advanced}
use Rattle.integrity_pool.specs.declared.payment.DelegationRecord.{DelegationRecord}
use Rattle.integrity_pool.specs.Payment.{Payment, record_words}

-- 0 where a call is accepted, else the refusal's number, which is never 0 (Refusals.antt)
abbrev pub number_of : {A : Type 0} → Outcome A → ℕ
number_of (refused n) = n
number_of (accepted a) = 0

-- y', what is set aside, rows matched, seated and dropped
abbrev pub advance_answer : List ℕ → Outcome Advanced → List ℕ
advance_answer found o = after o (λ a. a.y ∷ a.set_aside ∷ a.matched ∷ a.seated ∷ a.dropped ∷ []) found

-- what is set aside; of a slash event its epoch
abbrev pub one_answer : List ℕ → Outcome ℕ → List ℕ
one_answer found o = after o (λ a. a ∷ []) found

-- the delegator's part, the publisher's part, by how much custody falls, the read count
abbrev pub payment_answer : List ℕ → Outcome Payment → List ℕ
payment_answer found o = after o (λ a. a.delegator ∷ a.publisher ∷ a.custody_fall ∷ a.reads ∷ []) found

abbrev pub payment_record : List ℕ → Outcome Payment → List ℕ
payment_record found o = after o (λ a. record_words a.kept) found

abbrev pub slash_record : List ℕ → Outcome DelegationRecord → List ℕ
slash_record found o = after o record_words found

abbrev pub state_answer : List ℕ → Outcome PositionState → List ℕ
state_answer found o = after o (λ s. state_number s ∷ []) found
