-- Demand 3: one claim about every list of calls from a fresh pool, with request [8]'s withdrawals. Assumes nothing.
use Rattle.std.specs.Prelude.{◌≡◌, ◌≢◌, true, List, ◌∷◌, ◌++◌, ℕ, ◌+◌, ◌-◌, ◌%◌, ◌≤◌, ◌<◌, min, max}
use Rattle.types.specs.Base.{word, refused, accepted}
use Rattle.types.specs.Refusals.{payment_above_claimable}
use Rattle.image.specs.Layout.{Whose, last_updated_epoch, claimable_rewards, num_events, Slot, event_epoch, Share, head, slot, share, Words, InRange, read}
use Rattle.advance_plan.specs.declared.Given.{Given}
use Rattle.integrity_pool.specs.declared.payment.Claim.{Claim}
use Rattle.integrity_pool.specs.Calls.{fresh_call}
use Rattle.integrity_pool.specs.Payment.{payment_call}
use Rattle.history.specs.Calls.{Call, advance, payment, History, gone, State, start, draws, step, run, custody_suffices, NoWithdrawal}

-- ---- claimable

-- 'claimable = set aside - paid', as a sum: so paid is at most set aside
pub record Books (w : Words) (h : History) : Type 0 where
  pub claimable : w (head claimable_rewards) + h.paid ≡ h.set_aside

abbrev pub claimable_of : (P E : ℕ) → State → ℕ
claimable_of P E st = read P E st.image (head claimable_rewards)

-- [8] 'In any list, every accepted advance ends with claimable at most the larger of the balance it was told and the claimable it began with'; a
-- refused one leaves it
abbrev pub Bounded : (P E first : ℕ) → State → List Call → Type 0
Bounded P E first begin calls =
    (before after : List Call) (m : List ℕ) (g : Given) → calls ≡ before ++ advance m g ∷ after
    → claimable_of P E (step P E first (run P E first begin before) (advance m g))
    ≤ max (run P E first begin before).custody (claimable_of P E (run P E first begin before))

-- [8] 'Where no withdrawal occurs the old bound stands': 'at most custody', which is a word
pub record Backed (w : Words) (custody : ℕ) : Type 0 where
  pub claimable : w (head claimable_rewards) ≤ custody
  pub word : custody < word

-- ---- custody

-- the balance at the start and the deposits, less withdrawals and what accepted payments lowered it by, as a sum of whole numbers; it is a word
pub record Balanced (begin : ℕ) (st : State) : Type 0 where
  pub custody : st.custody + gone st.moved ≡ begin + st.moved.deposited
  pub word : st.custody < word

-- ---- the ring

-- 'Passed are the epochs from one below the fresh pool's given epoch to one below the now of the last accepted advance so far, none before the
-- first. n is their count'
abbrev pub PassedCount : (first now : ℕ) → Words → Type 0
PassedCount first now w = (w (head last_updated_epoch) ≡ now) × (now ≡ first + w (head num_events))

-- how many slots have been written
abbrev pub written_slots : (E : ℕ) → Words → ℕ
written_slots E w = min (w (head num_events)) E

-- 'item 5 says where the newest stand': slot (n - 1 - j) mod E holds epoch last - 1 - j, for each j below the smaller of n and E
abbrev pub NewestEpochs : (E : ℕ) → Words → Type 0
NewestEpochs E w =
    (j : ℕ) → j < written_slots E w → w (slot ((w (head num_events) - 1 - j) % E) event_epoch) ≡ w (head last_updated_epoch) - 1 - j

-- 'exactly the newest passed epochs', each once: a written slot holds one of them, and no two hold the same
abbrev pub OnlyNewest : (E : ℕ) → Words → Type 0
OnlyNewest E w =
    (t : ℕ) → t < written_slots E w → (w (slot t event_epoch) < w (head last_updated_epoch)) × (w (head last_updated_epoch) ≤ w (slot t event_epoch) + written_slots E w)

abbrev pub EachOnce : (E : ℕ) → Words → Type 0
EachOnce E w = (t u : ℕ) → t < written_slots E w → u < written_slots E w → w (slot t event_epoch) ≡ w (slot u event_epoch) → t ≡ u

-- 'slots never written stay zero': every word of the slots from n on
abbrev pub UnwrittenZero : (P E : ℕ) → Words → Type 0
UnwrittenZero P E w =
    (t : ℕ) → w (head num_events) ≤ t → ((x : Slot) → InRange P E (slot t x) → w (slot t x) ≡ 0) × ((s : ℕ) (x : Share) → InRange P E (share t s x) → w (share t s x) ≡ 0)

pub record RingHolds (P E first now : ℕ) (w : Words) : Type 0 where
  pub passed : PassedCount first now w
  pub newest : NewestEpochs E w
  pub only : OnlyNewest E w
  pub once : EachOnce E w
  pub unwritten : UnwrittenZero P E w

-- ---- refusal 16

-- a payment within the totals: on each seat occupied in a passed epoch's event, what accepted payments before it drew and what it draws itself are
-- together at most the total that the event was written from
abbrev pub WithinTotals : (P E first : ℕ) → State → (positions : List ℕ) → Claim → Type 0
WithinTotals P E first st words c =
    (e s : ℕ) (d : Whose) → first ≤ e → e < st.history.now → st.history.occupied e s ≡ true
    → st.history.drawn e s d + draws P E first st.history.now (read P E st.image) words c e s d ≤ st.history.written e s d

-- 'no payment within the totals meets refusal 16': each payment of the list, by the calls before it; it alone has to keep to the totals
abbrev pub Covered : (P E first : ℕ) → State → List Call → Type 0
Covered P E first begin calls =
    (before after : List Call) (words : List ℕ) (c : Claim) → calls ≡ before ++ payment words c ∷ after
    → WithinTotals P E first (run P E first begin before) words c
    → payment_call P E (run P E first begin before).image words c ≢ refused payment_above_claimable

-- ---- the claim

pub record Holds (P E first : ℕ) (begin : State) (calls : List Call) : Type 0 where
  pub books : Books (read P E (run P E first begin calls).image) (run P E first begin calls).history
  pub bounded : Bounded P E first begin calls
  pub backed : NoWithdrawal calls → Backed (read P E (run P E first begin calls).image) (run P E first begin calls).custody
  pub balanced : Balanced begin.custody (run P E first begin calls)
  pub ring : RingHolds P E first (run P E first begin calls).history.now (read P E (run P E first begin calls).image)
  pub covered : Covered P E first begin calls

-- every P and E, every list taken for the pool, every given epoch that fresh accepts, every custody balance, every list of calls that the token side
-- lets happen
abbrev pub Demand3 : Type 0
Demand3 =
    (P E : ℕ) (img : List ℕ) (given custody : ℕ) → fresh_call P E img given ≡ accepted tt → custody < word
    → (calls : List Call) → custody_suffices P E (given - 1) (start P E img given custody) calls ≡ true
    → Holds P E (given - 1) (start P E img given custody) calls
