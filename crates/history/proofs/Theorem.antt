-- Demand 3, with request [8]'s withdrawals. Assumes nothing.
use mathlib.Core.Path.{◌≡◌, refl, ap}
use mathlib.Core.Logic.{◌≢◌}
use mathlib.Core.Bool.{Bool, true, false}
use mathlib.Core.List.{List, [], ◌∷◌}
use Prim.Native.Nat.{ℕ, ◌+◌, ◌-◌, ◌≤◌, ◌<◌, max}
use native.Mathlib.Omega.{arith}
use lib.Dec.{leb, ltb}
use borrow.Author.Tests.{le-leb, leb-true, ltb-true}
use Rattle.std.specs.Prelude.{if◌then◌else◌}
use Rattle.types.specs.Base.{word, Outcome, accepted}
use Rattle.types.proofs.Below.{and_both}
use Rattle.types.proofs.OutcomeLaws.{after_holds}
use Rattle.image.specs.Layout.{read}
use Rattle.image.specs.Seats.{fresh_words}
use Rattle.image.specs.Changes.{Change}
use Rattle.advance_plan.specs.declared.Given.{Given}
use Rattle.integrity_pool.specs.declared.payment.Claim.{Claim}
use Rattle.integrity_pool.specs.Calls.{fresh_call, fresh_image, advance_call}
use Rattle.integrity_pool.specs.Payment.{payment_call}
use Rattle.integrity_pool.specs.Changes.{add_call, remove_call, create_slash_event_call, slash_call, fee_call, stake_account_call}
use Rattle.integrity_pool.proofs.AcceptedLaws.{fresh_accepted}
use Rattle.history.specs.Calls.{Call, advance, forecast, payment, add, remove, create_slash_event, slash, fee, stake_account, deposit, withdraw, gone}
use Rattle.history.specs.Calls.{State, start, no_history, told, advance_step, payment_step, change_step, deposit_step, withdraw_step, step, run}
use Rattle.history.specs.Calls.{lowers, custody_suffices, NoWithdrawal}
use Rattle.history.specs.Demand.{claimable_of, Backed, Holds, Demand3}
use Rattle.history.proofs.Invariant.{Inv}
use Rattle.history.proofs.RingLaws.{ring_holds}
use Rattle.history.proofs.Keeping.{inv_stored, inv_start, inv_change, inv_advance_stored, inv_payment_stored, backed_stored, backed_change}
use Rattle.history.proofs.Keeping.{advance_bounded, backed_advance, backed_payment, fall_held}
use Rattle.history.proofs.Advancing.{inv_advance}
use Rattle.history.proofs.Paying.{inv_payment, within_covers}

-- ---- lists without withdrawals

first_without : {c : Call} {calls : List Call} → NoWithdrawal (c ∷ calls) → (x : ℕ) → c ≢ withdraw x
first_without {c} {calls} n x q = n [] calls x (ap (λ (d : Call). d ∷ calls) q)

rest_without : {c : Call} {calls : List Call} → NoWithdrawal (c ∷ calls) → NoWithdrawal calls
rest_without {c} n before later x q = n (c ∷ before) later x (ap (λ (l : List Call). c ∷ l) q)

-- ---- what holds after every list of calls

-- the invariant and a word of custody in every list; claimable within custody where nothing is withdrawn; the balance from `opening` on where custody
-- suffices
pub record Good (P E first opening : ℕ) (Without Suffices : Type 0) (st : State) : Type 0 where
  pub inv : Inv P E first (read P E st.image) st.history
  pub word : st.custody < word
  pub backed : Without → Backed (read P E st.image) st.custody
  pub custody : Suffices → st.custody + gone st.moved ≡ opening + st.moved.deposited

-- the next state's balance was lowered by at most what there was
abbrev Within : (st next : State) → Type 0
Within st next = gone next.moved - gone st.moved ≤ st.custody

-- what is so where a test holds, and otherwise as it stands
pub where_true : (Q : State → Type 0) (t : Bool) (x y : State) → (t ≡ true → Q x) → Q y → Q (if t then x else y)
where_true Q true x y h q = h refl
where_true Q false x y h q = q

good_start : (P E : ℕ) (img : List ℕ) (given opening : ℕ) (Without Suffices : Type 0) → fresh_call P E img given ≡ accepted tt → opening < word
    → Good P E (given - 1) opening Without Suffices (start P E img given opening)
unfolding fresh_image
good_start P E img given opening Without Suffices e b =
    rw e (record {
      inv = inv_stored P E (fresh_words given) (given - 1) (no_history (given - 1)) (inv_start P E given);
      word = b;
      backed = λ u. backed_stored P E (fresh_words given) opening (omega arith) b;
      custody = λ l. omega arith;
    })

module _ (P E first opening : ℕ) (Without Suffices : Type 0) where
  abbrev Fine : State → Type 0
  Fine = Good P E first opening Without Suffices

  good_payment : (st : State) (words : List ℕ) (c : Claim) → (Suffices → Within st (payment_step P E first st words c))
      → Fine st → Fine (payment_step P E first st words c)
  unfolding payment_step
  good_payment st words c suffices g = after_holds Fine (payment_call P E st.image words c) _ st (λ a e. record {
    inv = inv_payment_stored P E st.image first words c a e _ (inv_payment P E first st.image st.history words c a g.inv e);
    word = omega (arith, g.word);
    backed = λ u. backed_payment P E st.image st.custody words c a e (g.backed u);
    custody = λ l. let h = rw e at (suffices l) in omega (arith, g.custody l);
  }) g

  good_change : (st : State) (o : Outcome Change) → Fine st → Fine (change_step P E first st o)
  unfolding change_step
  good_change st o g = record {
    inv = inv_change P E st.image first st.history o g.inv;
    word = g.word;
    backed = λ u. backed_change P E st.image st.custody o (g.backed u);
    custody = g.custody;
  }

  good_deposit : (st : State) (x : ℕ) → Fine st → Fine (deposit_step P E first st x)
  unfolding deposit_step
  good_deposit st x g = where_true Fine (ltb (st.custody + x) word) _ st (λ e. record {
    inv = g.inv;
    word = ltb-true _ _ e;
    backed = λ u. record { claimable = omega (arith, (g.backed u).claimable); word = ltb-true _ _ e };
    custody = λ l. omega (arith, g.custody l);
  }) g

  good_withdraw : (st : State) (x : ℕ) → (Without → ⊥) → (Suffices → Within st (withdraw_step P E first st x))
      → Fine st → Fine (withdraw_step P E first st x)
  unfolding withdraw_step
  good_withdraw st x without suffices g = record {
    inv = g.inv;
    word = omega (arith, g.word);
    backed = λ u. absurd (without u);
    custody = λ l. omega (arith, suffices l, g.custody l);
  }

  module _ (pos : 1 ≤ E) where
    good_advance : (st : State) (m : List ℕ) (given : Given) → Fine st → Fine (advance_step P E first st m (told st.custody given))
    unfolding advance_step
    good_advance st m given g =
        let t : Given = told st.custody given in
        after_holds Fine (advance_call P E st.image m t) _ st (λ a e. record {
          inv = inv_advance_stored P E st.image first m t a e _ (inv_advance P E first st.image st.history m t a pos g.inv e);
          word = g.word;
          backed = λ u. backed_advance P E st.image m t a e (g.backed u);
          custody = g.custody;
        }) g

    good_step : (st : State) (c : Call) → (Without → (x : ℕ) → c ≢ withdraw x) → (Suffices → lowers P E first st c ≤ st.custody)
        → Fine st → Fine (step P E first st c)
    unfolding step lowers
    good_step st (advance m given) n h g = good_advance st m given g
    good_step st (forecast m given) n h g = g
    good_step st (payment words c) n h g = good_payment st words c h g
    good_step st (add d amount) n h g = good_change st (add_call P E st.image d amount) g
    good_step st (remove d amount state) n h g = good_change st (remove_call P E st.image d amount state) g
    good_step st (create_slash_event publisher index now) n h g = good_change st (create_slash_event_call P E st.image publisher index) g
    good_step st (slash x) n h g = good_change st (slash_call P E st.image x) g
    good_step st (fee x) n h g = good_change st (fee_call P E st.image x) g
    good_step st (stake_account old new a) n h g = good_change st (stake_account_call P E st.image old new a) g
    good_step st (deposit x) n h g = good_deposit st x g
    good_step st (withdraw x) n h g = good_withdraw st x (λ u. n u x refl) h g

    good_run : (st : State) (calls : List Call) → (Without → NoWithdrawal calls) → (Suffices → custody_suffices P E first st calls ≡ true)
        → Fine st → Fine (run P E first st calls)
    unfolding run custody_suffices
    good_run st [] n h g = g
    good_run st (c ∷ calls) n h g =
        let both : Suffices → (leb (lowers P E first st c) st.custody ≡ true) × (custody_suffices P E first (step P E first st c) calls ≡ true) =
        λ l. and_both _ _ (h l) in
        good_run (step P E first st c) calls (λ u. rest_without (n u)) (λ l. (both l).1)
        (good_step st c (λ u. first_without (n u)) (λ l. leb-true _ _ (both l).0) g)

-- ---- claimable after an advance

bounded_step : (P E first : ℕ) (st : State) (m : List ℕ) (given : Given)
    → claimable_of P E (step P E first st (advance m given)) ≤ max st.custody (claimable_of P E st)
unfolding step advance_step
bounded_step P E first st m given =
    let t : Given = told st.custody given in
    after_holds (λ (s : State). claimable_of P E s ≤ max st.custody (claimable_of P E st)) (advance_call P E st.image m t) _ st
    (λ a e. advance_bounded P E st.image m t a e) (omega arith)

-- ---- in a list without withdrawals custody suffices

module _ (P E first : ℕ) where
  -- a call but a withdrawal lowers the balance by at most what there is, where claimable is within it
  lowers_within : (st : State) (c : Call) → ((x : ℕ) → c ≢ withdraw x) → Backed (read P E st.image) st.custody → lowers P E first st c ≤ st.custody
  unfolding lowers step advance_step payment_step change_step deposit_step
  lowers_within st (advance m g) n b = after_holds (Within st) (advance_call P E st.image m (told st.custody g)) _ st (λ a e. omega arith) (omega arith)
  lowers_within st (forecast m g) n b = omega arith
  lowers_within st (payment words c) n b =
      after_holds (Within st) (payment_call P E st.image words c) _ st (λ a e. omega (arith, fall_held P E st.image st.custody words c a e b)) (omega arith)
  lowers_within st (add x amount) n b = omega arith
  lowers_within st (remove x amount state) n b = omega arith
  lowers_within st (create_slash_event publisher index now) n b = omega arith
  lowers_within st (slash x) n b = omega arith
  lowers_within st (fee x) n b = omega arith
  lowers_within st (stake_account old new a) n b = omega arith
  lowers_within st (deposit x) n b = where_true (Within st) (ltb (st.custody + x) word) _ st (λ e. omega arith) (omega arith)
  lowers_within st (withdraw x) n b = absurd (n x refl)

  suffices_run : (opening : ℕ) → 1 ≤ E → (st : State) (calls : List Call) → NoWithdrawal calls → Good P E first opening (Unit {0}) ⊥ st
      → custody_suffices P E first st calls ≡ true
  unfolding custody_suffices
  suffices_run opening pos st [] n g = refl
  suffices_run opening pos st (c ∷ calls) n g =
      let next = good_step P E first opening (Unit {0}) ⊥ pos st c (λ u. first_without n) (λ l. absurd l) g in
      rw (le-leb _ _ (lowers_within st c (first_without n) (g.backed tt))) (suffices_run opening pos (step P E first st c) calls (rest_without n) next)

-- ---- the claim

module _ (P E : ℕ) (img : List ℕ) (given opening : ℕ) (e : fresh_call P E img given ≡ accepted tt) (b : opening < word) where
  abbrev begin : State
  begin = start P E img given opening

  pos : 1 ≤ E
  pos = (fresh_accepted P E img given e).0.e_low

  good : (Without Suffices : Type 0) (calls : List Call) → (Without → NoWithdrawal calls)
      → (Suffices → custody_suffices P E (given - 1) begin calls ≡ true)
      → Good P E (given - 1) opening Without Suffices (run P E (given - 1) begin calls)
  good Without Suffices calls n h =
      good_run P E (given - 1) opening Without Suffices pos begin calls n h (good_start P E img given opening Without Suffices e b)

  -- 'true of every list without withdrawals'
  pub suffices_without : (calls : List Call) → NoWithdrawal calls → custody_suffices P E (given - 1) begin calls ≡ true
  suffices_without calls n = suffices_run P E (given - 1) opening pos begin calls n (good_start P E img given opening (Unit {0}) ⊥ e b)

pub demand3 : Demand3
demand3 P E img given opening e b calls h =
    let first : ℕ = given - 1 in
    let g = good P E img given opening e b (NoWithdrawal calls) (Unit {0}) calls (λ n. n) (λ l. h) in
    let before_any : (cs : List Call) → Good P E first opening ⊥ ⊥ (run P E first (start P E img given opening) cs) =
    λ cs. good P E img given opening e b ⊥ ⊥ cs (λ u. absurd u) (λ l. absurd l) in
    record {
      books = record { claimable = g.inv.books };
      bounded = λ before after m t q. bounded_step P E first (run P E first (start P E img given opening) before) m t;
      backed = g.backed;
      balanced = record { custody = g.custody tt; word = g.word };
      ring = ring_holds P E first _ (pos P E img given opening e b) g.inv.grown _ g.inv.now;
      covered = λ before after words c q t. within_covers P E first _ _ words c (before_any before).inv t;
    }

-- [8] 'Where no withdrawal occurs the old bound stands': the claim as it was, for every such list
pub demand3_without : (P E : ℕ) (img : List ℕ) (given opening : ℕ) → fresh_call P E img given ≡ accepted tt → opening < word
    → (calls : List Call) → NoWithdrawal calls
    → Holds P E (given - 1) (start P E img given opening) calls
    × Backed (read P E (run P E (given - 1) (start P E img given opening) calls).image) (run P E (given - 1) (start P E img given opening) calls).custody
demand3_without P E img given opening e b calls n =
    let d = demand3 P E img given opening e b calls (suffices_without P E img given opening e b calls n) in
    (d, d.backed n)
