-- Each call's refusals are those of its list (specs/Refusals), and a function returns 0 exactly where its call is accepted. Assumes nothing.
use mathlib.Core.Path.{◌≡◌, refl, sym, ap, ◌∙◌, subst}
use mathlib.Core.Bool.{Bool, true, false}
use mathlib.Core.Logic.{◌≢◌}
use mathlib.Core.List.{List, ◌++◌}
use Prim.Native.Nat.{ℕ, ◌<◌}
use native.Mathlib.Omega.{arith}
use Rattle.std.specs.Prelude.{if◌then◌else◌}
use Rattle.types.specs.Base.{Outcome, refused, accepted, map_outcome, and_then, is_accepted}
use Rattle.types.specs.Refusals.{invalid_image, invalid_publisher, publisher_not_found, outdated_publisher_accounting, does_not_fit}
use Rattle.types.specs.Refusals.{claimable_over_custody, unexpected_position_state}
use Rattle.positions.specs.declared.Key.{Key}
use Rattle.std.specs.Prelude.{Option, Some, None}
use Rattle.positions.specs.declared.position.PositionState.{PositionState}
use Rattle.positions.specs.declared.position.PositionState.TheVariants.{LOCKING, LOCKED, PREUNLOCKING, UNLOCKING, UNLOCKED}
use Rattle.positions.specs.State.{state_by, state_call}
use Rattle.event.specs.Adjust.{adjust_of}
use Rattle.event.specs.Event.{Parts}
use Rattle.split.specs.Split.{split_call}
use Rattle.delegation.specs.Side.{Side, raised_of, lowered_of, add_of, remove_in, remove_of, slash_of}
use Rattle.image.specs.Layout.{Words}
use Rattle.image.specs.Seats.{publisher_index_of}
use Rattle.advance_plan.specs.declared.Given.{Given}
use Rattle.advance_plan.specs.Advance.{adjustment_of, advance_of, forecast_of}
use Rattle.pool.specs.declared.changes.Delegation.{Delegation}
use Rattle.pool.specs.Reward.{reward_sum, calculate_reward}
use Rattle.pool.specs.Changes.{delegation_seat, slash_seat, side_change, add_delegation, remove_delegation, apply_slash}
use Rattle.integrity_pool.specs.declared.payment.Claim.{Claim}
use Rattle.integrity_pool.specs.declared.slash.Slashing.{Slashing}
use Rattle.integrity_pool.specs.declared.stake_account.StakeAccounts.{StakeAccounts}
use Rattle.integrity_pool.specs.Calls.{fresh_call, checked_then, advance_call, forecast_call}
use Rattle.integrity_pool.specs.Payment.{custody_fall, pay_out, payment_at, payment_of, payment_call}
use Rattle.integrity_pool.specs.Changes.{checked_image_then, add_call, remove_call, create_at, create_slash_event_call, slash_order, slash_change}
use Rattle.integrity_pool.specs.Changes.{slash_call, fee_call, first_account, later_account, may_change, new_account, stake_account_at_seat}
use Rattle.integrity_pool.specs.Changes.{stake_account_call}
use Rattle.pool_mirror.proofs.InputLaws.{is_other}
use Rattle.pool_mirror.specs.Inputs.{state_of}
use Rattle.pool_mirror.specs.Answers.{number_of, payment_answer}
use Rattle.pool_mirror.specs.Refusals.{has, Among, fresh_refusals, advance_refusals, payment_refusals, add_refusals, remove_refusals, create_refusals}
use Rattle.pool_mirror.specs.Refusals.{slash_refusals, fee_refusals, stake_account_refusals, position_state_refusals, split_refusals}

-- ---- of the shapes that definitions are made of

refused_in : (A : Type 0) (ks : List ℕ) (n : ℕ) → has ks n ≡ true → Among {A = A} ks (refused n)
unfolding Among
refused_in A ks n e = e

module _ {A : Type 0} (ks : List ℕ) where
  accepted_in : (a : A) → Among ks (accepted a)
  unfolding Among
  accepted_in a = tt

  if_in : (b : Bool) (x y : Outcome A) → Among ks x → Among ks y → Among ks (if b then x else y)
  if_in true x y p q = p
  if_in false x y p q = q

module _ {A B : Type 0} (ks : List ℕ) where
  then_in : (o : Outcome A) (f : A → Outcome B) → Among ks o → ((a : A) → Among ks (f a)) → Among ks (and_then o f)
  unfolding Among
  then_in (refused n) f p q = p
  then_in (accepted a) f p q = q a

  map_in : (f : A → B) (o : Outcome A) → Among ks o → Among ks (map_outcome f o)
  unfolding Among
  map_in f (refused n) p = p
  map_in f (accepted a) p = tt

ruleset among = (if_in, then_in, map_in, accepted_in, refused_in)

-- ---- what several calls share

module _ (ks : List ℕ) where
  image_in : {A : Type 0} (P E : ℕ) (img : List ℕ) (rest : Outcome A) → has ks invalid_image ≡ true → Among ks rest
      → Among ks (checked_image_then P E img rest)
  unfolding checked_image_then
  image_in P E img rest e p = search among

  index_in :
      (P : ℕ) (w : Words) (key : Key) → has ks invalid_publisher ≡ true → has ks publisher_not_found ≡ true → Among ks (publisher_index_of P w key)
  unfolding publisher_index_of
  index_in P w key a b = search among

  module _ (fit : has ks does_not_fit ≡ true) where
    raised_in : (change amount : ℕ) → Among ks (raised_of change amount)
    unfolding raised_of
    raised_in change amount = search among

    lowered_in : (change amount : ℕ) → Among ks (lowered_of change amount)
    unfolding lowered_of
    lowered_in change amount = search among

    add_in : (total change amount : ℕ) → Among ks (add_of total change amount)
    unfolding add_of
    add_in total change amount = search (among, raised_in)

    slash_in : (total change locked preunlocking : ℕ) → Among ks (slash_of total change locked preunlocking)
    unfolding slash_of
    slash_in total change locked preunlocking = search (among, raised_in)

    module _ (state15 : has ks unexpected_position_state ≡ true) where
      state_in : (s : PositionState) (total change amount : ℕ) → Among ks (remove_in s total change amount)
      state_in LOCKED total change amount = search (among, lowered_in)
      state_in LOCKING total change amount = search (among, lowered_in)
      state_in UNLOCKED total change amount = search among
      state_in PREUNLOCKING total change amount = search among
      state_in UNLOCKING total change amount = search among

      remove_in_law : (s : PositionState) (total change amount : ℕ) → Among ks (remove_of total change amount s)
      unfolding remove_of
      remove_in_law s total change amount = search (among, state_in)

  side_in :
      (w : Words) (d : Delegation) (becomes : (total change : ℕ) → Outcome Side) (s : ℕ) → ((total change : ℕ) → Among ks (becomes total change))
      → Among ks (side_change w d becomes s)
  unfolding side_change
  side_in w d becomes s p = search among

  module _ (P : ℕ) (w : Words) (d : Delegation) (a : has ks invalid_publisher ≡ true) (b : has ks publisher_not_found ≡ true)
      (c : has ks outdated_publisher_accounting ≡ true) where
    delegation_seat_in : Among ks (delegation_seat P w d)
    unfolding delegation_seat
    delegation_seat_in = search (among, index_in)

    slash_seat_in : Among ks (slash_seat P w d)
    unfolding slash_seat
    slash_seat_in = search (among, index_in)

-- ---- the calls

module _ (P E : ℕ) (img : List ℕ) where
  pub fresh_refusals_law : (given : ℕ) → Among fresh_refusals (fresh_call P E img given)
  unfolding fresh_call
  fresh_refusals_law given = search among

  adjust_in : (T y claimable custody : ℕ) → Among advance_refusals (adjust_of T y claimable custody)
  unfolding adjust_of
  adjust_in T y claimable custody = search among

  adjustment_in : (w : Words) (m : List ℕ) (g : Given) (sum : ℕ) → Among advance_refusals (adjustment_of P w m g sum)
  unfolding adjustment_of
  adjustment_in w m g sum = search (among, adjust_in) depth 20

  checked_in : {A : Type 0} (m : List ℕ) (g : Given) (rest : Outcome A) → Among advance_refusals rest → Among advance_refusals (checked_then P E img m g rest)
  unfolding checked_then
  checked_in m g rest p = search among depth 20

  pub advance_refusals_law : (m : List ℕ) (g : Given) → Among advance_refusals (advance_call P E img m g)
  unfolding advance_call advance_of
  advance_refusals_law m g = search (among, checked_in, adjustment_in)

  pub forecast_refusals : (m : List ℕ) (g : Given) → Among advance_refusals (forecast_call P E img m g)
  unfolding forecast_call forecast_of
  forecast_refusals m g = search (among, checked_in, adjustment_in)

  fall_in : (found : Key) (account : Option Key) (custody delegator both : ℕ) → Among payment_refusals (custody_fall found account custody delegator both)
  unfolding custody_fall
  fall_in found (Some key) custody delegator both = search among
  fall_in found None custody delegator both = search among

  sum_in : (n : ℕ) (f : ℕ → Outcome Parts) → Among payment_refusals (reward_sum n f)
  unfolding reward_sum
  sum_in n f = search among

  payment_at_in : (w : Words) (words : List ℕ) (c : Claim) (s : ℕ) → Among payment_refusals (payment_at E w words c s)
  unfolding payment_at calculate_reward pay_out
  payment_at_in w words c s = search (among, sum_in, fall_in) depth 20

  pub payment_refusals_law : (words : List ℕ) (c : Claim) → Among payment_refusals (payment_call P E img words c)
  unfolding payment_call payment_of
  payment_refusals_law words c = search (among, index_in, payment_at_in) depth 20

  pub add_refusals_law : (d : Delegation) (amount : ℕ) → Among add_refusals (add_call P E img d amount)
  unfolding add_call add_delegation
  add_refusals_law d amount = search (among, image_in, delegation_seat_in, side_in, add_in) depth 20

  pub remove_refusals_law : (d : Delegation) (amount : ℕ) (state : PositionState) → Among remove_refusals (remove_call P E img d amount state)
  unfolding remove_call remove_delegation
  remove_refusals_law d amount state = search (among, image_in, delegation_seat_in, side_in, remove_in_law) depth 20

  pub create_refusals_law : (publisher : Key) (index : ℕ) → Among create_refusals (create_slash_event_call P E img publisher index)
  unfolding create_slash_event_call create_at
  create_refusals_law publisher index = search (among, image_in, index_in) depth 20

  order_in : (x : Slashing) → Among slash_refusals (slash_order x)
  unfolding slash_order
  order_in x = search among depth 20

  change_in : (w : Words) (x : Slashing) → Among slash_refusals (slash_change P w x)
  unfolding slash_change apply_slash
  change_in w x = search (among, slash_seat_in, side_in, slash_in) depth 20

  pub slash_refusals_law : (x : Slashing) → Among slash_refusals (slash_call P E img x)
  unfolding slash_call
  slash_refusals_law x = search (among, image_in, order_in, change_in)

  pub fee_refusals_law : (fee : ℕ) → Among fee_refusals (fee_call P E img fee)
  unfolding fee_call
  fee_refusals_law fee = search (among, image_in)

  first_in : (a : StakeAccounts) → Among stake_account_refusals (first_account a)
  unfolding first_account
  first_in a = search among

  later_in : (found : Key) (old : List ℕ) (a : StakeAccounts) (account : Option Key) → Among stake_account_refusals (later_account found old a account)
  unfolding later_account
  later_in found old a (Some key) = search among depth 20
  later_in found old a None = search among

  may_in : (found : Key) (old : List ℕ) (a : StakeAccounts) → Among stake_account_refusals (may_change found old a)
  unfolding may_change
  may_in found old a = search (among, first_in, later_in)

  new_in : (new : List ℕ) (publisher : Key) (account : Option Key) → Among stake_account_refusals (new_account new publisher account)
  unfolding new_account
  new_in new publisher (Some key) = search among
  new_in new publisher None = search among

  at_seat_in : (w : Words) (old new : List ℕ) (a : StakeAccounts) (s : ℕ) → Among stake_account_refusals (stake_account_at_seat w old new a s)
  unfolding stake_account_at_seat
  at_seat_in w old new a s = search (among, may_in, new_in)

  pub stake_account_refusals_law : (old new : List ℕ) (a : StakeAccounts) → Among stake_account_refusals (stake_account_call P E img old new a)
  unfolding stake_account_call
  stake_account_refusals_law old new a = search (among, image_in, index_in, at_seat_in) depth 20

module _ (words : List ℕ) (epoch unlocking : ℕ) where
  by_in : (activation flag start : ℕ) → Among position_state_refusals (state_by activation flag start epoch unlocking)
  unfolding state_by
  by_in activation flag start = search among depth 20

  pub position_state_refusals_law : Among position_state_refusals (state_call words epoch unlocking)
  unfolding state_call
  position_state_refusals_law = search (among, by_in) depth 20

-- ---- a split

pub split_refusals_law : (reward : ℕ) (weights : List ℕ) (room : ℕ) → Among split_refusals (split_call reward weights room)
unfolding split_call
split_refusals_law reward weights room = search (among) depth 20

-- ---- a number that is in no list is never given

not_among : {A : Type 0} (ks : List ℕ) (k : ℕ) → has ks k ≡ false → (o : Outcome A) → Among ks o → o ≢ refused k
unfolding Among
not_among ks k none o p e = let z : true ≡ false = sym (subst (Among ks) e p) ∙ none in cc

-- [8] 'Refusal 14 is shown never to occur': it is in no call's list
pub in_no_list :
    has (fresh_refusals ++ advance_refusals ++ payment_refusals ++ add_refusals ++ remove_refusals ++ create_refusals ++ slash_refusals ++ fee_refusals
    ++ stake_account_refusals ++ position_state_refusals ++ split_refusals) claimable_over_custody
    ≡ false
in_no_list = refl

-- so of the two calls that gave it before, on any image, message and inputs
module _ (P E : ℕ) (img m : List ℕ) (g : Given) where
  pub advance_never_14 : advance_call P E img m g ≢ refused claimable_over_custody
  advance_never_14 = not_among advance_refusals claimable_over_custody refl _ (advance_refusals_law P E img m g)

  pub forecast_never_14 : forecast_call P E img m g ≢ refused claimable_over_custody
  forecast_never_14 = not_among advance_refusals claimable_over_custody refl _ (forecast_refusals P E img m g)

-- ---- what a caller makes of the number

-- where 0 is in no list, a function that returns 0 was accepted
module _ {A : Type 0} (ks : List ℕ) (none : has ks 0 ≡ false) where
  pub zero_accepted : (o : Outcome A) → Among ks o → number_of o ≡ 0 → is_accepted o ≡ true
  unfolding Among
  zero_accepted (refused n) p e = sym none ∙ ap (has ks) (sym e) ∙ p
  zero_accepted (accepted a) p e = refl

-- the lists one by one: each is asked for 0
module _ (P E : ℕ) (img : List ℕ) where
  pub fresh_zero : (given : ℕ) → number_of (fresh_call P E img given) ≡ 0 → is_accepted (fresh_call P E img given) ≡ true
  fresh_zero given = zero_accepted fresh_refusals refl _ (fresh_refusals_law P E img given)

  pub advance_zero : (m : List ℕ) (g : Given) → number_of (advance_call P E img m g) ≡ 0 → is_accepted (advance_call P E img m g) ≡ true
  advance_zero m g = zero_accepted advance_refusals refl _ (advance_refusals_law P E img m g)

  pub forecast_zero : (m : List ℕ) (g : Given) → number_of (forecast_call P E img m g) ≡ 0 → is_accepted (forecast_call P E img m g) ≡ true
  forecast_zero m g = zero_accepted advance_refusals refl _ (forecast_refusals P E img m g)

  pub payment_zero : (words : List ℕ) (c : Claim) → number_of (payment_call P E img words c) ≡ 0 → is_accepted (payment_call P E img words c) ≡ true
  payment_zero words c = zero_accepted payment_refusals refl _ (payment_refusals_law P E img words c)

  pub add-zero : (d : Delegation) (amount : ℕ) → number_of (add_call P E img d amount) ≡ 0 → is_accepted (add_call P E img d amount) ≡ true
  add-zero d amount = zero_accepted add_refusals refl _ (add_refusals_law P E img d amount)

  pub remove_zero : (d : Delegation) (amount : ℕ) (s : PositionState) → number_of (remove_call P E img d amount s) ≡ 0
      → is_accepted (remove_call P E img d amount s) ≡ true
  remove_zero d amount s = zero_accepted remove_refusals refl _ (remove_refusals_law P E img d amount s)

  pub create_zero : (k : Key) (index : ℕ) → number_of (create_slash_event_call P E img k index) ≡ 0
      → is_accepted (create_slash_event_call P E img k index) ≡ true
  create_zero k index = zero_accepted create_refusals refl _ (create_refusals_law P E img k index)

  pub slash_zero : (x : Slashing) → number_of (slash_call P E img x) ≡ 0 → is_accepted (slash_call P E img x) ≡ true
  slash_zero x = zero_accepted slash_refusals refl _ (slash_refusals_law P E img x)

  pub fee_zero : (fee : ℕ) → number_of (fee_call P E img fee) ≡ 0 → is_accepted (fee_call P E img fee) ≡ true
  fee_zero fee = zero_accepted fee_refusals refl _ (fee_refusals_law P E img fee)

  pub stake_account_zero : (old new : List ℕ) (a : StakeAccounts) → number_of (stake_account_call P E img old new a) ≡ 0
      → is_accepted (stake_account_call P E img old new a) ≡ true
  stake_account_zero old new a = zero_accepted stake_account_refusals refl _ (stake_account_refusals_law P E img old new a)

pub position_state_zero : (words : List ℕ) (epoch unlocking : ℕ) → number_of (state_call words epoch unlocking) ≡ 0
    → is_accepted (state_call words epoch unlocking) ≡ true
position_state_zero words epoch unlocking = zero_accepted position_state_refusals refl _ (position_state_refusals_law words epoch unlocking)

pub split_zero : (reward : ℕ) (weights : List ℕ) (room : ℕ) → number_of (split_call reward weights room) ≡ 0
    → is_accepted (split_call reward weights room) ≡ true
split_zero reward weights room = zero_accepted split_refusals refl _ (split_refusals_law reward weights room)

-- ---- a remove of stake that is UNLOCKING is always refused, and so is one with a number that is no state's

unfoldable Refused : {A : Type 0} → Outcome A → Type 0
Refused o = is_accepted o ≡ false

number_refused : (A : Type 0) (n : ℕ) → Refused {A = A} (refused n)
unfolding Refused
number_refused A n = refl

if_refused : {A : Type 0} (b : Bool) (x y : Outcome A) → Refused x → Refused y → Refused (if b then x else y)
if_refused true x y p q = p
if_refused false x y p q = q

then_refused : {A B : Type 0} (o : Outcome A) (f : A → Outcome B) → ((a : A) → Refused (f a)) → Refused (and_then o f)
unfolding Refused
then_refused (refused n) f p = refl
then_refused (accepted a) f p = p a

map_refused : {A B : Type 0} (f : A → B) (o : Outcome A) → Refused o → Refused (map_outcome f o)
unfolding Refused
map_refused f (refused n) p = refl
map_refused f (accepted a) p = p

module _ (P E : ℕ) (img : List ℕ) (d : Delegation) (amount : ℕ) where
  unlocking_call : Refused (remove_call P E img d amount UNLOCKING)
  unfolding remove_call checked_image_then remove_delegation side_change remove_of
  unlocking_call = search (if_refused, then_refused, map_refused, number_refused) depth 20

  pub unlocking_refused : is_accepted (remove_call P E img d amount UNLOCKING) ≡ false
  unfolding Refused
  unlocking_refused = unlocking_call

  pub no_state_refused : (n : ℕ) → 3 < n → is_accepted (remove_call P E img d amount (state_of n)) ≡ false
  no_state_refused n up =
      subst (λ s. is_accepted (remove_call P E img d amount s) ≡ false)
      (is_other n (λ e. omega (arith, up, e)) (λ e. omega (arith, up, e)) (λ e. omega (arith, up, e)) (λ e. omega (arith, up, e)))
      unlocking_refused

-- ---- what a refused payment reports

-- [9] 'A payment that is refused reports no count': no word of the answer is written
pub refused_reports_no_count : (found : List ℕ) (n : ℕ) → payment_answer found (refused n) ≡ found
refused_reports_no_count found n = refl
