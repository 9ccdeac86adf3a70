-- What a contract must say of a result to fix it: a view of results that tells any two apart. Assumes nothing.
use mathlib.Core.Path.{◌≡◌, refl, sym, ap, ◌∙◌}
use mathlib.Core.List.{List}
use Prim.Native.Nat.{ℕ, zero, suc, ◌/◌, ◌%◌, ◌^◌, ◌*◌, ◌+◌, ◌<◌}
use native.Mathlib.Nat.{div-one, div-div-eq-div-mul, pow-succ'}
use native.Mathlib.Omega.{arith}
use lib.ListN.{length, get_or}
use lib.Seq.{ext_get_or}
use lib.Dec.{eqb}
use Rattle.std.specs.Prelude.{Result, Ok, Err, if◌then◌else◌}
use Rattle.types.specs.Base.{word, to_nat, outcome_of, outcome_by}
use Rattle.types.specs.Refusals.{number_of}
use Rattle.types.specs.declared.refusals.Refusal.{Refusal}
use Rattle.types.specs.declared.refusals.Refusal.TheVariants.{InvalidImage, InvalidEpoch, InvalidPublisherCaps, InvalidPositions, InvalidY}
use Rattle.types.specs.declared.refusals.Refusal.TheVariants.{InvalidDelegationFee, UnverifiedPublisherCaps, PoolDataAlreadyUpToDate}
use Rattle.types.specs.declared.refusals.Refusal.TheVariants.{OutdatedPublisherCaps, InvalidPublisher, PublisherNotFound, OutdatedPublisherAccounting}
use Rattle.types.specs.declared.refusals.Refusal.TheVariants.{DoesNotFit, ClaimableOverCustody, UnexpectedPositionState, PaymentAboveClaimable}
use Rattle.types.specs.declared.refusals.Refusal.TheVariants.{PublisherStakeAccountMismatch, PublisherCustodyAccountRequired, OutdatedDelegatorAccounting}
use Rattle.types.specs.declared.refusals.Refusal.TheVariants.{WrongSlashEventOrder, InvalidSlashEventIndex, SlashEventAheadOfNow}
use Rattle.types.specs.declared.refusals.Refusal.TheVariants.{PublisherOrRewardAuthorityNeedsToSign, CurrentStakeAccountShouldBeUndelegated}
use Rattle.types.specs.declared.refusals.Refusal.TheVariants.{StakeAccountOwnerNeedsToSign, AccountNotEnoughKeys, NewStakeAccountShouldBeUndelegated}
use Rattle.types.specs.declared.refusals.Refusal.TheVariants.{InvalidWeights, ZeroWeightSum}
use Rattle.types.proofs.OutcomeLaws.{not_accepted}
use Rattle.types.specs.BoolArray.{bit_at, marked}
use Rattle.types.specs.declared.wide.Wide.{Wide}
use Rattle.types.specs.Wide.{wide_of}
use Rattle.types.proofs.BoolArrayLaws.{mark_bit}

-- a view from which the result can be had again
pub by_return : {A B : Type 0} (view : A → B) (return : B → A) → ((a : A) → return (view a) ≡ a) → (a b : A) → view a ≡ view b → a ≡ b
by_return view return back a b e = sym (back a) ∙ (ap return e ∙ back b)

-- two numbers of two words that come to the same have the same words
pub wide_of_fixes : (a b : Wide) → a.lo < word → b.lo < word → wide_of a ≡ wide_of b → a ≡ b
unfolding wide_of
wide_of_fixes a b la lb e =
    let hi : a.hi ≡ b.hi = omega arith in
    let lo : a.lo ≡ b.lo = omega arith in
    λ i. record { hi = hi i; lo = lo i }

-- two numbers of n bits with the same bits are the same
by_bits : (n x y : ℕ) → x < 2 ^ n → y < 2 ^ n → ((b : ℕ) → b < n → bit_at x b ≡ bit_at y b) → x ≡ y
by_bits zero x y lx ly h = omega arith
by_bits (suc n) x y lx ly h =
    let p : 2 ^ suc n ≡ 2 * 2 ^ n = pow-succ' 2 n in
    let low : x % 2 ≡ y % 2 = rw (div-one x, div-one y) at (h 0 (omega arith)) in
    let high : x / 2 ≡ y / 2 = by_bits n (x / 2) (y / 2) (omega arith) (omega arith) (λ b l. upper b (h (suc b) (omega arith))) in
    omega arith
  where
    upper : (b : ℕ) → bit_at x (suc b) ≡ bit_at y (suc b) → bit_at (x / 2) b ≡ bit_at (y / 2) b
    upper b e = rw (div-div-eq-div-mul x 2 (2 ^ b), div-div-eq-div-mul y 2 (2 ^ b), ← pow-succ' 2 b) e

-- an array of mark words
pub record MarkWords (a : List ℕ) : Type 0 where
  pub long : length a ≡ 16
  pub words : (k : ℕ) → get_or a k 0 < word

-- two in which every row has the same mark are the same
pub marks_fix : (a b : List ℕ) → MarkWords a → MarkWords b → ((j : ℕ) → marked a j ≡ marked b j) → a ≡ b
marks_fix a b x y same =
    ext_get_or 0 a b (x.long ∙ sym y.long) (λ k l.
    by_bits 64 (get_or a k 0) (get_or b k 0) (x.words k) (y.words k) (λ i li.
    sym (mark_bit a k i (omega arith) li) ∙ (ap to_nat (same (k * 64 + i)) ∙ mark_bit b k i (omega arith) li)))

-- the refusal that has a number
refusal_of : ℕ → Refusal
refusal_of n =
    if eqb n 1 then InvalidImage
    else if eqb n 2 then InvalidEpoch
    else if eqb n 3 then InvalidPublisherCaps
    else if eqb n 4 then InvalidPositions
    else if eqb n 5 then InvalidY
    else if eqb n 6 then InvalidDelegationFee
    else if eqb n 7 then UnverifiedPublisherCaps
    else if eqb n 8 then PoolDataAlreadyUpToDate
    else if eqb n 9 then OutdatedPublisherCaps
    else if eqb n 10 then InvalidPublisher
    else if eqb n 11 then PublisherNotFound
    else if eqb n 12 then OutdatedPublisherAccounting
    else if eqb n 13 then DoesNotFit
    else if eqb n 14 then ClaimableOverCustody
    else if eqb n 15 then UnexpectedPositionState
    else if eqb n 16 then PaymentAboveClaimable
    else if eqb n 17 then PublisherStakeAccountMismatch
    else if eqb n 18 then PublisherCustodyAccountRequired
    else if eqb n 19 then OutdatedDelegatorAccounting
    else if eqb n 20 then WrongSlashEventOrder
    else if eqb n 21 then InvalidSlashEventIndex
    else if eqb n 22 then SlashEventAheadOfNow
    else if eqb n 23 then PublisherOrRewardAuthorityNeedsToSign
    else if eqb n 24 then CurrentStakeAccountShouldBeUndelegated
    else if eqb n 25 then StakeAccountOwnerNeedsToSign
    else if eqb n 26 then AccountNotEnoughKeys
    else if eqb n 27 then NewStakeAccountShouldBeUndelegated
    else if eqb n 28 then InvalidWeights
    else ZeroWeightSum

again : (r : Refusal) → refusal_of (number_of r) ≡ r
unfolding refusal_of
again InvalidImage = refl
again InvalidEpoch = refl
again InvalidPublisherCaps = refl
again InvalidPositions = refl
again InvalidY = refl
again InvalidDelegationFee = refl
again UnverifiedPublisherCaps = refl
again PoolDataAlreadyUpToDate = refl
again OutdatedPublisherCaps = refl
again InvalidPublisher = refl
again PublisherNotFound = refl
again OutdatedPublisherAccounting = refl
again DoesNotFit = refl
again ClaimableOverCustody = refl
again UnexpectedPositionState = refl
again PaymentAboveClaimable = refl
again PublisherStakeAccountMismatch = refl
again PublisherCustodyAccountRequired = refl
again OutdatedDelegatorAccounting = refl
again WrongSlashEventOrder = refl
again InvalidSlashEventIndex = refl
again SlashEventAheadOfNow = refl
again PublisherOrRewardAuthorityNeedsToSign = refl
again CurrentStakeAccountShouldBeUndelegated = refl
again StakeAccountOwnerNeedsToSign = refl
again AccountNotEnoughKeys = refl
again NewStakeAccountShouldBeUndelegated = refl
again InvalidWeights = refl
again ZeroWeightSum = refl

-- refusals with the same number are the same
pub number_of_fixes : (a b : Refusal) → number_of a ≡ number_of b → a ≡ b
number_of_fixes = by_return number_of refusal_of again

-- results with the same outcome are the same, and by a view that fixes their values too
pub outcome_by_fixes : {A B : Type 0} (view : A → B) → ((a b : A) → view a ≡ view b → a ≡ b) → (x y : Result A Refusal) → outcome_by view x ≡ outcome_by view y
    → x ≡ y
outcome_by_fixes view fixes (Ok a) (Ok b) e = ap Ok (fixes a b cc)
outcome_by_fixes view fixes (Ok a) (Err y) e = absurd (not_accepted (view a) (number_of y) e)
outcome_by_fixes view fixes (Err x) (Ok b) e = absurd (not_accepted (view b) (number_of x) (sym e))
outcome_by_fixes view fixes (Err x) (Err y) e = ap Err (number_of_fixes x y cc)

pub outcome_of_fixes : {A : Type 0} (x y : Result A Refusal) → outcome_of x ≡ outcome_of y → x ≡ y
outcome_of_fixes x y e = outcome_by_fixes (λ a. a) (λ a b q. q) x y (as_view x ∙ (e ∙ sym (as_view y)))
  where
    as_view : {A : Type 0} (r : Result A Refusal) → outcome_by (λ a. a) r ≡ outcome_of r
    as_view (Ok a) = refl
    as_view (Err r) = refl
