-- Item 9's stores: the image then holds withSlashEvents', withStakeAccount's or withFees' words; and what a refused call leaves. Assumes nothing.
use Prim.Native.Nat.{ℕ, zero, suc, ◌+◌, ◌-◌, ◌*◌, ◌<◌}
use mathlib.Core.Path.{◌≡◌, refl, ap, ◌∙◌}
use mathlib.Core.Logic.{⊎_elim, ◌≢◌}
use mathlib.Core.Bool.{Bool, true}
use mathlib.Core.List.{List}
use native.Mathlib.Omega.{arith}
use lib.ListN.{length, set}
use borrow.Author.Tests.{eq-eqb, ne_eqb}
use Rattle.types.specs.Base.{refused}
use Rattle.positions.specs.declared.Key.{Key}
use Rattle.delegation.specs.declared.DelegationState.{DelegationState}
use Rattle.image.specs.Layout.{self, publishers, total_delegation, delta_delegation, publisher_stake_accounts, num_slash_events}
use Rattle.image.specs.Layout.{delegation_fees, Field, head, seat, slot, share, Words, size, num_events_at, addr, InRange, read, image}
use Rattle.image.specs.Seats.{word_of, keyed, FilledFrom, side_at}
use Rattle.image.specs.Changes.{whose, with_slash_events, with_stake_account, with_fees, changed_image}
use Rattle.types.proofs.Below.{lt_or_le}
use Rattle.image.proofs.LayoutLaws.{addr_lt, addr_apart}
use Rattle.image.proofs.HoldsLaws.{stays}
use Rattle.image.proofs.WriteLaws.{place, stored, stored_is}

module _ (P E : ℕ) (img : List ℕ) (long : length img ≡ size P E) where
  abbrev w0 : Words
  w0 = read P E img

  -- ---- a seat's number of slash events

  module _ (s : ℕ) (in_seat : s < P) (n at : ℕ) where
    count_at : at ≡ num_events_at P E + 1 + s → (c : ℕ) → c < 1 → InRange P E (seat s num_slash_events) × (place at c ≡ addr P E (seat s num_slash_events))
    count_at q zero l = ((in_seat, tt), omega arith)
    count_at q (suc c) l = absurd (omega arith)

    else_count : (g : Field) → InRange P E g → ((c : ℕ) → c < 1 → g ≢ seat s num_slash_events) → with_slash_events w0 s n g ≡ w0 g
    unfolding with_slash_events
    else_count (head h) r d = refl
    else_count (seat q (publishers c)) r d = refl
    else_count (seat q (total_delegation x)) r d = refl
    else_count (seat q (delta_delegation x)) r d = refl
    else_count (seat q (publisher_stake_accounts c)) r d = refl
    else_count (seat q num_slash_events) r d = rw (ne_eqb q s (λ e. d 0 (omega arith) (ap (λ (i : ℕ). seat i num_slash_events) e)))
    else_count (seat q delegation_fees) r d = refl
    else_count (slot t x) r d = refl
    else_count (share t q x) r d = refl

    pub slash_events_written : at ≡ num_events_at P E + 1 + s → set img at n ≡ image P E (with_slash_events w0 s n)
    unfolding with_slash_events stored
    slash_events_written q =
        stored_is P E (λ c. seat s num_slash_events) (λ c. n) img at 1 (count_at q) long (with_slash_events w0 s n) (λ c l. rw (eq-eqb s s refl)) else_count

  -- ---- a seat's stake account: `at` is where its first word stands, the others behind it

  module _ (s : ℕ) (in_seat : s < P) (k : Key) (at : ℕ) where
    account_at : at ≡ 2 + 8 * P + s * 4 → (c : ℕ) → c < 4
        → InRange P E (seat s (publisher_stake_accounts c)) × (place at c ≡ addr P E (seat s (publisher_stake_accounts c)))
    account_at q zero l = ((in_seat, l), omega arith)
    account_at q (suc c) l = ((in_seat, l), omega arith)

    else_account : (g : Field) → InRange P E g → ((c : ℕ) → c < 4 → g ≢ seat s (publisher_stake_accounts c)) → with_stake_account w0 s k g ≡ w0 g
    unfolding with_stake_account
    else_account (head h) r n = refl
    else_account (seat q (publishers c)) r n = refl
    else_account (seat q (total_delegation d)) r n = refl
    else_account (seat q (delta_delegation d)) r n = refl
    else_account (seat q (publisher_stake_accounts c)) r n = rw (ne_eqb q s (λ e. n c r.1 (ap (λ (i : ℕ). seat i (publisher_stake_accounts c)) e)))
    else_account (seat q num_slash_events) r n = refl
    else_account (seat q delegation_fees) r n = refl
    else_account (slot t x) r n = refl
    else_account (share t q x) r n = refl

    pub stake_account_written : at ≡ 2 + 8 * P + s * 4 → keyed img at k ≡ image P E (with_stake_account w0 s k)
    unfolding with_stake_account stored
    stake_account_written q =
        stored_is P E (λ c. seat s (publisher_stake_accounts c)) (word_of k) img at 4 (account_at q) long (with_stake_account w0 s k)
        (λ c l. rw (eq-eqb s s refl)) else_account

  -- ---- every seat's fee: they stand at the end

  module _ (fee at : ℕ) (new : List ℕ) (e : at ≡ num_events_at P E + 1 + P) (f : FilledFrom at fee img new) where
    -- a word in front of them is no fee
    before : (g : Field) → InRange P E g → ((q : ℕ) → q < P → g ≢ seat q delegation_fees) → read P E new g ≡ w0 g
    unfolding read
    before g r n =
        ⊎_elim (f.kept (addr P E g))
        (λ x. let q : ℕ = addr P E g - at in
        let l = addr_lt P E g r in
        absurd (n q (omega arith) (addr_apart P E g (seat q delegation_fees) r (omega arith, tt) (omega arith))))
        (lt_or_le (addr P E g) at)

    word_filled : (g : Field) → InRange P E g → read P E new g ≡ with_fees w0 fee g
    unfolding with_fees read
    word_filled (head h) r = before (head h) r (λ i l q. cc)
    word_filled (seat q (publishers c)) r = before (seat q (publishers c)) r (λ i l q. cc)
    word_filled (seat q (total_delegation d)) r = before (seat q (total_delegation d)) r (λ i l q. cc)
    word_filled (seat q (delta_delegation d)) r = before (seat q (delta_delegation d)) r (λ i l q. cc)
    word_filled (seat q (publisher_stake_accounts c)) r = before (seat q (publisher_stake_accounts c)) r (λ i l q. cc)
    word_filled (seat q num_slash_events) r = before (seat q num_slash_events) r (λ i l q. cc)
    word_filled (seat q delegation_fees) r = f.filled (num_events_at P E + (1 + P + q)) (omega arith) (omega arith)
    word_filled (slot t x) r = before (slot t x) r (λ i l q. cc)
    word_filled (share t q x) r = before (share t q x) r (λ i l q. cc)

    pub fees_written : new ≡ image P E (with_fees w0 fee)
    fees_written = stays P E (with_fees w0 fee) new (f.long ∙ long) word_filled

-- ---- a refused call

pub refused_leaves : (P E : ℕ) (img : List ℕ) (n : ℕ) → changed_image P E img (refused n) ≡ img
unfolding changed_image
refused_leaves P E img n = refl

-- ---- whose stake it is

pub self_read : (P E : ℕ) (img : List ℕ) (s : ℕ) (b : Bool) (r : DelegationState) → b ≡ true
    → r ≡ side_at (read P E img) s self → r ≡ side_at (read P E img) s (whose b)
self_read P E img s b r e q = rw e q
