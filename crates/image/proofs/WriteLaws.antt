-- Stores to the places of some words: the image then holds what a definition says, where it says the stored values of these words and leaves
-- all others. Assumes nothing.
use Prim.Native.Nat.{ℕ, zero, suc, ◌+◌, ◌*◌, ◌≤◌, ◌<◌}
use mathlib.Core.Path.{◌≡◌, refl, sym, ap, ◌∙◌}
use mathlib.Core.Logic.{◌⊎◌, inl, inr, ⊎_elim, ◌≢◌}
use mathlib.Core.Bool.{true, false, ◌&&◌}
use mathlib.Core.List.{List}
use native.Mathlib.Decide.{ℕ_discrete}
use native.Mathlib.Omega.{arith}
use lib.ListN.{length, get_or, set, length-set}
use lib.Seq.{get_or-set_same, get_or-set_other}
use borrow.Author.Tests.{eq-eqb, ne_eqb}
use lib.Dec.{eqb}
use Rattle.std.specs.Prelude.{if◌then◌else◌}
use Rattle.types.proofs.Below.{and_right}
use Rattle.positions.specs.declared.Key.{Key}
use Rattle.delegation.specs.declared.DelegationState.{DelegationState}
use Rattle.image.specs.Layout.{Whose, self, other, Head, last_updated_epoch, claimable_rewards, num_events, publishers}
use Rattle.image.specs.Layout.{total_delegation, delta_delegation, publisher_stake_accounts, num_slash_events}
use Rattle.image.specs.Layout.{delegation_fees, Field, head, seat, slot, share, Words, size, addr, InRange, read, image}
use Rattle.image.specs.Seats.{word_of, keyed, with_publisher, same_side, with_side, same_head, with_head}
use Rattle.image.proofs.LayoutLaws.{addr_lt, addr_apart}
use Rattle.image.proofs.HoldsLaws.{stays}

-- ---- a run of stores: F names the words, v gives their values, and the places follow each other from `at` on

abbrev pub place : (at c : ℕ) → ℕ
place at zero = at
place at (suc c) = at + suc c

module _ (P E : ℕ) (F : ℕ → Field) (v : ℕ → ℕ) (img : List ℕ) (at : ℕ) where
  -- the first n of them are stored
  unfoldable pub stored : ℕ → List ℕ
  stored zero = img
  stored (suc n) = set (stored n) (place at n) (v n)

  module _ (N : ℕ) (in_run : (c : ℕ) → c < N → InRange P E (F c) × (place at c ≡ addr P E (F c))) (long : length img ≡ size P E)
      (w : Words) (new : (c : ℕ) → c < N → w (F c) ≡ v c) where
    length_stored : (n : ℕ) → length (stored n) ≡ size P E
    unfolding stored
    length_stored zero = long
    length_stored (suc n) = length-set (stored n) (place at n) (v n) ∙ length_stored n

    -- a word is one of those stored, or as it was
    abbrev Word : (n : ℕ) → Field → Type 0
    Word n g = (read P E (stored n) g ≡ w g) ⊎ ((read P E (stored n) g ≡ read P E img g) × ((c : ℕ) → c < n → g ≢ F c))

    one_more : (n : ℕ) → n < N → (g : Field) → InRange P E g → Word n g → Word (suc n) g
    unfolding stored read
    one_more n l g r before = go (ℕ_discrete (addr P E g) (addr P E (F n)))
      where
        go : Dec (addr P E g ≡ addr P E (F n)) → Word (suc n) g
        go (yes e) =
            let b : addr P E (F n) < length (stored n) = rw (length_stored n) (addr_lt P E (F n) (in_run n l).0) in
            let q : g ≡ F n = addr_apart P E g (F n) r (in_run n l).0 e in
            inl (rw (e, (in_run n l).1) (get_or-set_same (stored n) (addr P E (F n)) (v n) 0 b) ∙ sym (new n l) ∙ ap w (sym q))
        go (no d) =
            let kept : get_or (set (stored n) (place at n) (v n)) (addr P E g) 0 ≡ get_or (stored n) (addr P E g) 0 =
            rw (in_run n l).1 (get_or-set_other (stored n) (addr P E (F n)) (addr P E g) (v n) 0 d) in
            ⊎_elim (λ x. inl (kept ∙ x)) (λ x. inr (kept ∙ x.0, λ c h. still c h x.1 (ℕ_discrete c n))) before
          where
            still : (c : ℕ) → c < suc n → ((i : ℕ) → i < n → g ≢ F i) → Dec (c ≡ n) → g ≢ F c
            still c h others (yes e) q = d (ap (addr P E) (q ∙ ap F e))
            still c h others (no m) q = others c (omega arith) q

    word_stored : (n : ℕ) → n ≤ N → (g : Field) → InRange P E g → Word n g
    unfolding stored
    word_stored zero l g r = inr (refl, λ c h. absurd (omega arith))
    word_stored (suc n) l g r = one_more n (omega arith) g r (word_stored n (omega arith) g r)

    pub stored_is : ((g : Field) → InRange P E g → ((c : ℕ) → c < N → g ≢ F c) → w g ≡ read P E img g) → stored N ≡ image P E w
    stored_is others =
        stays P E w (stored N) (length_stored N) (λ g r. ⊎_elim (λ x. x) (λ x. x.0 ∙ sym (others g r x.1)) (word_stored N (omega arith) g r))

-- ---- a seat's words

module _ (P E s : ℕ) (img : List ℕ) (long : length img ≡ size P E) (in_seat : s < P) where
  abbrev w0 : Words
  w0 = read P E img

  -- `at` is where the key's first word stands, the others behind it
  module _ (k : Key) (at : ℕ) where
    publishers_at : at ≡ 2 + s * 4 → (c : ℕ) → c < 4 → InRange P E (seat s (publishers c)) × (place at c ≡ addr P E (seat s (publishers c)))
    publishers_at q zero l = ((in_seat, l), omega arith)
    publishers_at q (suc c) l = ((in_seat, l), omega arith)

    else_publisher : (g : Field) → InRange P E g → ((c : ℕ) → c < 4 → g ≢ seat s (publishers c)) → with_publisher w0 s k g ≡ w0 g
    unfolding with_publisher
    else_publisher (head h) r n = refl
    else_publisher (seat q (publishers c)) r n = rw (ne_eqb q s (λ e. n c r.1 (ap (λ (i : ℕ). seat i (publishers c)) e)))
    else_publisher (seat q (total_delegation d)) r n = refl
    else_publisher (seat q (delta_delegation d)) r n = refl
    else_publisher (seat q (publisher_stake_accounts c)) r n = refl
    else_publisher (seat q num_slash_events) r n = refl
    else_publisher (seat q delegation_fees) r n = refl
    else_publisher (slot t x) r n = refl
    else_publisher (share t q x) r n = refl

    pub key_written : at ≡ 2 + s * 4 → keyed img at k ≡ image P E (with_publisher w0 s k)
    unfolding with_publisher stored
    key_written q =
        stored_is P E (λ c. seat s (publishers c)) (word_of k) img at 4 (publishers_at q) long (with_publisher w0 s k)
        (λ c l. rw (eq-eqb s s refl)) else_publisher

  -- `at` is where the side's total stands, its change behind it
  module _ (d : Whose) (v : DelegationState) (at : ℕ) where
    abbrev side_word : ℕ → Field
    side_word zero = seat s (total_delegation d)
    side_word (suc c) = seat s (delta_delegation d)

    abbrev value : ℕ → ℕ
    value zero = v.total_delegation.0
    value (suc c) = v.delta_delegation

    change_at : (d : Whose) → at ≡ addr P E (seat s (total_delegation d)) → at + 1 ≡ addr P E (seat s (delta_delegation d))
    change_at self q = omega arith
    change_at other q = omega arith

    side_at : at ≡ addr P E (seat s (total_delegation d)) → (c : ℕ) → c < 2 → InRange P E (side_word c) × (place at c ≡ addr P E (side_word c))
    side_at q zero l = ((in_seat, tt), q)
    side_at q (suc zero) l = ((in_seat, tt), change_at d q)
    side_at q (suc (suc c)) l = absurd (omega arith)

    same : (x : Whose) → same_side x x ≡ true
    same self = refl
    same other = refl

    is_written : (c : ℕ) → c < 2 → with_side w0 s d v (side_word c) ≡ value c
    unfolding with_side
    is_written zero l = rw (eq-eqb s s refl, same d)
    is_written (suc c) l = rw (eq-eqb s s refl, same d)

    -- the same seat and side, or not
    neither : {A : Type 0} (x y : A) (q : ℕ) (a d : Whose) → ((q ≡ s) → (a ≡ d) → ⊥) → (if eqb q s && same_side a d then x else y) ≡ y
    neither x y q self self n = rw (ne_eqb q s (λ e. n e refl))
    neither x y q other other n = rw (ne_eqb q s (λ e. n e refl))
    neither x y q self other n = rw (and_right (eqb q s) false refl)
    neither x y q other self n = rw (and_right (eqb q s) false refl)

    else_side : (g : Field) → InRange P E g → ((c : ℕ) → c < 2 → g ≢ side_word c) → with_side w0 s d v g ≡ w0 g
    unfolding with_side
    else_side (head h) r n = refl
    else_side (seat q (publishers c)) r n = refl
    else_side (seat q (total_delegation x)) r n = neither _ _ q x d (λ e a. n 0 (omega arith) cc)
    else_side (seat q (delta_delegation x)) r n = neither _ _ q x d (λ e a. n 1 (omega arith) cc)
    else_side (seat q (publisher_stake_accounts c)) r n = refl
    else_side (seat q num_slash_events) r n = refl
    else_side (seat q delegation_fees) r n = refl
    else_side (slot t x) r n = refl
    else_side (share t q x) r n = refl

    pub side_written : at ≡ addr P E (seat s (total_delegation d))
        → set (set img at v.total_delegation.0) (at + 1) v.delta_delegation ≡ image P E (with_side w0 s d v)
    unfolding stored
    side_written q = stored_is P E side_word value img at 2 (side_at q) long (with_side w0 s d v) is_written else_side

-- ---- a word of the pool as a whole

module _ (P E : ℕ) (img : List ℕ) (long : length img ≡ size P E) (x : Head) (v at : ℕ) where
  is_head : (x : Head) → same_head x x ≡ true
  is_head last_updated_epoch = refl
  is_head claimable_rewards = refl
  is_head num_events = refl

  another : {A : Type 0} (a b : A) (y x : Head) → y ≢ x → (if same_head y x then a else b) ≡ b
  another a b last_updated_epoch last_updated_epoch n = absurd (n refl)
  another a b last_updated_epoch claimable_rewards n = refl
  another a b last_updated_epoch num_events n = refl
  another a b claimable_rewards last_updated_epoch n = refl
  another a b claimable_rewards claimable_rewards n = absurd (n refl)
  another a b claimable_rewards num_events n = refl
  another a b num_events last_updated_epoch n = refl
  another a b num_events claimable_rewards n = refl
  another a b num_events num_events n = absurd (n refl)

  else_head : (g : Field) → InRange P E g → ((c : ℕ) → c < 1 → g ≢ head x) → with_head (read P E img) x v g ≡ read P E img g
  unfolding with_head
  else_head (head y) r n = another v _ y x (λ e. n 0 (omega arith) (ap head e))
  else_head (seat s y) r n = refl
  else_head (slot t y) r n = refl
  else_head (share t s y) r n = refl

  head_at : at ≡ addr P E (head x) → (c : ℕ) → c < 1 → InRange P E (head x) × (place at c ≡ addr P E (head x))
  head_at q zero l = (tt, q)
  head_at q (suc c) l = absurd (omega arith)

  pub head_written : at ≡ addr P E (head x) → set img at v ≡ image P E (with_head (read P E img) x v)
  unfolding stored with_head
  head_written q = stored_is P E (λ c. head x) (λ c. v) img at 1 (head_at q) long (with_head (read P E img) x v) (λ c l. rw (is_head x)) else_head
