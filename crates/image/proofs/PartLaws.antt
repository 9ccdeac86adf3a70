-- The part of an image that is slot t's event, lent and given back: its words by name are the part's, and every other word is as it was.
-- Assumes nothing.
use Prim.Native.Nat.{ℕ, ◌+◌, ◌*◌, ◌≤◌, ◌<◌}
use mathlib.Core.Path.{◌≡◌, ap, sym, subst, ◌∙◌}
use mathlib.Core.Logic.{◌⊎◌, inl, inr, ⊎_elim, ◌≢◌}
use mathlib.Core.List.{List, ◌++◌}
use native.Mathlib.Nat.{mul-le-mul_right}
use native.Mathlib.Omega.{arith}
use lib.ListN.{length, get_or, take, drop}
use lib.Seq.{get_or-take, get_or-drop}
use Rattle.image.specs.Layout.{self, other, last_updated_epoch, claimable_rewards, num_events, publishers, total_delegation, delta_delegation}
use Rattle.image.specs.Layout.{publisher_stake_accounts, num_slash_events, delegation_fees, Slot, event_epoch, event_y, extra_space, Share}
use Rattle.image.specs.Layout.{reward_ratio, event_fee, Field, head, seat, slot, share, event_size, event_at, size, addr, InSlot, InRange, read}
use Rattle.types.proofs.Below.{lt_or_le}
use Rattle.image.proofs.ListLaws.{put_before, put_in, put_after}
use Rattle.image.proofs.PlaceLaws.{slot_fits_law}

-- the place of a word within its event
abbrev pub slot_at : Slot → ℕ
slot_at event_epoch = 0
slot_at event_y = 1
slot_at (extra_space c) = 2 + c

abbrev pub share_at : (s : ℕ) → Share → ℕ
share_at s (reward_ratio self) = 9 + s * 3
share_at s (reward_ratio other) = 9 + (s * 3 + 1)
share_at s event_fee = 9 + (s * 3 + 2)

-- words that are not slot t's
abbrev pub Elsewhere : (t : ℕ) → Field → Type 0
Elsewhere t (head h) = Unit {0}
Elsewhere t (seat s x) = Unit {0}
Elsewhere t (slot q x) = q ≢ t
Elsewhere t (share q s x) = q ≢ t

module _ (P E t : ℕ) where
  pub slot_at_law : (x : Slot) → InSlot x → (addr P E (slot t x) ≡ event_at P t + slot_at x) × (slot_at x < event_size P)
  slot_at_law event_epoch r = (omega arith, omega arith)
  slot_at_law event_y r = (omega arith, omega arith)
  slot_at_law (extra_space c) r = (omega arith, omega arith)

  pub share_at_law : (s : ℕ) (x : Share) → s < P → (addr P E (share t s x) ≡ event_at P t + share_at s x) × (share_at s x < event_size P)
  share_at_law s (reward_ratio self) l = (omega arith, omega arith)
  share_at_law s (reward_ratio other) l = (omega arith, omega arith)
  share_at_law s event_fee l = (omega arith, omega arith)

  -- another event lies before or behind
  event_apart : (q o : ℕ) → q < E → o < event_size P → q ≢ t → (event_at P q + o < event_at P t) ⊎ (event_at P t + event_size P ≤ event_at P q + o)
  event_apart q o lq lo n =
      ⊎_elim (λ x. inl (omega (arith, mul-le-mul_right (event_size P) x)))
      (λ x. let y : t < q = omega arith in inr (omega (arith, mul-le-mul_right (event_size P) y)))
      (lt_or_le q t)

module _ (P E t : ℕ) (in_ring : t < E) where
  slot_apart : (q : ℕ) (x : Slot) → q < E → InSlot x → q ≢ t → (addr P E (slot q x) < event_at P t) ⊎ (event_at P t + event_size P ≤ addr P E (slot q x))
  slot_apart q x l r n =
      let a = slot_at_law P E q x r in
      subst (λ (i : ℕ). (i < event_at P t) ⊎ (event_at P t + event_size P ≤ i)) (sym a.0) (event_apart P E t q (slot_at x) l a.1 n)

  share_apart : (q s : ℕ) (x : Share) → q < E → s < P → q ≢ t → (addr P E (share q s x) < event_at P t) ⊎ (event_at P t + event_size P ≤ addr P E (share q s x))
  share_apart q s x l r n =
      let a = share_at_law P E q s x r in
      subst (λ (i : ℕ). (i < event_at P t) ⊎ (event_at P t + event_size P ≤ i)) (sym a.0) (event_apart P E t q (share_at s x) l a.1 n)

  pub apart : (f : Field) → InRange P E f → Elsewhere t f → (addr P E f < event_at P t) ⊎ (event_at P t + event_size P ≤ addr P E f)
  apart (head last_updated_epoch) r e = inl (omega arith)
  apart (head claimable_rewards) r e = inl (omega arith)
  apart (head num_events) r e = inr (slot_fits_law P E t in_ring)
  apart (seat s (publishers c)) r e = inl (omega arith)
  apart (seat s (total_delegation self)) r e = inl (omega arith)
  apart (seat s (total_delegation other)) r e = inl (omega arith)
  apart (seat s (delta_delegation self)) r e = inl (omega arith)
  apart (seat s (delta_delegation other)) r e = inl (omega arith)
  apart (seat s (publisher_stake_accounts c)) r e = inl (omega arith)
  apart (seat s num_slash_events) r e = inr (omega (arith, slot_fits_law P E t in_ring))
  apart (seat s delegation_fees) r e = inr (omega (arith, slot_fits_law P E t in_ring))
  apart (slot q x) r e = slot_apart q x r.0 r.1 e
  apart (share q s x) r e = share_apart q s x r.0 r.1 e

  -- the part put back as ys
  module _ (img ys : List ℕ) (long : length img ≡ size P E) (many : length ys ≡ event_size P) where
    abbrev back : List ℕ
    back = take (event_at P t) img ++ (ys ++ drop (event_size P) (drop (event_at P t) img))

    fits : event_at P t + event_size P ≤ length img
    fits = omega (arith, slot_fits_law P E t in_ring)

    pub part_slot : (x : Slot) → InSlot x → read P E back (slot t x) ≡ get_or ys (slot_at x) 0
    unfolding read
    part_slot x r =
        let a = slot_at_law P E t x r in
        ap (λ (i : ℕ). get_or back i 0) a.0 ∙ put_in img ys (event_at P t) (event_size P) fits many (slot_at x) a.1

    pub part_share : (s : ℕ) (x : Share) → s < P → read P E back (share t s x) ≡ get_or ys (share_at s x) 0
    unfolding read
    part_share s x l =
        let a = share_at_law P E t s x l in
        ap (λ (i : ℕ). get_or back i 0) a.0 ∙ put_in img ys (event_at P t) (event_size P) fits many (share_at s x) a.1

    pub part_else : (f : Field) → InRange P E f → Elsewhere t f → read P E back f ≡ read P E img f
    unfolding read
    part_else f r e =
        ⊎_elim (λ x. put_before img ys (event_at P t) (event_size P) fits many (addr P E f) x)
        (λ x. put_after img ys (event_at P t) (event_size P) fits many (addr P E f) x)
        (apart f r e)

  -- what the part lent holds
  pub lent_slot : (img : List ℕ) (x : Slot) → InSlot x → get_or (take (event_size P) (drop (event_at P t) img)) (slot_at x) 0 ≡ read P E img (slot t x)
  unfolding read
  lent_slot img x r =
      let a = slot_at_law P E t x r in
      get_or-take (event_size P) (drop (event_at P t) img) (slot_at x) 0 a.1 ∙ get_or-drop (event_at P t) img (slot_at x) 0
      ∙ ap (λ (i : ℕ). get_or img i 0) (sym a.0)

  pub lent_share : (img : List ℕ) (s : ℕ) (x : Share) → s < P
      → get_or (take (event_size P) (drop (event_at P t) img)) (share_at s x) 0 ≡ read P E img (share t s x)
  unfolding read
  lent_share img s x l =
      let a = share_at_law P E t s x l in
      get_or-take (event_size P) (drop (event_at P t) img) (share_at s x) 0 a.1 ∙ get_or-drop (event_at P t) img (share_at s x) 0
      ∙ ap (λ (i : ℕ). get_or img i 0) (sym a.0)
