-- Each field in range has a place of its own.
-- Assumes nothing.
use Prim.Native.Nat.{ℕ, ◌+◌, ◌*◌, ◌-◌, ◌/◌, ◌%◌, ◌≤◌, ◌<◌}
use mathlib.Core.Path.{◌≡◌, refl, sym, ap, ap₂, ◌∙◌}
use native.Mathlib.Omega.{arith}
use native.Mathlib.Nat.{mul-le-mul_right}
use lib.ListN.{length}
use lib.Arith.{digits_div, digits_mod}
use borrow.Author.Tests.{lt-ltb, le-ltb, eq-eqb, ne_eqb}
use Rattle.image.specs.Layout.{Whose, self, other, last_updated_epoch, claimable_rewards, num_events, publishers, total_delegation}
use Rattle.image.specs.Layout.{delta_delegation, publisher_stake_accounts, num_slash_events, delegation_fees, event_epoch, event_y}
use Rattle.image.specs.Layout.{extra_space, reward_ratio, event_fee, Field, head, seat, slot, share, Words, event_size, events_at}
use Rattle.image.specs.Layout.{size, addr, InRange, if_below, if_equal, side_field, event_field, field_of, read, image}
use Rattle.types.proofs.ListLaws.{get_or_tabulate, length_tabulate}

-- a test that is known to fail, or to pass, in a chain of tests
past : (i b : ℕ) (x y z : Field) → b ≤ i → y ≡ z → if_below i b x y ≡ z
unfolding if_below
past i b x y z h e = rw (le-ltb i b h) e

here : (i b : ℕ) (x y z : Field) → i < b → x ≡ z → if_below i b x y ≡ z
unfolding if_below
here i b x y z h e = rw (lt-ltb i b h) e

eq_hit : (a b : ℕ) (x y z : Field) → a ≡ b → x ≡ z → if_equal a b x y ≡ z
unfolding if_equal
eq_hit a b x y z h e = rw (eq-eqb a b h) e

eq_skip : (a b : ℕ) (x y z : Field) → (a ≡ b → ⊥) → y ≡ z → if_equal a b x y ≡ z
unfolding if_equal
eq_skip a b x y z h e = rw (ne_eqb a b h) e

side_total : (d : Whose) (s j : ℕ) → j ≡ s * 2 → side_field d j ≡ seat s (total_delegation d)
unfolding side_field
side_total d s j e = eq_hit _ _ _ _ _ (omega arith) (ap (λ q. seat q (total_delegation d)) (omega arith))

side_change_law : (d : Whose) (s j : ℕ) → j ≡ s * 2 + 1 → side_field d j ≡ seat s (delta_delegation d)
unfolding side_field
side_change_law d s j e = eq_skip _ _ _ _ _ (λ q. omega arith) (ap (λ q. seat q (delta_delegation d)) (omega arith))

event_epoch_law : (t : ℕ) → event_field t 0 ≡ slot t event_epoch
unfolding event_field
event_epoch_law t = here _ _ _ _ _ (omega arith) refl

event_yield : (t : ℕ) → event_field t 1 ≡ slot t event_y
unfolding event_field
event_yield t = past _ _ _ _ _ (omega arith) (here _ _ _ _ _ (omega arith) refl)

event_spare : (t c : ℕ) → c < 7 → event_field t (2 + c) ≡ slot t (extra_space c)
unfolding event_field
event_spare t c h = past _ _ _ _ _ (omega arith) (past _ _ _ _ _ (omega arith) (here _ _ _ _ _ (omega arith) (ap (λ q. slot t (extra_space q)) (omega arith))))

module _ (t o : ℕ) where
  past_spares : (z : Field) →
      if_equal ((9 + o - 9) % 3) 0 (share t ((9 + o - 9) / 3) (reward_ratio self))
      (if_equal ((9 + o - 9) % 3) 1 (share t ((9 + o - 9) / 3) (reward_ratio other)) (share t ((9 + o - 9) / 3) event_fee)) ≡ z →
      event_field t (9 + o) ≡ z
  unfolding event_field
  past_spares z e = past _ _ _ _ _ (omega arith) (past _ _ _ _ _ (omega arith) (past _ _ _ _ _ (omega arith) e))

event_self : (t s : ℕ) → event_field t (9 + s * 3) ≡ share t s (reward_ratio self)
event_self t s = past_spares t (s * 3) _ (eq_hit _ _ _ _ _ (omega arith) (ap (λ q. share t q (reward_ratio self)) (omega arith)))

event_other : (t s : ℕ) → event_field t (9 + (s * 3 + 1)) ≡ share t s (reward_ratio other)
event_other t s =
    past_spares t (s * 3 + 1) _ (eq_skip _ _ _ _ _ (λ q. omega arith) (eq_hit _ _ _ _ _ (omega arith) (ap (λ q. share t q (reward_ratio other)) (omega arith))))

event_fees : (t s : ℕ) → event_field t (9 + (s * 3 + 2)) ≡ share t s event_fee
event_fees t s =
    past_spares t (s * 3 + 2) _ (eq_skip _ _ _ _ _ (λ q. omega arith) (eq_skip _ _ _ _ _ (λ q. omega arith) (ap (λ q. share t q event_fee) (omega arith))))

module _ (P E : ℕ) where
  -- places in the ring
  at_event : (t o : ℕ) → t < E → o < event_size P → field_of P E (events_at P + (t * event_size P + o)) ≡ event_field t o
  unfolding field_of
  at_event t o lt small =
      let fits = mul-le-mul_right (event_size P) lt in
      let e : events_at P + (t * event_size P + o) - events_at P ≡ t * event_size P + o = omega arith in
      past _ _ _ _ _ (omega arith) (past _ _ _ _ _ (omega arith) (past _ _ _ _ _ (omega arith) (past _ _ _ _ _ (omega arith)
      (past _ _ _ _ _ (omega arith) (past _ _ _ _ _ (omega arith) (here _ _ _ _ _ (omega arith)
      (ap₂ event_field (rw e (digits_div t small)) (rw e (digits_mod t small)))))))))

  pub field_of_addr : (f : Field) → InRange P E f → field_of P E (addr P E f) ≡ f
  unfolding field_of
  field_of_addr (head last_updated_epoch) r = here _ _ _ _ _ (omega arith) refl
  field_of_addr (head claimable_rewards) r = past _ _ _ _ _ (omega arith) (here _ _ _ _ _ (omega arith) refl)
  field_of_addr (head num_events) r =
      past _ _ _ _ _ (omega arith) (past _ _ _ _ _ (omega arith) (past _ _ _ _ _ (omega arith) (past _ _ _ _ _ (omega arith)
      (past _ _ _ _ _ (omega arith) (past _ _ _ _ _ (omega arith) (past _ _ _ _ _ (omega arith) (here _ _ _ _ _ (omega arith) refl)))))))
  field_of_addr (seat s (publishers c)) r =
      past _ _ _ _ _ (omega arith) (past _ _ _ _ _ (omega arith)
      (here _ _ _ _ _ (omega arith) (ap₂ (λ q z. seat q (publishers z)) (omega arith) (omega arith))))
  field_of_addr (seat s (total_delegation other)) r =
      past _ _ _ _ _ (omega arith) (past _ _ _ _ _ (omega arith)
      (past _ _ _ _ _ (omega arith) (here _ _ _ _ _ (omega arith) (side_total other s _ (omega arith)))))
  field_of_addr (seat s (total_delegation self)) r =
      past _ _ _ _ _ (omega arith) (past _ _ _ _ _ (omega arith) (past _ _ _ _ _ (omega arith) (past _ _ _ _ _ (omega arith)
      (here _ _ _ _ _ (omega arith) (side_total self s _ (omega arith))))))
  field_of_addr (seat s (delta_delegation other)) r =
      past _ _ _ _ _ (omega arith) (past _ _ _ _ _ (omega arith)
      (past _ _ _ _ _ (omega arith) (here _ _ _ _ _ (omega arith) (side_change_law other s _ (omega arith)))))
  field_of_addr (seat s (delta_delegation self)) r =
      past _ _ _ _ _ (omega arith) (past _ _ _ _ _ (omega arith) (past _ _ _ _ _ (omega arith) (past _ _ _ _ _ (omega arith)
      (here _ _ _ _ _ (omega arith) (side_change_law self s _ (omega arith))))))
  field_of_addr (seat s (publisher_stake_accounts c)) r =
      past _ _ _ _ _ (omega arith) (past _ _ _ _ _ (omega arith) (past _ _ _ _ _ (omega arith) (past _ _ _ _ _ (omega arith)
      (past _ _ _ _ _ (omega arith) (here _ _ _ _ _ (omega arith) (ap₂ (λ q z. seat q (publisher_stake_accounts z)) (omega arith) (omega arith)))))))
  field_of_addr (slot t event_epoch) r = at_event t 0 r.0 (omega arith) ∙ event_epoch_law t
  field_of_addr (slot t event_y) r = at_event t 1 r.0 (omega arith) ∙ event_yield t
  field_of_addr (slot t (extra_space c)) r = at_event t (2 + c) r.0 (omega arith) ∙ event_spare t c r.1
  field_of_addr (share t s (reward_ratio self)) r = at_event t (9 + s * 3) r.0 (omega arith) ∙ event_self t s
  field_of_addr (share t s (reward_ratio other)) r = at_event t (9 + (s * 3 + 1)) r.0 (omega arith) ∙ event_other t s
  field_of_addr (share t s event_fee) r = at_event t (9 + (s * 3 + 2)) r.0 (omega arith) ∙ event_fees t s
  field_of_addr (seat s num_slash_events) r =
      past _ _ _ _ _ (omega arith) (past _ _ _ _ _ (omega arith) (past _ _ _ _ _ (omega arith) (past _ _ _ _ _ (omega arith)
      (past _ _ _ _ _ (omega arith)
      (past _ _ _ _ _ (omega arith)
      (past _ _ _ _ _ (omega arith) (past _ _ _ _ _ (omega arith) (here _ _ _ _ _ (omega arith) (ap (λ q. seat q num_slash_events) (omega arith))))))))))
  field_of_addr (seat s delegation_fees) r =
      past _ _ _ _ _ (omega arith) (past _ _ _ _ _ (omega arith) (past _ _ _ _ _ (omega arith) (past _ _ _ _ _ (omega arith)
      (past _ _ _ _ _ (omega arith)
      (past _ _ _ _ _ (omega arith)
      (past _ _ _ _ _ (omega arith) (past _ _ _ _ _ (omega arith) (past _ _ _ _ _ (omega arith) (ap (λ q. seat q delegation_fees) (omega arith))))))))))

  -- words with different names do not share a place
  pub addr_apart : (f g : Field) → InRange P E f → InRange P E g → addr P E f ≡ addr P E g → f ≡ g
  addr_apart f g rf rg e = sym (field_of_addr f rf) ∙ ap (field_of P E) e ∙ field_of_addr g rg

  pub addr_lt : (f : Field) → InRange P E f → addr P E f < size P E
  addr_lt (head last_updated_epoch) r = omega arith
  addr_lt (head claimable_rewards) r = omega arith
  addr_lt (head num_events) r = omega arith
  addr_lt (seat s (publishers c)) r = omega arith
  addr_lt (seat s (total_delegation other)) r = omega arith
  addr_lt (seat s (total_delegation self)) r = omega arith
  addr_lt (seat s (delta_delegation other)) r = omega arith
  addr_lt (seat s (delta_delegation self)) r = omega arith
  addr_lt (seat s (publisher_stake_accounts c)) r = omega arith
  addr_lt (slot t event_epoch) r = omega (arith, mul-le-mul_right (event_size P) r.0)
  addr_lt (slot t event_y) r = omega (arith, mul-le-mul_right (event_size P) r.0)
  addr_lt (slot t (extra_space c)) r = omega (arith, mul-le-mul_right (event_size P) r.0)
  addr_lt (share t s (reward_ratio self)) r = omega (arith, mul-le-mul_right (event_size P) r.0)
  addr_lt (share t s (reward_ratio other)) r = omega (arith, mul-le-mul_right (event_size P) r.0)
  addr_lt (share t s event_fee) r = omega (arith, mul-le-mul_right (event_size P) r.0)
  addr_lt (seat s num_slash_events) r = omega arith
  addr_lt (seat s delegation_fees) r = omega arith

  -- the words of an image are read back
  pub read_image : (w : Words) (f : Field) → InRange P E f → read P E (image P E w) f ≡ w f
  unfolding image read
  read_image w f r = get_or_tabulate (size P E) (λ i. w (field_of P E i)) (addr P E f) (addr_lt f r) ∙ ap w (field_of_addr f r)

  pub length_image : (w : Words) → length (image P E w) ≡ size P E
  unfolding image
  length_image w = length_tabulate (size P E) _
