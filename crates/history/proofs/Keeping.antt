-- What keeps the invariant and claimable within custody: a fresh pool has both, words that agree where they are looked at keep them, and so each of
-- item 9's changes. Claimable within custody, for every call but a withdrawal. Assumes nothing.
use mathlib.Core.Path.{◌≡◌, refl, ap, ap₂, ◌∙◌}
use mathlib.Core.List.{List}
use Prim.Native.Nat.{ℕ, ◌+◌, ◌-◌, ◌%◌, ◌≤◌, ◌<◌, min, max}
use native.Mathlib.Nat.{mod-lt, min-le_left, min-le_right}
use native.Mathlib.Omega.{arith}
use Rattle.types.specs.Base.{word, Outcome, accepted, sum_below}
use Rattle.types.proofs.Below.{first_same}
use Rattle.types.proofs.OutcomeLaws.{after_holds}
use Rattle.positions.specs.Key.{same_key}
use Rattle.event.specs.Event.{rate_of}
use Rattle.image.specs.Layout.{Whose, last_updated_epoch, claimable_rewards, num_events, publishers, event_y, reward_ratio, Field, head, seat, slot, share, Words, InRange, read, image}
use Rattle.image.specs.Seats.{empty_seat, seats_of, fresh_words}
use Rattle.image.specs.Changes.{Change, changed, changed_image}
use Rattle.image.proofs.LayoutLaws.{read_image}
use Rattle.image.proofs.ChangeLaws.{Keeps, changed_keeps, changed_claimable}
use Rattle.advance_plan.specs.declared.Given.{Given}
use Rattle.advance_plan.specs.Advance.{Advanced, advanced_words}
use Rattle.advance_plan.proofs.EventsLaws.{StandsIn, grown_fresh, grown_same}
use Rattle.event_walk.specs.Walk.{walk_length, walk_slot}
use Rattle.integrity_pool.specs.declared.payment.Claim.{Claim}
use Rattle.integrity_pool.specs.Calls.{advance_call, advance_image}
use Rattle.integrity_pool.specs.Payment.{Payment, paid_words, payment_call, payment_image}
use Rattle.integrity_pool.proofs.AcceptedLaws.{advance_keeps}
use Rattle.integrity_pool.proofs.PaymentTells.{payment_writes, payment_falls}
use Rattle.history.specs.Calls.{History, no_history}
use Rattle.history.specs.Demand.{Backed}
use Rattle.history.proofs.Invariant.{rate_at, Inv}

-- ---- words that agree where the invariant looks

module _ (P E : ℕ) (w v : Words) (k : Keeps P E w v) where
  seat_same : (s : ℕ) → s < P → empty_seat v s ≡ empty_seat w s
  unfolding empty_seat same_key
  seat_same s l = rw (k.keys s 0 l (omega arith), k.keys s 1 l (omega arith), k.keys s 2 l (omega arith), k.keys s 3 l (omega arith))

  pub seats_same : seats_of P v ≡ seats_of P w
  unfolding seats_of
  seats_same = first_same P (empty_seat v) (empty_seat w) seat_same

  ring_same : (t : ℕ) (f : Field) → InRange P E f → StandsIn t f → v f ≡ w f
  ring_same t (head h) r i = absurd i
  ring_same t (seat s x) r i = absurd i
  ring_same t (slot u x) r i = k.slots u x r
  ring_same t (share u s x) r i = k.shares u s x r

  walk_same : walk_length E v ≡ walk_length E w
  unfolding walk_length
  walk_same = ap (λ (n : ℕ). min n E) k.count

  rate_same : (j s : ℕ) (d : Whose) → j < walk_length E w → s < P → rate_at E v j s d ≡ rate_at E w j s d
  unfolding walk_length walk_slot
  rate_same j s d l b =
      let t : ℕ = (w (head num_events) - 1 - j) % E in
      let low : t < E = mod-lt (w (head num_events) - 1 - j) (omega (arith, min-le_right (w (head num_events)) E)) in
      rw k.count (ap₂ rate_of (k.slots t event_y (low, tt)) (k.shares t s (reward_ratio d) (low, b)))

pub inv_keeps : (P E first : ℕ) (w v : Words) (h : History) → Keeps P E w v → v (head claimable_rewards) ≡ w (head claimable_rewards)
    → Inv P E first w h → Inv P E first v h
inv_keeps P E first w v h k c i = record {
  grown = grown_same P E first w i.grown v k.count k.last (ring_same P E w v k);
  now = k.last ∙ i.now;
  books = rw c i.books;
  rate = i.rate;
  kept = λ j s d l b. let q = rw (walk_same P E w v k) at l in rate_same P E w v k j s d q b ∙ i.kept j s d q b ∙ rw k.last refl;
  void = λ e s d a l b o. i.void e s d a (rw k.last at l) b o;
  vacant = λ t s d l b o. k.shares t s (reward_ratio d) (l, b) ∙ i.vacant t s d l b (rw (seats_same P E w v k) at o);
  spent = rw k.count i.spent;
  enough = rw k.count i.enough;
}

-- ---- what is stored

module _ (P E : ℕ) (u : Words) where
  stored_keeps : Keeps P E u (read P E (image P E u))
  stored_keeps = record {
    last = read_image P E u (head last_updated_epoch) tt;
    count = read_image P E u (head num_events) tt;
    keys = λ s c p r. read_image P E u (seat s (publishers c)) (p, r);
    slots = λ t x r. read_image P E u (slot t x) r;
    shares = λ t s x r. read_image P E u (share t s x) r;
  }

  pub inv_stored : (first : ℕ) (h : History) → Inv P E first u h → Inv P E first (read P E (image P E u)) h
  inv_stored first h i = inv_keeps P E first u (read P E (image P E u)) h stored_keeps (read_image P E u (head claimable_rewards) tt) i

  pub backed_stored : (custody : ℕ) → u (head claimable_rewards) ≤ custody → custody < word → Backed (read P E (image P E u)) custody
  backed_stored custody l b = record { claimable = rw (read_image P E u (head claimable_rewards) tt) l; word = b }

-- ---- the fresh pool

pub inv_start : (P E given : ℕ) → Inv P E (given - 1) (fresh_words given) (no_history (given - 1))
unfolding walk_length sum_below
inv_start P E given = record {
  grown = grown_fresh P E given;
  now = refl;
  books = refl;
  rate = λ e s d. 0;
  kept = λ j s d l b. absurd (omega (arith, min-le_left 0 E));
  void = λ e s d a l b o. refl;
  vacant = λ t s d l b o. refl;
  spent = omega arith;
  enough = omega arith;
}

-- ---- item 9's changes

module _ (P E : ℕ) (img : List ℕ) where
  pub inv_change : (first : ℕ) (h : History) (o : Outcome Change) → Inv P E first (read P E img) h → Inv P E first (read P E (changed_image P E img o)) h
  unfolding changed_image
  inv_change first h o i =
      let w : Words = read P E img in
      after_holds (λ l. Inv P E first (read P E l) h) o (λ c. image P E (changed w c)) img
      (λ c e. inv_stored P E (changed w c) first h (inv_keeps P E first w (changed w c) h (changed_keeps P E w c) (changed_claimable w c) i)) i

  pub backed_change : (custody : ℕ) (o : Outcome Change) → Backed (read P E img) custody → Backed (read P E (changed_image P E img o)) custody
  unfolding changed_image
  backed_change custody o b =
      let w : Words = read P E img in
      after_holds (λ l. Backed (read P E l) custody) o (λ c. image P E (changed w c)) img
      (λ c e. backed_stored P E (changed w c) custody (rw (changed_claimable w c) b.claimable) b.word) b

  -- ---- what an accepted advance and an accepted payment store

  pub inv_advance_stored : (first : ℕ) (m : List ℕ) (g : Given) (a : Advanced) → advance_call P E img m g ≡ accepted a → (h : History)
      → Inv P E first (advanced_words P E (read P E img) m g.current_epoch a.y a.set_aside) h → Inv P E first (read P E (advance_image P E img m g)) h
  unfolding advance_image
  inv_advance_stored first m g a e h i = rw e (inv_stored P E _ first h i)

  pub inv_payment_stored : (first : ℕ) (words : List ℕ) (c : Claim) (a : Payment) → payment_call P E img words c ≡ accepted a → (h : History)
      → Inv P E first (paid_words (read P E img) (a.delegator + a.publisher)) h → Inv P E first (read P E (payment_image P E img words c)) h
  unfolding payment_image
  inv_payment_stored first words c a e h i = rw e (inv_stored P E _ first h i)

  -- ---- claimable after an accepted advance: at most the larger of the balance that it is told and the claimable that it begins with

  pub advance_bounded : (m : List ℕ) (g : Given) (a : Advanced) → advance_call P E img m g ≡ accepted a
      → read P E (advance_image P E img m g) (head claimable_rewards) ≤ max g.pool_reward_custody_balance (read P E img (head claimable_rewards))
  unfolding advance_image
  advance_bounded m g a e =
      rw (e, read_image P E (advanced_words P E (read P E img) m g.current_epoch a.y a.set_aside) (head claimable_rewards) tt) (advance_keeps P E img m g a e).1

  -- ---- claimable within custody: an advance is told custody, a payment takes from claimable at least what it takes from custody

  pub backed_advance : (m : List ℕ) (g : Given) (a : Advanced) → advance_call P E img m g ≡ accepted a → Backed (read P E img) g.pool_reward_custody_balance
      → Backed (read P E (advance_image P E img m g)) g.pool_reward_custody_balance
  backed_advance m g a e b = record { claimable = omega (arith, advance_bounded m g a e, b.claimable); word = b.word }

  pub backed_payment : (custody : ℕ) (words : List ℕ) (c : Claim) (a : Payment) → payment_call P E img words c ≡ accepted a → Backed (read P E img) custody
      → Backed (read P E (payment_image P E img words c)) (custody - a.custody_fall)
  backed_payment custody words c a e b =
      let l = payment_falls P E img words c a e in
      let f = (payment_writes P E img words c a e).falls in
      record { claimable = omega (arith, b.claimable); word = omega (arith, b.word) }

  -- so custody has what a payment takes
  pub fall_held : (custody : ℕ) (words : List ℕ) (c : Claim) (a : Payment) → payment_call P E img words c ≡ accepted a → Backed (read P E img) custody
      → a.custody_fall ≤ custody
  fall_held custody words c a e b = omega (arith, payment_falls P E img words c a e, (payment_writes P E img words c a e).falls, b.claimable)
