-- A payment: what it pays is at most what it draws earns, so the invariant stays, and a payment within the totals is covered. Assumes nothing.
use mathlib.Core.Path.{◌≡◌, refl, sym, ap, ◌∙◌}
use mathlib.Core.Logic.{◌≢◌}
use mathlib.Core.Bool.{Bool, true, false, not, ◌&&◌}
use mathlib.Core.List.{List}
use Prim.Native.Nat.{ℕ, ◌+◌, ◌-◌, ◌≤◌, ◌<◌}
use native.Mathlib.Omega.{arith}
use lib.Dec.{ltb}
use borrow.Author.Tests.{le-leb, lt-ltb, eq-eqb, ltb-true}
use Rattle.std.specs.Prelude.{if◌then◌else◌}
use Rattle.types.specs.Base.{refused, accepted, sum_below}
use Rattle.types.specs.Refusals.{payment_above_claimable}
use Rattle.types.proofs.Below.{sum_le}
use Rattle.types.proofs.OutcomeLaws.{test_passed}
use Rattle.positions.specs.Positions.{positions_hold}
use Rattle.event.specs.Event.{total_of}
use Rattle.event.proofs.EventLaws.{total_no_rate, total_le}
use Rattle.image.specs.Layout.{Whose, self, other, last_updated_epoch, num_events, Field, head, seat, slot, share, Words, read}
use Rattle.image.specs.Seats.{checked_image, empty_seat, seats_of, publisher_index_of, same_side}
use Rattle.image.specs.Changes.{self_side, whose}
use Rattle.image.proofs.SeatLaws.{index_lt}
use Rattle.advance_plan.proofs.EventsLaws.{StandsIn, grown_same}
use Rattle.event_walk.specs.Walk.{walk_length, walk_slot, walk_epoch, walk_meets, drawn_at, slot_amount}
use Rattle.event_walk.proofs.RingWalk.{meets_young}
use Rattle.event_walk.proofs.WalkLaws.{length_le, length_count}
use Rattle.pool.specs.Reward.{Earned, calculate_reward}
use Rattle.pool.proofs.PaidLaws.{paid_adds}
use Rattle.integrity_pool.specs.declared.payment.Claim.{Claim}
use Rattle.integrity_pool.specs.Payment.{Payment, paid_words, payment_call}
use Rattle.integrity_pool.proofs.PaymentTells.{payment_tells, payment_covered}
use Rattle.integrity_pool.proofs.PaymentAbove.{call_16_only}
use Rattle.history.specs.Calls.{History, is_seat, newest_passed, matching_in, draws, payment_history}
use Rattle.history.proofs.RingLaws.{grown_newest}
use Rattle.history.proofs.Invariant.{Figures, earned, rate_at, Inv}
use Rattle.history.proofs.EarnedLaws.{earned_split, earned_le, earned_newest}

-- ---- what is paid is at most what is drawn earns

whose_is : (t : Bool) → (if t then self else other) ≡ whose t
whose_is true = refl
whose_is false = refl

and_holds : (a b : Bool) → a ≡ true → b ≡ true → (a && b) ≡ true
and_holds a b p q = rw (p, q)

if_holds : (t : Bool) (x y : ℕ) → t ≡ true → (if t then x else y) ≡ x
if_holds t x y p = rw p

same_side_law : (d : Whose) → same_side d d ≡ true
same_side_law self = refl
same_side_law other = refl

module _ (P E first : ℕ) (w : Words) (h : History) (v : Inv P E first w h) (words : List ℕ) (c : Claim) (s : ℕ)
    (found : publisher_index_of P w c.publisher ≡ accepted s) where
  abbrev side : Whose
  side = whose (self_side w s c.stake_account_positions)

  abbrev from : ℕ
  from = c.delegation_record.last_epoch.0

  abbrev amount_at : (k : ℕ) → ℕ
  amount_at k = slot_amount E w words c.publisher from c.unlocking_duration k

  abbrev draws_of : Figures
  draws_of = draws P E first h.now w words c

  -- the event that walks come to after k others is that of epoch last - 1 - k
  epoch_is : (k : ℕ) → k < walk_length E w → walk_epoch E w k ≡ w (head last_updated_epoch) - 1 - k
  unfolding walk_epoch walk_slot walk_length
  epoch_is k l = grown_newest P E first w (omega (arith, length_le E w)) v.grown k l

  -- an epoch not older than the record's, of the newest E
  draws_here : (e : ℕ) → first ≤ e → e < h.now → h.now ≤ e + E → from ≤ e → draws_of e s side ≡ matching_in words c e
  unfolding draws newest_passed
  draws_here e a b d f =
      let newest = and_holds _ _ (le-leb first e a) (and_holds _ _ (lt-ltb e h.now b) (le-leb h.now (e + E) d)) in
      let here : is_seat (publisher_index_of P w c.publisher) s ≡ true = rw found (eq-eqb s s refl) in
      if_holds _ _ _ (and_holds _ _ (and_holds _ _ newest (le-leb from e f)) (and_holds _ _ here (same_side_law side)))

  -- what gathers in the slot is drawn from the epoch
  gathers : (k : ℕ) → k < walk_length E w → amount_at k ≤ draws_of (w (head last_updated_epoch) - 1 - k) s side
  unfolding slot_amount drawn_at matching_in
  gathers k l = go (ltb k (walk_meets E w from)) refl
    where
      go : (t : Bool) → ltb k (walk_meets E w from) ≡ t
          → (if t then matching_in words c (walk_epoch E w k) else 0) ≤ draws_of (w (head last_updated_epoch) - 1 - k) s side
      go true m =
          let a = length_le E w in
          let b = length_count E w in
          let p = v.grown.span in
          let n = v.now in
          let y = meets_young E w from k (ltb-true _ _ m) in
          let q = epoch_is k l in
          omega (arith, draws_here (w (head last_updated_epoch) - 1 - k) (omega arith) (omega arith) (omega arith) (omega arith), ap (matching_in words c) q)
      go false m = omega arith

  module _ (r : Earned)
      (earns : calculate_reward E w s words c.publisher from c.unlocking_duration (self_side w s c.stake_account_positions) ≡ accepted r) where
    paid_terms : r.delegator + r.publisher ≡ sum_below (walk_length E w) (λ k. total_of (amount_at k) (rate_at E w k s side))
    paid_terms =
        paid_adds E w s words c.publisher from c.unlocking_duration (self_side w s c.stake_account_positions) r earns
        ∙ ap (λ (d : Whose). sum_below (walk_length E w) (λ k. total_of (amount_at k) (rate_at E w k s d))) (whose_is (self_side w s c.stake_account_positions))

    -- from the newest epoch back
    paid_le : r.delegator + r.publisher ≤ earned P first (w (head num_events)) v.rate draws_of
    paid_le =
        let n = w (head num_events) in
        let lt = index_lt P w c.publisher s found in
        omega (arith, paid_terms, sum_le _ _ (walk_length E w) each, earned_newest P first n v.rate draws_of s side lt (walk_length E w) (length_count E w))
      where
        each : (k : ℕ) → k < walk_length E w → total_of (amount_at k) (rate_at E w k s side)
            ≤ total_of (draws_of (first + (w (head num_events) - 1 - k)) s side) (v.rate (first + (w (head num_events) - 1 - k)) s side)
        each k l =
            let b = length_count E w in
            let q : first + (w (head num_events) - 1 - k) ≡ w (head last_updated_epoch) - 1 - k = omega (arith, v.grown.span) in
            rw (q, v.kept k s side l (index_lt P w c.publisher s found)) (total_le _ _ _ (gathers k l))

-- with what was drawn before
drawn_le : (P E first : ℕ) (w : Words) (h : History) (v : Inv P E first w h) (words : List ℕ) (c : Claim) (paid : ℕ)
    → paid ≤ earned P first (w (head num_events)) v.rate (draws P E first h.now w words c)
    → h.paid + paid ≤ earned P first (w (head num_events)) v.rate (λ e s d. h.drawn e s d + draws P E first h.now w words c e s d)
drawn_le P E first w h v words c paid l =
    omega (arith, v.spent, earned_split P first (w (head num_events)) v.rate h.drawn (draws P E first h.now w words c))

-- ---- an accepted payment keeps the invariant

paid_ring : (w : Words) (paid t : ℕ) (f : Field) → StandsIn t f → paid_words w paid f ≡ w f
paid_ring w paid t (head x) i = absurd i
paid_ring w paid t (seat s x) i = absurd i
paid_ring w paid t (slot u x) i = refl
paid_ring w paid t (share u s x) i = refl

pub inv_payment : (P E first : ℕ) (img : List ℕ) (h : History) (words : List ℕ) (c : Claim) (a : Payment) → Inv P E first (read P E img) h
    → payment_call P E img words c ≡ accepted a
    → Inv P E first (paid_words (read P E img) (a.delegator + a.publisher)) (payment_history P E first (read P E img) h words c (a.delegator + a.publisher))
unfolding payment_call payment_history walk_length walk_slot seats_of empty_seat
inv_payment P E first img h words c a v e =
    let w = read P E img in
    let paid = a.delegator + a.publisher in
    let t0 = test_passed (not (checked_image P E img)) _ _ a e in
    let t1 = test_passed (not (positions_hold words)) _ _ a t0.1 in
    let t = payment_tells P E w words c a t1.1 in
    let cover = payment_covered P E w words c a t1.1 in
    let l : paid ≤ earned P first (w (head num_events)) v.rate (draws P E first h.now w words c) =
    rw (sym t.answer) (paid_le P E first w h v words c t.seat t.found t.earned t.earns) in
    record {
      grown = grown_same P E first w v.grown (paid_words w paid) refl refl (λ t f r i. paid_ring w paid t f i);
      now = v.now;
      books = omega (arith, v.books);
      rate = v.rate;
      kept = v.kept;
      void = v.void;
      vacant = v.vacant;
      spent = drawn_le P E first w h v words c paid l;
      enough = v.enough;
    }

-- ---- a payment within the totals does not meet refusal 16

-- on a seat not occupied nothing earns, on the others at most the totals do
within_le : (P E first : ℕ) (w : Words) (h : History) (v : Inv P E first w h) (f : Figures)
    → ((e s : ℕ) (d : Whose) → first ≤ e → e < h.now → h.occupied e s ≡ true → f e s d ≤ h.written e s d)
    → earned P first (w (head num_events)) v.rate f ≤ earned P first (w (head num_events)) v.rate h.written
within_le P E first w h v f k =
    let p = v.grown.span in
    let n = v.now in
    earned_le P first (w (head num_events)) v.rate f h.written (λ e s d a b lt. go e s d a (omega arith) lt (h.occupied e s) refl)
  where
    go : (e s : ℕ) (d : Whose) → first ≤ e → e < w (head last_updated_epoch) → s < P → (t : Bool) → h.occupied e s ≡ t
        → total_of (f e s d) (v.rate e s d) ≤ total_of (h.written e s d) (v.rate e s d)
    go e s d a b lt true o = total_le _ _ _ (k e s d a (omega (arith, v.now)) o)
    go e s d a b lt false o = omega (arith, total_no_rate (f e s d) (v.rate e s d) (v.void e s d a b lt o))

pub within_covers : (P E first : ℕ) (img : List ℕ) (h : History) (words : List ℕ) (c : Claim) → Inv P E first (read P E img) h
    → ((e s : ℕ) (d : Whose) → first ≤ e → e < h.now → h.occupied e s ≡ true
    → h.drawn e s d + draws P E first h.now (read P E img) words c e s d ≤ h.written e s d)
    → payment_call P E img words c ≢ refused payment_above_claimable
within_covers P E first img h words c v k e =
    let w = read P E img in
    let x = call_16_only P E img words c e in
    let l = paid_le P E first w h v words c x.seat x.found x.earned x.earns in
    omega (arith, x.above, drawn_le P E first w h v words c _ l, within_le P E first w h v _ k, v.enough, v.books)
