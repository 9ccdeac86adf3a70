-- An accepted advance keeps what holds of the words and the history: the ring gets the rates of the epochs that it passes, and what it sets aside
-- is at least what these epochs' totals earn. Assumes nothing.
use mathlib.Core.Path.{◌≡◌, refl, sym, ap, ◌∙◌}
use mathlib.Core.Logic.{⊎_elim}
use mathlib.Core.Bool.{Bool, true, false, not, ◌&&◌, true≢false}
use mathlib.Core.List.{List}
use Prim.Native.Nat.{ℕ, zero, suc, ◌+◌, ◌-◌, ◌*◌, ◌%◌, ◌≤◌, ◌<◌}
use native.Mathlib.Nat.{mod-lt, le-div_iff_mul-le}
use native.Mathlib.Omega.{arith}
use lib.Dec.{eqb, ltb}
use borrow.Author.Tests.{lt-ltb, le-ltb, ne_eqb}
use Rattle.std.specs.Prelude.{if◌then◌else◌}
use Rattle.types.specs.Base.{M, accepted, sum_below, count_below}
use Rattle.types.proofs.Below.{and_right, sum_same, sum_grows, sum_skips, sum_after, sum_scaled, first_le, first_before_law, first_past}
use Rattle.publisher_caps.specs.Message.{rows_of}
use Rattle.event.specs.Adjust.{rewards_of}
use Rattle.event.specs.Event.{rate_of, total_of}
use Rattle.event.proofs.AdjustLaws.{adjust_keeps}
use Rattle.event.proofs.EventLaws.{total_no_rate, rate_no_ratio}
use Rattle.image.specs.Layout.{Whose, self, other, last_updated_epoch, num_events, publishers, event_y, reward_ratio, Field, head, seat, slot, share, Words, read}
use Rattle.image.specs.Seats.{empty_seat, seats_of}
use Rattle.types.proofs.Below.{lt_or_le}
use Rattle.image.proofs.SeatLaws.{seats_le}
use Rattle.image.proofs.AgeLaws.{age, age_of}
use Rattle.advance_plan.specs.declared.Given.{Given}
use Rattle.advance_plan.specs.Advance.{Advanced, total_in, seat_cap, eligible_in, ratio_in, eligible_sum, matched_row, key_after, events_after, answer_with, advanced_words}
use Rattle.advance_plan.proofs.EventsLaws.{StandsIn, grown_advanced, events_found, events_newest, events_vacant}
use Rattle.event_walk.specs.Walk.{walk_length, walk_slot}
use Rattle.event_walk.proofs.WalkLaws.{length_le, length_count}
use Rattle.integrity_pool.specs.Calls.{advance_call}
use Rattle.integrity_pool.proofs.AcceptedLaws.{advance_accepted}
use Rattle.history.specs.Calls.{History, advance_history}
use Rattle.history.proofs.Invariant.{Figures, earned_in, earned, rate_at, Inv}
use Rattle.history.proofs.EarnedLaws.{seat_part}

-- ---- seats

-- a seat with a key keeps it
key_stays : (w : Words) (m : List ℕ) (taken : ℕ → Bool) (seats j s c : ℕ) → s < seats → key_after w m taken seats j s c ≡ w (seat s (publishers c))
unfolding key_after
key_stays w m taken seats zero s c l = refl
key_stays w m taken seats (suc j) s c l =
    let apart : eqb s (seats + (j - count_below j taken)) ≡ false = ne_eqb s (seats + (j - count_below j taken)) (λ q. omega arith) in
    rw (and_right (not (taken j)) (eqb s (seats + (j - count_below j taken))) apart) (key_stays w m taken seats j s c l)

module _ (P : ℕ) (w : Words) where
  -- a seat in front of the first empty one has a key
  seat_taken : (s : ℕ) → s < seats_of P w → empty_seat w s ≡ false
  unfolding seats_of
  seat_taken s l = first_before_law P s (empty_seat w) l

  seat_stays : (E : ℕ) (m : List ℕ) (now y set_aside s : ℕ) → s < seats_of P w → empty_seat (advanced_words P E w m now y set_aside) s ≡ false
  unfolding empty_seat
  seat_stays E m now y set_aside s l =
      let k : (c : ℕ) → key_after w m (matched_row w m (seats_of P w)) (seats_of P w) (rows_of m) s c ≡ w (seat s (publishers c)) = λ c. key_stays w m _ _ _ s c l in
      rw (k 0, k 1, k 2, k 3) (seat_taken s l)

  seats_grow : (E : ℕ) (m : List ℕ) (now y set_aside : ℕ) → seats_of P w ≤ seats_of P (advanced_words P E w m now y set_aside)
  unfolding seats_of
  seats_grow E m now y set_aside = first_past P _ (empty_seat _) (first_le P (empty_seat w)) (record { none = λ s l. seat_stays E m now y set_aside s l })

-- ---- the rates

module _ (P E first : ℕ) (w : Words) (h : History) (v : Inv P E first w h) (m : List ℕ) (now y set_aside : ℕ) where
  -- document 01's last and n, the epochs that pass, the occupied seats and their caps
  abbrev last : ℕ
  last = w (head last_updated_epoch)

  abbrev count : ℕ
  count = w (head num_events)

  abbrev passed : ℕ
  passed = now - w (head last_updated_epoch)

  abbrev seats : ℕ
  seats = seats_of P w

  abbrev cap : ℕ → ℕ
  cap = seat_cap w m

  -- the words and the history after the advance
  abbrev words' : Words
  words' = advanced_words P E w m now y set_aside

  abbrev history' : History
  history' = advance_history P w h now set_aside

  -- of the k-th passed epoch, then of every epoch
  unfoldable new_rate : (k s : ℕ) → Whose → ℕ
  new_rate k s d = if ltb s seats then rate_of y (ratio_in w cap k s d) else 0

  unfoldable rates : Figures
  rates e s d = if ltb e last then v.rate e s d else new_rate (e - last) s d

  new_taken : (k s : ℕ) (d : Whose) → s < seats → new_rate k s d ≡ rate_of y (ratio_in w cap k s d)
  unfolding new_rate
  new_taken k s d l = rw (lt-ltb s seats l)

  new_vacant : (k s : ℕ) (d : Whose) → seats ≤ s → new_rate k s d ≡ 0
  unfolding new_rate
  new_vacant k s d l = rw (le-ltb s seats l)

  rate_old : (e s : ℕ) (d : Whose) → e < last → rates e s d ≡ v.rate e s d
  unfolding rates
  rate_old e s d l = rw (lt-ltb e last l)

  rate_new : (e k s : ℕ) (d : Whose) → e ≡ last + k → rates e s d ≡ new_rate k s d
  unfolding rates
  rate_new e k s d q = let r : e - last ≡ k = omega arith in rw (le-ltb e last (omega arith), r)

  -- ---- the ring

  module _ (pos : 1 ≤ E) where
    -- the slot that walks come to after k others
    abbrev at : ℕ → ℕ
    at k = walk_slot E words' k

    at_lt : (k : ℕ) → at k < E
    unfolding walk_slot
    at_lt k = mod-lt (count + passed - 1 - k) pos

    -- it has the event of age k
    at_age : (k : ℕ) → k < walk_length E words' → age E (count + passed) (at k) ≡ k
    unfolding walk_slot
    at_age k l =
        let a = length_le E words' in
        let b = length_count E words' in
        age_of E (count + passed) k pos (omega arith) (omega arith)

    ratio_vacant : (k s : ℕ) (d : Whose) → s < P → seats ≤ s → words' (share (at k) s (reward_ratio d)) ≡ 0
    ratio_vacant k s d b l = events_vacant E w cap seats y passed (at k) s (reward_ratio d) l ∙ v.vacant (at k) s d (at_lt k) b l

    -- an event of this advance
    module _ (k : ℕ) (l : k < walk_length E words') (b : k < passed) where
      young : age E (count + passed) (at k) < passed
      young = rw (at_age k l) b

      y_new : words' (slot (at k) event_y) ≡ y
      y_new = events_newest E w cap seats y pos (at k) (at_lt k) (slot (at k) event_y) refl passed young

      ratio_new : (s : ℕ) (d : Whose) → s < seats → words' (share (at k) s (reward_ratio d)) ≡ ratio_in w cap (passed - 1 - k) s d
      ratio_new s d c =
          events_newest E w cap seats y pos (at k) (at_lt k) (share (at k) s (reward_ratio d)) refl passed young ∙ rw (lt-ltb s seats c, at_age k l) refl

      kept_new : (s : ℕ) (d : Whose) → s < P → rate_at E words' k s d ≡ new_rate (passed - 1 - k) s d
      kept_new s d c = ⊎_elim
          (λ t. rw (y_new, ratio_new s d t) (sym (new_taken (passed - 1 - k) s d t)))
          (λ t. rate_no_ratio _ _ (ratio_vacant k s d c t) ∙ sym (new_vacant (passed - 1 - k) s d t))
          (lt_or_le s seats)

    -- an event found
    module _ (k : ℕ) (l : k < walk_length E words') (b : passed ≤ k) where
      found : (f : Field) → StandsIn (at k) f → events_after E w cap seats y passed f ≡ w f
      found f i = events_found E w cap seats y pos (at k) (at_lt k) f i passed (rw (at_age k l) b)

      at_before : at k ≡ walk_slot E w (k - passed)
      unfolding walk_slot
      at_before = ap (λ (i : ℕ). i % E) (omega arith)

      before_lt : k - passed < walk_length E w
      unfolding walk_length
      before_lt = omega arith

      rate_found : (s : ℕ) (d : Whose) → rate_at E words' k s d ≡ rate_at E w (k - passed) s d
      rate_found s d = rw (found (slot (at k) event_y) refl, found (share (at k) s (reward_ratio d)) refl, at_before)

    kept_after : last < now → (k s : ℕ) (d : Whose) → k < walk_length E words' → s < P → rate_at E words' k s d ≡ rates (now - 1 - k) s d
    kept_after later k s d l c = ⊎_elim
        (λ b. kept_new k l b s d c ∙ sym (rate_new (now - 1 - k) (passed - 1 - k) s d (omega arith)))
        (λ b. rate_found k l b s d ∙ v.kept (k - passed) s d (before_lt k l b) c ∙ ap (λ (e : ℕ). v.rate e s d) (omega arith)
        ∙ sym (rate_old (now - 1 - k) s d (omega (arith, before_lt k l b, length_count E w, v.grown.span))))
        (lt_or_le k passed)

  -- ---- seats not occupied

  vacant_seat : (s : ℕ) → s < P → (ltb s P && not (empty_seat w s)) ≡ false → seats ≤ s
  vacant_seat s l e = ⊎_elim (λ b. let z : true ≡ false = rw (lt-ltb s P l, seat_taken P w s b) at e in absurd (true≢false z)) (λ b. b) (lt_or_le s seats)

  void_after : (e s : ℕ) (d : Whose) → first ≤ e → e < now → s < P → history'.occupied e s ≡ false → rates e s d ≡ 0
  unfolding advance_history
  void_after e s d a b c q = ⊎_elim
      (λ l. rate_old e s d l ∙ v.void e s d a l c (rw (lt-ltb e last l) at q))
      (λ l. rate_new e (e - last) s d (omega arith) ∙ new_vacant (e - last) s d (vacant_seat s c (rw (le-ltb e last l) at q)))
      (lt_or_le e last)

  vacant_after : (t s : ℕ) (d : Whose) → t < E → s < P → seats_of P words' ≤ s → words' (share t s (reward_ratio d)) ≡ 0
  vacant_after t s d a b c =
      let l : seats ≤ s = omega (arith, seats_grow P w E m now y set_aside) in
      events_vacant E w cap seats y passed t s (reward_ratio d) l ∙ v.vacant t s d a b l

  -- ---- sums

  written_old : (e s : ℕ) (d : Whose) → e < last → history'.written e s d ≡ h.written e s d
  unfolding advance_history
  written_old e s d l = rw (lt-ltb e last l)

  written_new : (e k s : ℕ) (d : Whose) → e ≡ last + k → history'.written e s d ≡ total_in w k s d
  unfolding advance_history
  written_new e k s d q = let r : e - last ≡ k = omega arith in rw (le-ltb e last (omega arith), r)

  -- what seat s earns in epoch e
  abbrev earned_at : (rate amount : Figures) → (e s : ℕ) → ℕ
  earned_at rate amount e s = total_of (amount e s self) (rate e s self) + total_of (amount e s other) (rate e s other)

  -- the epochs passed before earn what they earned
  earned_old : (f g : Figures) → ((e s : ℕ) (d : Whose) → e < last → f e s d ≡ g e s d) → earned P first count rates f ≡ earned P first count v.rate g
  earned_old f g q = sum_same _ _ count (λ i l. sum_same _ _ P (λ s c. same (first + i) s (omega (arith, v.grown.span))))
    where
      same : (e s : ℕ) → e < last → earned_at rates f e s ≡ earned_at v.rate g e s
      same e s l = rw (q e s self l, q e s other l, rate_old e s self l, rate_old e s other l)

  spent_after : h.paid ≤ earned P first (count + passed) rates h.drawn
  spent_after =
      let more = sum_grows (λ i. earned_in P rates h.drawn (first + i)) count (count + passed) (omega arith) in
      omega (arith, v.spent, earned_old h.drawn h.drawn (λ e s d l. refl))

  -- the k-th passed epoch: nothing on vacant seats, elsewhere at most y' times what is eligible
  module _ (e k : ℕ) (q : e ≡ last + k) where
    abbrev earned_here : ℕ → ℕ
    earned_here = earned_at rates history'.written e

    seat_vacant : (s : ℕ) → seats ≤ s → earned_here s ≡ 0
    seat_vacant s l =
        let z : (d : Whose) → rates e s d ≡ 0 = λ d. rate_new e k s d q ∙ new_vacant k s d l in
        rw (total_no_rate (history'.written e s self) (rates e s self) (z self), total_no_rate (history'.written e s other) (rates e s other) (z other)) refl

    seat_occupied : (s : ℕ) → s < seats → M * earned_here s ≤ y * eligible_in w cap k s
    unfolding eligible_in ratio_in
    seat_occupied s l =
        let z : (d : Whose) → rates e s d ≡ rate_of y (ratio_in w cap k s d) = λ d. rate_new e k s d q ∙ new_taken k s d l in
        rw (written_new e k s self q, written_new e k s other q, z self, z other) (seat_part y (cap s) (total_in w k s self) (total_in w k s other))

    epoch_new : M * earned_in P rates history'.written e ≤ y * sum_below seats (eligible_in w cap k)
    epoch_new = rw (sum_skips earned_here seats P (seats_le P w) (λ s a b. seat_vacant s a)) (sum_scaled M y earned_here (eligible_in w cap k) seats seat_occupied)

  earned_new : sum_below passed (λ k. earned_in P rates history'.written (first + (count + k))) ≤ rewards_of (eligible_sum w cap seats passed) y
  unfolding rewards_of eligible_sum
  earned_new =
      let s = sum_scaled M y (λ k. earned_in P rates history'.written (first + (count + k))) (λ k. sum_below seats (eligible_in w cap k)) passed
      (λ k l. epoch_new (first + (count + k)) k (omega (arith, v.grown.span))) in
      (le-div_iff_mul-le {k = M} (omega arith)).1 (omega arith)

  enough_after : set_aside ≡ rewards_of (eligible_sum w cap seats passed) y → earned P first (count + passed) rates history'.written ≤ h.set_aside + set_aside
  enough_after q =
      let parts = sum_after (λ i. earned_in P rates history'.written (first + i)) count passed in
      omega (arith, v.enough, earned_old history'.written h.written written_old, earned_new)

  -- ---- the invariant

  inv_advanced : 1 ≤ E → last < now → set_aside ≡ rewards_of (eligible_sum w cap seats passed) y → Inv P E first words' history'
  unfolding advance_history
  inv_advanced pos later q = record {
    grown = grown_advanced P E first w v.grown m now y set_aside pos later;
    now = refl;
    books = omega (arith, v.books);
    rate = rates;
    kept = kept_after pos later;
    void = void_after;
    vacant = vacant_after;
    spent = spent_after;
    enough = enough_after q;
  }

pub inv_advance : (P E first : ℕ) (img : List ℕ) (h : History) (m : List ℕ) (g : Given) (a : Advanced) → 1 ≤ E → Inv P E first (read P E img) h
    → advance_call P E img m g ≡ accepted a
    → Inv P E first (advanced_words P E (read P E img) m g.current_epoch a.y a.set_aside) (advance_history P (read P E img) h g.current_epoch a.set_aside)
unfolding answer_with
inv_advance P E first img h m g a pos v e =
    let t = advance_accepted P E img m g a e in
    let k = adjust_keeps _ _ _ _ t.adjustment t.adjusts.adjusted in
    inv_advanced P E first (read P E img) h v m g.current_epoch a.y a.set_aside pos t.adjusts.later (rw t.answer k.aside)
