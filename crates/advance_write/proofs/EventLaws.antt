-- The words of one event: what its writer leaves, in the event and in the pool, which has it back in its slot. Assumes nothing.
use Rattle.std.proofs.Common.{◌≡◌, ℕ, ◌+◌, ◌-◌, ◌*◌, ◌%◌, ◌<◌, ◌≤◌, List, ◌++◌, length, get_or, set, take, drop, refl, sym, ap, ◌∙◌, ⊎_elim}
use Rattle.std.proofs.Common.{arith, length-set, length-append, length-drop, get_or-set_same, get_or-set_other, eq-eqb, ne_eqb, lt-ltb, le-ltb}
use native.Mathlib.Nat.{add-sub_cancel_left}
use native.Mathlib.Decide.{ℕ_discrete}
use lib.Seq.{get_or-take, length-take-le}
use borrow.Rule.Slice.PartMut.{put_mid}
use Rattle.image.specs.Layout.{self, other, Slot, event_epoch, event_y, extra_space, Share, reward_ratio, event_fee}
use Rattle.image.specs.Layout.{Field, head, seat, slot, share, event_size, event_at, size, InSlot, InRange, read, image}
use Rattle.image.specs.Seats.{Sized}
use Rattle.types.proofs.Below.{lt_or_le}
use Rattle.image.proofs.ListLaws.{put_before, put_in, put_after}
use Rattle.image.proofs.PlaceLaws.{slot_fits_law}
use Rattle.image.proofs.PartLaws.{slot_at, share_at, part_slot, part_share, part_else, lent_slot, lent_share}
use Rattle.image.proofs.HoldsLaws.{holds_is}
use Rattle.advance_plan.specs.Advance.{slot_word}
use Rattle.advance_write.specs.declared.events.EventHead.{EventHead}
use Rattle.advance_write.specs.declared.events.PassedEpochs.{PassedEpochs}
use Rattle.advance_write.specs.Events.{with_event_head, written_event, share_in, epoch_words}

-- ---- in the event

module _ (h : EventHead) (shares event : List ℕ) (room : 9 + length shares ≤ length event) where
  abbrev begun : List ℕ
  begun = with_event_head h event

  begun_long : length begun ≡ length event
  begun_long = simp length-set

  fits : 9 + length shares ≤ length begun
  fits = omega (arith, begun_long)

  pub written_long : length (written_event h shares event) ≡ length event
  unfolding written_event
  written_long = simp (length-append, length-drop) (omega (arith, begun_long, length-take-le 9 begun (omega (arith, fits))))

  written_front : (i : ℕ) → i < 9 → get_or (written_event h shares event) i 0 ≡ get_or begun i 0
  unfolding written_event
  written_front i l = put_before begun shares 9 (length shares) fits refl i l

  -- its epoch and y
  pub written_epoch : get_or (written_event h shares event) 0 0 ≡ h.epoch.0
  written_epoch =
      written_front 0 (omega arith) ∙ get_or-set_other (set event 0 h.epoch.0) 1 0 h.y.0 0 (λ e. omega arith)
      ∙ get_or-set_same event 0 h.epoch.0 0 (omega arith)

  pub written_y : get_or (written_event h shares event) 1 0 ≡ h.y.0
  written_y = written_front 1 (omega arith) ∙ get_or-set_same (set event 0 h.epoch.0) 1 h.y.0 0 (simp length-set (omega arith))

  begun_rest : (i : ℕ) → 2 ≤ i → get_or begun i 0 ≡ get_or event i 0
  begun_rest i l = get_or-set_other (set event 0 h.epoch.0) 1 i h.y.0 0 (λ e. omega arith) ∙ get_or-set_other event 0 i h.epoch.0 0 (λ e. omega arith)

  -- spare words
  pub written_spare : (i : ℕ) → 2 ≤ i → i < 9 → get_or (written_event h shares event) i 0 ≡ get_or event i 0
  written_spare i a b = written_front i b ∙ begun_rest i a

  -- the seats' words
  pub written_share : (i : ℕ) → i < length shares → get_or (written_event h shares event) (9 + i) 0 ≡ get_or shares i 0
  unfolding written_event
  written_share i l = put_in begun shares 9 (length shares) fits refl i l

  -- those of seats behind
  pub written_behind : (i : ℕ) → 9 + length shares ≤ i → get_or (written_event h shares event) i 0 ≡ get_or event i 0
  unfolding written_event
  written_behind i l = put_after begun shares 9 (length shares) fits refl i l ∙ begun_rest i (omega arith)

-- ---- in the pool

module _ (P E : ℕ) (img : List ℕ) (z : Sized img P E) (x : PassedEpochs) (seats k : ℕ) (l : List ℕ) (within : seats ≤ P) (long : seats * 3 ≤ length l)
    (t : ℕ) (et : t ≡ (x.num_events + k) % E) (in_ring : t < E)
  where
    abbrev found : List ℕ
    found = take (event_size P) (drop (event_at P t) img)

    abbrev event_head : EventHead
    event_head = record { epoch = record { 0 = x.last_updated_epoch.0 + k }; y = x.y }

    abbrev shares : List ℕ
    shares = take (seats * 3) l

    abbrev ys : List ℕ
    ys = written_event event_head shares found

    abbrev back : List ℕ
    back = take (event_at P t) img ++ (ys ++ drop (event_size P) (drop (event_at P t) img))

    found_long : length found ≡ event_size P
    found_long = length-take-le (event_size P) (drop (event_at P t) img) (simp length-drop (omega (arith, z.size, slot_fits_law P E t in_ring)))

    shares_long : length shares ≡ seats * 3
    shares_long = length-take-le (seats * 3) l long

    room : 9 + length shares ≤ length found
    room = omega (arith, found_long, shares_long)

    many : length ys ≡ event_size P
    many = written_long event_head shares found room ∙ found_long

    slot_new : (f : Slot) → InSlot f → get_or ys (slot_at f) 0 ≡ slot_word f (x.last_updated_epoch.0 + k) x.y.0 (read P E img (slot t f))
    slot_new event_epoch r = written_epoch event_head shares found room
    slot_new event_y r = written_y event_head shares found room
    slot_new (extra_space c) r = written_spare event_head shares found room (2 + c) (omega arith) (omega arith) ∙ lent_slot P E t in_ring img (extra_space c) r

    share_at_seat : (s i : ℕ) → s < seats → i < 3 → get_or ys (9 + (s * 3 + i)) 0 ≡ get_or l (s * 3 + i) 0
    share_at_seat s i a b =
        written_share event_head shares found room (s * 3 + i) (omega (arith, shares_long)) ∙ get_or-take (seats * 3) l (s * 3 + i) 0 (omega arith)

    share_new : (s : ℕ) (f : Share) → s < seats → get_or ys (share_at s f) 0 ≡ share_in l s f
    share_new s (reward_ratio self) a =
        ap (λ (i : ℕ). get_or ys i 0) (omega arith) ∙ share_at_seat s 0 a (omega arith) ∙ ap (λ (i : ℕ). get_or l i 0) (omega arith)
    share_new s (reward_ratio other) a = share_at_seat s 1 a (omega arith)
    share_new s event_fee a = share_at_seat s 2 a (omega arith)

    share_low : (s : ℕ) (f : Share) → 9 + s * 3 ≤ share_at s f
    share_low s (reward_ratio self) = omega arith
    share_low s (reward_ratio other) = omega arith
    share_low s event_fee = omega arith

    share_old : (s : ℕ) (f : Share) → s < P → seats ≤ s → get_or ys (share_at s f) 0 ≡ read P E img (share t s f)
    share_old s f lt a =
        written_behind event_head shares found room (share_at s f) (omega (arith, shares_long, share_low s f)) ∙ lent_share P E t in_ring img s f lt

    slot_is : (q : ℕ) (f : Slot) → InRange P E (slot q f) → Dec (q ≡ t) → read P E back (slot q f) ≡ epoch_words E (read P E img) x seats k l (slot q f)
    unfolding epoch_words
    slot_is q f r (yes e) =
        rw (eq-eqb q ((x.num_events + k) % E) (e ∙ et), e) (part_slot P E t in_ring img ys z.size many f r.1 ∙ slot_new f r.1)
    slot_is q f r (no n) =
        rw (ne_eqb q ((x.num_events + k) % E) (λ e. n (e ∙ sym et))) (part_else P E t in_ring img ys z.size many (slot q f) r n)

    share_is : (q s : ℕ) (f : Share) → InRange P E (share q s f) → Dec (q ≡ t)
        → read P E back (share q s f) ≡ epoch_words E (read P E img) x seats k l (share q s f)
    unfolding epoch_words
    share_is q s f r (yes e) =
        rw (eq-eqb q ((x.num_events + k) % E) (e ∙ et), e) (
        part_share P E t in_ring img ys z.size many s f r.1
        ∙ ⊎_elim (λ a. rw (lt-ltb s seats a) (share_new s f a)) (λ a. rw (le-ltb s seats a) (share_old s f r.1 a)) (lt_or_le s seats)
        )
    share_is q s f r (no n) =
        rw (ne_eqb q ((x.num_events + k) % E) (λ e. n (e ∙ sym et))) (part_else P E t in_ring img ys z.size many (share q s f) r n)

    back_has : (f : Field) → InRange P E f → read P E back f ≡ epoch_words E (read P E img) x seats k l f
    unfolding epoch_words
    back_has (head h) r = part_else P E t in_ring img ys z.size many (head h) r tt
    back_has (seat s f) r = part_else P E t in_ring img ys z.size many (seat s f) r tt
    back_has (slot q f) r = slot_is q f r (ℕ_discrete q t)
    back_has (share q s f) r = share_is q s f r (ℕ_discrete q t)

    back_long : length back ≡ size P E
    back_long =
        simp (length-append, length-drop) (
        omega (arith, z.size, many, slot_fits_law P E t in_ring, length-take-le (event_at P t) img (omega (arith, z.size, slot_fits_law P E t in_ring)))
        )

    -- the event back in its slot, as the code lends it
    pub epoch_back : (from : ℕ) (lent event : List ℕ) → from ≡ event_at P t → lent ≡ l
        → event ≡ written_event event_head (take (seats * 3) lent) (take (from + (9 + 3 * P) - from) (drop from img))
        → put_mid from (from + (9 + 3 * P) - from) img event ≡ image P E (epoch_words E (read P E img) x seats k l)
    epoch_back from lent event ef el ee =
        rw (ee, add-sub_cancel_left from (9 + 3 * P), ef, el) (holds_is P E _ back (record { long = back_long; has = back_has }))
