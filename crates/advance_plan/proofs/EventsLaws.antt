-- What the passed epochs' events leave, in closed form: a slot has the newest event that went to it, by the slot's age. Then the ring of a pool
-- that has grown from a fresh one, which an advance keeps. Assumes nothing.
use Rattle.std.proofs.Common.{◌≡◌, ℕ, zero, suc, ◌+◌, ◌-◌, ◌*◌, ◌%◌, ◌<◌, ◌≤◌, Bool, true, false, eqb, ltb, ◌⊎◌, List, sym}
use Rattle.std.proofs.Common.{refl, ap, ◌∙◌, ap₂, inl, inr, ⊎_elim, mod-lt, mod-eq_of_lt, arith, le-ltb, eq-eqb, ne_eqb}
use native.Mathlib.Decide.{ℕ_discrete}
use lib.Arith.{digits_mod}
use Rattle.std.specs.Prelude.{if◌then◌else◌}
use Rattle.types.proofs.Below.{and_right}
use Rattle.image.specs.Layout.{Head, last_updated_epoch, num_events, Seat, event_epoch, event_y}
use Rattle.image.specs.Layout.{extra_space, Share, Field, head, seat, slot, share, Words, InRange}
use Rattle.image.specs.Seats.{fresh_words, seats_of}
use Rattle.types.proofs.Below.{lt_or_le}
use Rattle.image.proofs.AgeLaws.{age, age_zero, age_suc}
use Rattle.advance_plan.specs.Advance.{slot_word, share_word, seat_cap, event_written, events_after, advanced_words}

-- ---- ages, once k more events have been written

module _ (E n t : ℕ) (pos : 1 ≤ E) (lt : t < E) where
  -- the last of them is the newest of its slot, and every other slot's is one older
  age_here : (k : ℕ) → t ≡ (n + k) % E → age E (n + suc k) t ≡ 0
  age_here k e = ap₂ (age E) (omega arith) e ∙ age_zero E (n + k) pos

  age_else : (k : ℕ) → (t ≡ (n + k) % E → ⊥) → age E (n + suc k) t ≡ age E (n + k) t + 1
  age_else k ne = ap (λ (m : ℕ). age E m t) (omega arith) ∙ age_suc E (n + k) t pos lt ne

  -- a slot to which none of them went is older by k
  pub age_older : (k : ℕ) → k ≤ age E (n + k) t → age E (n + k) t ≡ age E n t + k
  age_older zero h = let q : n + 0 ≡ n = omega arith in rw q (omega arith)
  age_older (suc k) h = go (ℕ_discrete t ((n + k) % E)) (age_older k)
    where
      go : Dec (t ≡ (n + k) % E) → (k ≤ age E (n + k) t → age E (n + k) t ≡ age E n t + k) → age E (n + suc k) t ≡ age E n t + suc k
      go (yes e) r = absurd (omega (arith, age_here k e))
      go (no ne) r = let l : k ≤ age E (n + k) t = omega (arith, age_else k ne) in omega (arith, age_else k ne, r l)

-- a slot that no event has gone to, by its index
pub age_unwritten : (E n t : ℕ) → t < E → n ≤ t → n ≤ age E n t
unfolding age
age_unwritten E n t lt h =
    let q : (n + (E - 1 - t)) % E ≡ n + (E - 1 - t) = mod-eq_of_lt (omega arith) in
    omega arith

-- one that an event has gone to
pub age_written : (E n t : ℕ) → t < E → t < n → age E n t < n
unfolding age
age_written E n t lt h = ⊎_elim
    (λ l.
    let q : n + (E - 1 - t) ≡ 1 * E + (n - 1 - t) = omega arith in
    let r : (n + (E - 1 - t)) % E ≡ n - 1 - t = ap (λ (k : ℕ). k % E) q ∙ digits_mod 1 (omega arith) in
    omega arith)
    (λ l. let b : (n + (E - 1 - t)) % E < E = mod-lt (n + (E - 1 - t)) (omega arith) in omega arith)
    (lt_or_le n E)

-- ---- one event

-- document 01's n and last
abbrev count : Words → ℕ
count w = w (head num_events)

abbrev last : Words → ℕ
last w = w (head last_updated_epoch)

-- the word stands in slot t
abbrev pub StandsIn : (t : ℕ) → Field → Type 0
StandsIn t (head h) = ⊥
StandsIn t (seat s x) = ⊥
StandsIn t (slot u x) = u ≡ t
StandsIn t (share u s x) = u ≡ t

-- a word of the event of the k-th passed epoch, whichever slot it goes to
abbrev pub event_word : Words → (cap : ℕ → ℕ) → (seats y k : ℕ) → Field → (found : ℕ) → ℕ
event_word w cap seats y k (head h) found = found
event_word w cap seats y k (seat s x) found = found
event_word w cap seats y k (slot t x) found = slot_word x (last w + k) y found
event_word w cap seats y k (share t s x) found = if ltb s seats then share_word w cap k s x else found

module _ (E : ℕ) (w : Words) (cap : ℕ → ℕ) (seats y k t : ℕ) where
  -- an event is written to its own slot
  written_here : (f : Field) (found : ℕ) → StandsIn t f → t ≡ (count w + k) % E → event_written E w cap seats y k f found ≡ event_word w cap seats y k f found
  unfolding event_written
  written_here (head h) found i e = absurd i
  written_here (seat s x) found i e = absurd i
  written_here (slot u x) found i e = rw (eq-eqb u ((count w + k) % E) (i ∙ e))
  written_here (share u s x) found i e = rw (eq-eqb u ((count w + k) % E) (i ∙ e))

  -- and to no other
  written_else : (f : Field) (found : ℕ) → StandsIn t f → (t ≡ (count w + k) % E → ⊥) → event_written E w cap seats y k f found ≡ found
  unfolding event_written
  written_else (head h) found i ne = absurd i
  written_else (seat s x) found i ne = absurd i
  written_else (slot u x) found i ne = rw (ne_eqb u ((count w + k) % E) (λ e. ne (sym i ∙ e)))
  written_else (share u s x) found i ne = rw (ne_eqb u ((count w + k) % E) (λ e. ne (sym i ∙ e)))

-- an event written over another leaves nothing of it
word_over : (w : Words) (cap : ℕ → ℕ) (seats y k j : ℕ) (f : Field) (found : ℕ)
    → event_word w cap seats y k f (event_word w cap seats y j f found) ≡ event_word w cap seats y k f found
word_over w cap seats y k j (head h) found = refl
word_over w cap seats y k j (seat s x) found = refl
word_over w cap seats y k j (slot t event_epoch) found = refl
word_over w cap seats y k j (slot t event_y) found = refl
word_over w cap seats y k j (slot t (extra_space c)) found = refl
word_over w cap seats y k j (share t s x) found = go (ltb s seats)
  where
    go : (b : Bool) → (if b then share_word w cap k s x else (if b then share_word w cap j s x else found)) ≡ (if b then share_word w cap k s x else found)
    go true = refl
    go false = refl

-- ---- the events of k passed epochs

either : (b : Bool) (x : ℕ) → (if b then x else x) ≡ x
either true x = refl
either false x = refl

module _ (E : ℕ) (w : Words) (cap : ℕ → ℕ) (seats y : ℕ) where
  -- words outside the ring stay
  pub events_head : (k : ℕ) (h : Head) → events_after E w cap seats y k (head h) ≡ w (head h)
  unfolding events_after event_written
  events_head zero h = refl
  events_head (suc k) h = events_head k h

  pub events_seat : (k s : ℕ) (x : Seat) → events_after E w cap seats y k (seat s x) ≡ w (seat s x)
  unfolding events_after event_written
  events_seat zero s x = refl
  events_seat (suc k) s x = events_seat k s x

  -- 'Spare words and other seats stay'
  pub events_spare : (k t c : ℕ) → events_after E w cap seats y k (slot t (extra_space c)) ≡ w (slot t (extra_space c))
  unfolding events_after event_written
  events_spare zero t c = refl
  events_spare (suc k) t c = either (eqb t ((count w + k) % E)) _ ∙ events_spare k t c

  pub events_vacant : (k t s : ℕ) (x : Share) → seats ≤ s → events_after E w cap seats y k (share t s x) ≡ w (share t s x)
  unfolding events_after event_written
  events_vacant zero t s x h = refl
  events_vacant (suc k) t s x h = rw (and_right (eqb t ((count w + k) % E)) (ltb s seats) (le-ltb s seats h)) (events_vacant k t s x h)

  module _ (pos : 1 ≤ E) (t : ℕ) (lt : t < E) (f : Field) (stands : StandsIn t f) where
    -- a slot to which none of the events went has its words as found
    pub events_found : (k : ℕ) → k ≤ age E (count w + k) t → events_after E w cap seats y k f ≡ w f
    unfolding events_after
    events_found zero h = refl
    events_found (suc k) h = go (ℕ_discrete t ((count w + k) % E)) (events_found k)
      where
        go : Dec (t ≡ (count w + k) % E) → (k ≤ age E (count w + k) t → events_after E w cap seats y k f ≡ w f)
            → event_written E w cap seats y k f (events_after E w cap seats y k f) ≡ w f
        go (yes e) r = absurd (omega (arith, age_here E (count w) t pos lt k e))
        go (no ne) r = written_else E w cap seats y k t f _ stands ne ∙ r (omega (arith, age_else E (count w) t pos lt k ne))

    -- a slot to which one went has the newest one's words
    pub events_newest : (k : ℕ) → age E (count w + k) t < k
        → events_after E w cap seats y k f ≡ event_word w cap seats y (k - 1 - age E (count w + k) t) f (w f)
    unfolding events_after
    events_newest zero h = absurd (omega arith)
    events_newest (suc k) h = go (ℕ_discrete t ((count w + k) % E)) (lt_or_le (age E (count w + k) t) k) (events_newest k) (events_found k)
      where
        at : (i j : ℕ) → i ≡ j → event_word w cap seats y i f (w f) ≡ event_word w cap seats y j f (w f)
        at i j q = ap (λ (k : ℕ). event_word w cap seats y k f (w f)) q

        go : Dec (t ≡ (count w + k) % E) → (age E (count w + k) t < k) ⊎ (k ≤ age E (count w + k) t)
            → (age E (count w + k) t < k → events_after E w cap seats y k f ≡ event_word w cap seats y (k - 1 - age E (count w + k) t) f (w f))
            → (k ≤ age E (count w + k) t → events_after E w cap seats y k f ≡ w f)
            → event_written E w cap seats y k f (events_after E w cap seats y k f) ≡ event_word w cap seats y (suc k - 1 - age E (count w + suc k) t) f (w f)
        go (yes e) (inl l) newest found =
            written_here E w cap seats y k t f _ stands e ∙ ap (event_word w cap seats y k f) (newest l) ∙ word_over w cap seats y k _ f (w f)
            ∙ at k _ (omega (arith, age_here E (count w) t pos lt k e))
        go (yes e) (inr l) newest found =
            written_here E w cap seats y k t f _ stands e ∙ ap (event_word w cap seats y k f) (found l)
            ∙ at k _ (omega (arith, age_here E (count w) t pos lt k e))
        go (no ne) (inl l) newest found =
            written_else E w cap seats y k t f _ stands ne ∙ newest l ∙ at _ _ (omega (arith, age_else E (count w) t pos lt k ne))
        go (no ne) (inr l) newest found = absurd (omega (arith, age_else E (count w) t pos lt k ne))

-- ---- the ring of a pool that has grown from a fresh one

-- what holds of its words; `first` is the fresh pool's last epoch
pub record Grown (P E first : ℕ) (w : Words) : Type 0 where
  -- n counts the passed epochs
  pub span : last w ≡ first + count w
  -- a slot that an event has gone to holds the newest one's epoch
  pub dated : (t : ℕ) → t < E → age E (count w) t < count w → w (slot t event_epoch) ≡ last w - 1 - age E (count w) t
  -- the words of all other slots are zero
  pub unwritten : (t : ℕ) → t < E → count w ≤ age E (count w) t → (f : Field) → InRange P E f → StandsIn t f → w f ≡ 0

pub grown_fresh : (P E given : ℕ) → Grown P E (given - 1) (fresh_words given)
grown_fresh P E given = record { span = omega arith; dated = λ t lt h. absurd (omega arith); unwritten = λ t lt h f r i. zero_in f t i }
  where
    zero_in : (f : Field) (t : ℕ) → StandsIn t f → fresh_words given f ≡ 0
    zero_in (head h) t i = absurd i
    zero_in (seat s x) t i = absurd i
    zero_in (slot u x) t i = refl
    zero_in (share u s x) t i = refl

module _ (P E first : ℕ) (w : Words) (g : Grown P E first w) where
  -- only n, last and the ring's words count
  pub grown_same : (v : Words) → count v ≡ count w → last v ≡ last w → ((t : ℕ) (f : Field) → InRange P E f → StandsIn t f → v f ≡ w f) → Grown P E first v
  grown_same v n l e = record {
    span = rw (n, l) g.span;
    dated = λ t lt h. e t (slot t event_epoch) (lt, tt) refl ∙ rw (n, l) (g.dated t lt (rw n at h));
    unwritten = λ t lt h f r i. e t f r i ∙ g.unwritten t lt (rw n at h) f r i;
  }

  -- an advance to a later epoch
  module _ (m : List ℕ) (epoch y set_aside : ℕ) (pos : 1 ≤ E) (later : last w < epoch) where
    abbrev passed : ℕ
    passed = epoch - last w

    abbrev ring_words : Words
    ring_words = events_after E w (seat_cap w m) (seats_of P w) y passed

    -- the ring's words are its events'
    in_ring : (t : ℕ) (f : Field) → StandsIn t f → advanced_words P E w m epoch y set_aside f ≡ ring_words f
    in_ring t (head h) i = absurd i
    in_ring t (seat s x) i = absurd i
    in_ring t (slot u x) i = refl
    in_ring t (share u s x) i = refl

    -- an older slot's words are as found
    older : (t : ℕ) → t < E → passed ≤ age E (count w + passed) t → (f : Field) → StandsIn t f → ring_words f ≡ w f
    older t lt l f i = events_found E w (seat_cap w m) (seats_of P w) y pos t lt f i passed l

    pub grown_advanced : Grown P E first (advanced_words P E w m epoch y set_aside)
    grown_advanced = record { span = omega (arith, g.span); dated = dated; unwritten = unwritten }
      where
        dated : (t : ℕ) → t < E → age E (count w + passed) t < count w + passed → ring_words (slot t event_epoch) ≡ epoch - 1 - age E (count w + passed) t
        dated t lt h = ⊎_elim
            (λ l. events_newest E w (seat_cap w m) (seats_of P w) y pos t lt (slot t event_epoch) refl passed l ∙ omega arith)
            (λ l. let a = age_older E (count w) t pos lt passed l in older t lt l (slot t event_epoch) refl ∙ g.dated t lt (omega arith) ∙ omega arith)
            (lt_or_le (age E (count w + passed) t) passed)

        unwritten : (t : ℕ) → t < E → count w + passed ≤ age E (count w + passed) t → (f : Field) → InRange P E f → StandsIn t f
            → advanced_words P E w m epoch y set_aside f ≡ 0
        unwritten t lt h f r i =
            let l : passed ≤ age E (count w + passed) t = omega arith in
            let a = age_older E (count w) t pos lt passed l in
            in_ring t f i ∙ older t lt l f i ∙ g.unwritten t lt (omega arith) f r i
