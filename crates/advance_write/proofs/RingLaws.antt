-- The ring of events: each slot keeps its newest event, so only the newest E need be written. Then the events' words are those of the definition.
-- Assumes nothing.
use Rattle.std.proofs.Common.{◌≡◌, ◌≢◌, ℕ, zero, suc, ◌+◌, ◌-◌, ◌*◌, ◌%◌, ◌<◌, ◌≤◌, Bool}
use Rattle.std.proofs.Common.{true, false, ◌&&◌, eqb, ltb, ◌⊎◌, List, [], ◌∷◌, ◌++◌, length, get_or, flat_map}
use Rattle.std.proofs.Common.{refl, sym, ap, ◌∙◌, inl, inr, ⊎_elim, zero-add, add-suc, arith, eq-eqb, ne_eqb, ltb-true}
use Rattle.std.proofs.lemmas.List.{get_or_append_left, get_or-append-add}
use native.Mathlib.Decide.{ℕ_discrete}
use Rattle.std.specs.Prelude.{if◌then◌else◌}
use Rattle.types.specs.declared.Ratio.{Ratio}
use Rattle.image.specs.Layout.{self, other, Head, Seat, Slot, event_epoch, event_y, extra_space, Share}
use Rattle.image.specs.Layout.{delegation_fees, reward_ratio, event_fee, Field, head, seat, slot, share, Words, InRange}
use Rattle.types.proofs.Below.{lt_or_le}
use Rattle.image.proofs.AgeLaws.{age, age_lt, slot_of}
use Rattle.image.specs.declared.pool_data.PoolDataMut.{PoolDataMut}
use Rattle.image.specs.Pool.{words_in, Becomes}
use Rattle.image.proofs.PoolLaws.{becomes_reads, becomes_same, becomes_as, becomes_next}
use Rattle.advance_plan.specs.declared.table.SeatTable.{SeatTable}
use Rattle.advance_plan.specs.Advance.{slot_word, share_word, ratio_in, event_written, events_after}
use Rattle.advance_plan.specs.Stake.{Shared, Tabled, shares_in}
use Rattle.advance_write.specs.declared.events.PassedEpochs.{PassedEpochs}
use Rattle.advance_write.specs.Events.{passed_epochs, share_in, epoch_words, events_words}

-- ---- one word of slot t, which was o: c k o is what the k-th event makes of it, whatever an earlier one did

module _ (E n t o : ℕ) (pos : 1 ≤ E) (lt : t < E) (c : ℕ → ℕ → ℕ) (over : (k j v : ℕ) → c k (c j v) ≡ c k v) where
  abbrev turn : (k v : ℕ) → ℕ
  turn k v = if eqb t ((n + k) % E) then c k v else v

  -- once the first k events are written, and once the d events from the first-th on are
  pub all : ℕ → ℕ
  all zero = o
  all (suc k) = turn k (all k)

  pub late : (first d : ℕ) → ℕ
  late first zero = o
  late first (suc d) = turn (first + d) (late first d)

  all_anew : (k j : ℕ) → c k (all j) ≡ c k o
  unfolding all
  all_anew k zero = refl
  all_anew k (suc j) = go (eqb t ((n + j) % E)) (all_anew k j)
    where
      go : (b : Bool) → c k (all j) ≡ c k o → c k (if b then c j (all j) else all j) ≡ c k o
      go true h = over k j (all j) ∙ h
      go false h = h

  late_anew : (k first d : ℕ) → c k (late first d) ≡ c k o
  unfolding late
  late_anew k first zero = refl
  late_anew k first (suc d) = go (eqb t ((n + (first + d)) % E)) (late_anew k first d)
    where
      go : (b : Bool) → c k (late first d) ≡ c k o → c k (if b then c (first + d) (late first d) else late first d) ≡ c k o
      go true h = over k (first + d) (late first d) ∙ h
      go false h = h

  -- with none left out
  late_all : (d : ℕ) → late 0 d ≡ all d
  unfolding all late
  late_all zero = refl
  late_all (suc d) = rw (zero-add d, late_all d)

  -- as soon as one goes to the slot
  unwritten_or_same : (first d : ℕ) → ((j : ℕ) → j < d → t ≢ (n + (first + j)) % E) ⊎ (late first d ≡ all (first + d))
  unfolding all late
  unwritten_or_same first zero = inl (λ j l. absurd (omega arith))
  unwritten_or_same first (suc d) = rw (add-suc first d) (go (ℕ_discrete t ((n + (first + d)) % E)) (unwritten_or_same first d))
    where
      go : Dec (t ≡ (n + (first + d)) % E) → ((j : ℕ) → j < d → t ≢ (n + (first + j)) % E) ⊎ (late first d ≡ all (first + d))
          → ((j : ℕ) → j < suc d → t ≢ (n + (first + j)) % E) ⊎ (turn (first + d) (late first d) ≡ turn (first + d) (all (first + d)))
      go (yes e) h = inr (rw (eq-eqb t ((n + (first + d)) % E) e) (late_anew (first + d) first d ∙ sym (all_anew (first + d) (first + d))))
      go (no ne) (inr q) = inr (rw (ne_eqb t ((n + (first + d)) % E) ne) q)
      go (no ne) (inl h) = inl (λ j l. ⊎_elim (λ a. h j a) (λ a. let q : j ≡ d = omega arith in rw q ne) (lt_or_le j d))

  -- of E events in a row one does
  some_written : (first d : ℕ) → E ≤ d → ((j : ℕ) → j < d → t ≢ (n + (first + j)) % E) → ⊥
  some_written first d h none =
      let a : ℕ = age E (n + (first + d)) t in
      let young : a < E = age_lt E (n + (first + d)) t pos in
      none (d - 1 - a) (omega arith) (slot_of E (n + (first + d)) t pos lt (omega arith) ∙ ap (λ (i : ℕ). i % E) (omega arith))

  pub newest_all : (first passed : ℕ) → first ≡ passed - E → late first (passed - first) ≡ all passed
  newest_all first passed e = ⊎_elim few many (lt_or_le passed E)
    where
      few : passed < E → late first (passed - first) ≡ all passed
      few h =
          let z : first ≡ 0 = omega arith in
          let q : passed - first ≡ passed = omega arith in
          rw (q, z) (late_all passed)

      many : E ≤ passed → late first (passed - first) ≡ all passed
      many h =
          let q : first + (passed - first) ≡ passed = omega arith in
          ⊎_elim (λ none. absurd (some_written first (passed - first) (omega arith) none)) (λ same. same ∙ ap all q) (unwritten_or_same first (passed - first))

-- ---- all words

-- once the d events from the first-th on are written
unfoldable pub late_words : {Q : ℕ} (E : ℕ) → Words → PassedEpochs → (seats : ℕ) → SeatTable Q → (first d : ℕ) → Words
late_words E w x seats t first zero f = w f
late_words E w x seats t first (suc d) f = epoch_words E (late_words E w x seats t first d) x seats (first + d) (shares_in t (first + d)) f

-- an event's words depend on the one word that they replace
pub epoch_same : (E : ℕ) (w v : Words) (x : PassedEpochs) (seats k : ℕ) (shares : List ℕ) (f : Field) → w f ≡ v f
    → epoch_words E w x seats k shares f ≡ epoch_words E v x seats k shares f
unfolding epoch_words
epoch_same E w v x seats k shares (head h) e = e
epoch_same E w v x seats k shares (seat s g) e = e
epoch_same E w v x seats k shares (slot t g) e = rw e
epoch_same E w v x seats k shares (share t s g) e = rw e

module _ {Q : ℕ} (E : ℕ) (w : Words) (x : PassedEpochs) (seats : ℕ) (t : SeatTable Q) where
  pub late_none : (first d : ℕ) → d ≡ 0 → (f : Field) → w f ≡ late_words E w x seats t first d f
  unfolding late_words
  late_none first d e f = rw e refl

  pub late_more : (first k : ℕ) → first ≤ k → (P : ℕ) (v : Words) → ((f : Field) → InRange P E f → v f ≡ late_words E w x seats t first (k - first) f)
      → (f : Field) → InRange P E f
      → epoch_words E v x seats k (shares_in t k) f ≡ late_words E w x seats t first (k + 1 - first) f
  unfolding late_words
  late_more first k l P v has f r =
      let q : k + 1 - first ≡ suc (k - first) = omega arith in
      let q' : first + (k - first) ≡ k = omega arith in
      rw (q, q') (epoch_same E v (late_words E w x seats t first (k - first)) x seats k (shares_in t k) f (has f r))

  -- a slot's words
  abbrev slot_made : (f : Slot) → (k o : ℕ) → ℕ
  slot_made f k o = slot_word f (x.last_updated_epoch.0 + k) x.y.0 o

  slot_over : (f : Slot) (k j o : ℕ) → slot_made f k (slot_made f j o) ≡ slot_made f k o
  slot_over event_epoch k j o = refl
  slot_over event_y k j o = refl
  slot_over (extra_space c) k j o = refl

  abbrev share_made : (s : ℕ) (f : Share) → (k o : ℕ) → ℕ
  share_made s f k o = if ltb s seats then share_in (shares_in t k) s f else o

  share_over : (s : ℕ) (f : Share) (k j o : ℕ) → share_made s f k (share_made s f j o) ≡ share_made s f k o
  share_over s f k j o = go (ltb s seats)
    where
      go : (b : Bool)
          → (if b then share_in (shares_in t k) s f else (if b then share_in (shares_in t j) s f else o)) ≡ (if b then share_in (shares_in t k) s f else o)
      go true = refl
      go false = refl

  module _ (pos : 1 ≤ E) (τ : ℕ) (lt : τ < E) where
    slot_all : (f : Slot) (k : ℕ) → all E x.num_events τ (w (slot τ f)) pos lt (slot_made f) (slot_over f) k ≡ events_words E w x seats t k (slot τ f)
    unfolding all events_words epoch_words
    slot_all f zero = refl
    slot_all f (suc k) = rw (slot_all f k)

    slot_late : (f : Slot) (first d : ℕ)
        → late E x.num_events τ (w (slot τ f)) pos lt (slot_made f) (slot_over f) first d ≡ late_words E w x seats t first d (slot τ f)
    unfolding late late_words epoch_words
    slot_late f first zero = refl
    slot_late f first (suc d) = rw (slot_late f first d)

    share_all : (s : ℕ) (f : Share) (k : ℕ)
        → all E x.num_events τ (w (share τ s f)) pos lt (share_made s f) (share_over s f) k ≡ events_words E w x seats t k (share τ s f)
    unfolding all events_words epoch_words
    share_all s f zero = refl
    share_all s f (suc k) = rw (share_all s f k)

    share_late : (s : ℕ) (f : Share) (first d : ℕ)
        → late E x.num_events τ (w (share τ s f)) pos lt (share_made s f) (share_over s f) first d ≡ late_words E w x seats t first d (share τ s f)
    unfolding late late_words epoch_words
    share_late s f first zero = refl
    share_late s f first (suc d) = rw (share_late s f first d)

  -- words outside the ring stay
  head_late : (h : Head) (first d : ℕ) → late_words E w x seats t first d (head h) ≡ w (head h)
  unfolding late_words epoch_words
  head_late h first zero = refl
  head_late h first (suc d) = head_late h first d

  head_all : (h : Head) (k : ℕ) → events_words E w x seats t k (head h) ≡ w (head h)
  unfolding events_words epoch_words
  head_all h zero = refl
  head_all h (suc k) = head_all h k

  seat_late : (s : ℕ) (g : Seat) (first d : ℕ) → late_words E w x seats t first d (seat s g) ≡ w (seat s g)
  unfolding late_words epoch_words
  seat_late s g first zero = refl
  seat_late s g first (suc d) = seat_late s g first d

  seat_all : (s : ℕ) (g : Seat) (k : ℕ) → events_words E w x seats t k (seat s g) ≡ w (seat s g)
  unfolding events_words epoch_words
  seat_all s g zero = refl
  seat_all s g (suc k) = seat_all s g k

  -- the newest E leave what all of them do
  pub late_done : (P first k passed : ℕ) → 1 ≤ E → first ≡ passed - E → k ≡ passed → (f : Field) → InRange P E f
      → late_words E w x seats t first (k - first) f ≡ events_words E w x seats t passed f
  late_done P first k passed pos e ek f r = rw ek (go f r)
    where
      go : (f : Field) → InRange P E f → late_words E w x seats t first (passed - first) f ≡ events_words E w x seats t passed f
      go (head h) r = head_late h first (passed - first) ∙ sym (head_all h passed)
      go (seat s g) r = seat_late s g first (passed - first) ∙ sym (seat_all s g passed)
      go (slot τ g) r =
          sym (slot_late pos τ r.0 g first (passed - first)) ∙ newest_all E x.num_events τ (w (slot τ g)) pos r.0 (slot_made g) (slot_over g) first passed e
          ∙ slot_all pos τ r.0 g passed
      go (share τ s g) r =
          sym (share_late pos τ r.0 s g first (passed - first))
          ∙ newest_all E x.num_events τ (w (share τ s g)) pos r.0 (share_made s g) (share_over s g) first passed e
          ∙ share_all pos τ r.0 s g passed

-- ---- the definition's words

-- the lists of a list, one after the other
abbrev flat : List (List ℕ) → List ℕ
flat l = flat_map (λ (x : List ℕ). x) l

-- word i of list s, where each has three up to there
flat_word : (l : List (List ℕ)) (s i : ℕ) → ((q : ℕ) → q ≤ s → length (get_or l q []) ≡ 3) → i < 3 → get_or (flat l) (s * 3 + i) 0 ≡ get_or (get_or l s []) i 0
flat_word [] s i h lt = let z : ◌≡◌ {A = ℕ} 0 3 = h 0 (omega arith) in absurd (omega arith)
flat_word (x ∷ l) zero i h lt =
    let e : length x ≡ 3 = h 0 (omega arith) in
    ap (λ (j : ℕ). get_or (x ++ flat l) j 0) (omega arith) ∙ get_or_append_left x (flat l) 0 i (omega arith)
flat_word (x ∷ l) (suc s) i h lt =
    let e : length x ≡ 3 = h 0 (omega arith) in
    ap (λ (j : ℕ). get_or (x ++ flat l) j 0) (omega arith) ∙ get_or-append-add x (flat l) (s * 3 + i) 0 ∙ flat_word l s i (λ q g. h (suc q) (omega arith)) lt

module _ {w : Words} {cap : ℕ → ℕ} {k seats : ℕ} (l : List (List ℕ)) (h : Shared w cap k seats l) (s : ℕ) (lt : s < seats) where
  nth_word : (i : ℕ) → i < 3 → get_or (flat l) (s * 3 + i) 0 ≡ get_or (ratio_in w cap k s self ∷ ratio_in w cap k s other ∷ w (seat s delegation_fees) ∷ []) i 0
  nth_word i b = flat_word l s i (λ q g. ap length (h.share q (omega arith))) b ∙ ap (λ (r : List ℕ). get_or r i 0) (h.share s lt)

  shared_word : (f : Share) → share_in (flat l) s f ≡ share_word w cap k s f
  shared_word (reward_ratio self) = ap (λ (j : ℕ). get_or (flat l) j 0) (omega arith) ∙ nth_word 0 (omega arith)
  shared_word (reward_ratio other) = nth_word 1 (omega arith)
  shared_word event_fee = nth_word 2 (omega arith)

module _ {Q : ℕ} (E : ℕ) (w : Words) (cap : ℕ → ℕ) (seats epoch : ℕ) (y : Ratio) (t : SeatTable Q) (tb : Tabled w cap seats t) where
  abbrev pass : PassedEpochs
  pass = passed_epochs w epoch y

  -- the table's words are the ratios and fees of the k-th passed epoch
  table_word : (k s : ℕ) (f : Share) → s < seats → share_in (shares_in t k) s f ≡ share_word w cap k s f
  unfolding ratio_in
  table_word zero s f l = shared_word t.first_shares tb.first s l f
  table_word (suc k) s (reward_ratio d) l = shared_word t.later_shares tb.later s l (reward_ratio d)
  table_word (suc k) s event_fee l = shared_word t.later_shares tb.later s l event_fee

  seated_word : (a b : Bool) (u v o : ℕ) → (b ≡ true → u ≡ v) → (if a then (if b then u else o) else o) ≡ (if a && b then v else o)
  seated_word true true u v o h = h refl
  seated_word true false u v o h = refl
  seated_word false b u v o h = refl

  epoch_is : (v : Words) (k : ℕ) (f : Field) → epoch_words E v pass seats k (shares_in t k) f ≡ event_written E w cap seats y.0 k f (v f)
  unfolding epoch_words event_written
  epoch_is v k (head h) = refl
  epoch_is v k (seat s g) = refl
  epoch_is v k (slot τ g) = refl
  epoch_is v k (share τ s g) = seated_word (eqb τ ((pass.num_events + k) % E)) (ltb s seats) _ _ _ (λ h. table_word k s g (ltb-true s seats h))

  pub events_are : (k : ℕ) (f : Field) → events_words E w pass seats t k f ≡ events_after E w cap seats y.0 k f
  unfolding events_words events_after
  events_are zero f = refl
  events_are (suc k) f = epoch_is (events_words E w pass seats t k) k f ∙ ap (event_written E w cap seats y.0 k f) (events_are k f)

-- ---- the same of a pool

module _ {Q : ℕ} (pool : PoolDataMut) (x : PassedEpochs) (seats : ℕ) (t : SeatTable Q) (first : ℕ) where
  pub late_begins : (d : ℕ) → d ≡ 0 → Becomes pool pool (late_words pool.e (words_in pool) x seats t first d)
  late_begins d e = becomes_same pool _ (λ f r. late_none pool.e (words_in pool) x seats t first d e f)

  module _ (at : PoolDataMut) (k : ℕ) (b : Becomes pool at (late_words pool.e (words_in pool) x seats t first (k - first))) where
    pub late_goes : (next : PoolDataMut) → first ≤ k → Becomes at next (epoch_words at.e (words_in at) x seats k (shares_in t k))
        → Becomes pool next (late_words pool.e (words_in pool) x seats t first (k + 1 - first))
    late_goes next l y =
        becomes_next pool at next _ _ _ b y (λ f r.
        ap (λ (e : ℕ). epoch_words e (words_in at) x seats k (shares_in t k) f) b.e
        ∙ late_more pool.e (words_in pool) x seats t first k l pool.p (words_in at) (becomes_reads pool at _ b) f r)

    pub late_ends : first ≡ x.passed - pool.e → k ≡ x.passed → Becomes pool at (events_words pool.e (words_in pool) x seats t x.passed)
    late_ends ef ek = becomes_as pool at _ b _ (late_done pool.e (words_in pool) x seats t pool.p first k x.passed pool.sized.e_low ef ek)
