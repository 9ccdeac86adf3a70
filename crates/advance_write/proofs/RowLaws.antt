-- Seats for unmatched rows: what one row's turn leaves, row by row, and the seats and rows in pairs. Assumes nothing.
use Rattle.std.proofs.Common.{◌≡◌, ℕ, zero, suc, ◌+◌, ◌-◌, ◌<◌, ◌≤◌, Bool, true, false, not, ◌&&◌, eqb, ltb, cond, List, [], ◌∷◌, ◌++◌, length, get_or}
use Rattle.std.proofs.Common.{refl, sym, ap, ap₂, ◌∙◌, add-one, arith, ne_eqb, length-append, ltb-false, le-ltb, lt-ltb, append-nil, map-id, ⊎_elim}
use Rattle.positions.specs.declared.Key.{Key}
use Rattle.types.proofs.Below.{lt_or_le}
use Rattle.std.specs.List.{filter, zip, range_with_len, fold}
use Rattle.std.specs.Fn.{CalledAt}
use Rattle.std.specs.Iterator.{Yields}
use Rattle.std.specs.Iterator.Adapters.{zip_first, zip_second, zip_steps, filter_source, filter_callee, filter_steps}
use Rattle.std.specs.declared.iter.Zip.{Zip}
use Rattle.std.specs.declared.iter.Filter.{Filter}
use Rattle.std.specs.declared.ops.Range.{Range}
use Rattle.std.specs.Range.{range_steps}
use denote.Ref.{Bor}
use denote.Param.Members.{Mut}
use Rattle.std.proofs.lemmas.Iterator.{YieldsList, YieldsList-from_zip, YieldsList-from_range}
use Rattle.std.proofs.lemmas.Iterator.Consumers.{YieldsList-at, YieldsList-from_filter, YieldsList-turn, YieldsList-end}
use Rattle.std.proofs.lemmas.List.FromFn.{filter_of_map_range_with_len_more}
use Rattle.std.proofs.lemmas.List.Sums.{fold-append}
use Rattle.std.specs.Prelude.{Option, None, Some, if◌then◌else◌}
use Rattle.types.specs.Base.{to_nat, count_below}
use Rattle.types.proofs.Below.{count_le}
use Rattle.publisher_caps.specs.declared.PublisherCap.{PublisherCap}
use Rattle.publisher_caps.specs.Message.{key_word, row_of}
use Rattle.image.specs.Layout.{publishers, total_delegation, delta_delegation, publisher_stake_accounts}
use Rattle.image.specs.Layout.{num_slash_events, delegation_fees, Field, head, seat, slot, share, Words, InRange}
use Rattle.image.specs.Seats.{word_of, with_publisher}
use Rattle.image.specs.declared.pool_data.PoolDataMut.{PoolDataMut}
use Rattle.image.specs.Pool.{words_in, Becomes}
use Rattle.image.proofs.PoolLaws.{becomes_reads, becomes_next}
use Rattle.advance_plan.specs.Advance.{key_after}
use Rattle.advance_write.specs.Rows.{keys_words}

-- ---- a row takes a seat, or none

-- row j has taken the seat `place`, unless it is matched
unfoldable row_words : Words → List ℕ → (j place : ℕ) → (matched : Bool) → Words
row_words w m j place matched (head h) = w (head h)
row_words w m j place matched (seat q (publishers c)) = if not matched && eqb q place then key_word m j c else w (seat q (publishers c))
row_words w m j place matched (seat q (total_delegation d)) = w (seat q (total_delegation d))
row_words w m j place matched (seat q (delta_delegation d)) = w (seat q (delta_delegation d))
row_words w m j place matched (seat q (publisher_stake_accounts c)) = w (seat q (publisher_stake_accounts c))
row_words w m j place matched (seat q num_slash_events) = w (seat q num_slash_events)
row_words w m j place matched (seat q delegation_fees) = w (seat q delegation_fees)
row_words w m j place matched (slot t x) = w (slot t x)
row_words w m j place matched (share t q x) = w (share t q x)

module _ (P E : ℕ) (w : Words) (m : List ℕ) (j place : ℕ) where
  same_row : (matched : Bool) → ((q c : ℕ) → q < P → (not matched && eqb q place) ≡ false) → (g : Field) → InRange P E g → w g ≡ row_words w m j place matched g
  unfolding row_words
  same_row matched h (head x) r = refl
  same_row matched h (seat q (publishers c)) r = rw (h q c r.0)
  same_row matched h (seat q (total_delegation x)) r = refl
  same_row matched h (seat q (delta_delegation x)) r = refl
  same_row matched h (seat q (publisher_stake_accounts x)) r = refl
  same_row matched h (seat q num_slash_events) r = refl
  same_row matched h (seat q delegation_fees) r = refl
  same_row matched h (slot t x) r = refl
  same_row matched h (share t q x) r = refl

  row_matched : (matched : Bool) → matched ≡ true → (g : Field) → InRange P E g → w g ≡ row_words w m j place matched g
  row_matched true e = same_row true (λ q c l. refl)
  row_matched false e = let z : ◌≡◌ {A = Bool} false true = e in absurd (cc)

  row_full : (matched : Bool) → matched ≡ false → P ≤ place → (g : Field) → InRange P E g → w g ≡ row_words w m j place matched g
  row_full false e h = same_row false (λ q c l. ne_eqb q place (λ k. omega arith))
  row_full true e h = let z : ◌≡◌ {A = Bool} true false = e in absurd (cc)

  key_word_law : (c : ℕ) → c < 4 → word_of (row_of m j).pubkey c ≡ key_word m j c
  unfolding row_of
  key_word_law zero l = refl
  key_word_law (suc zero) l = refl
  key_word_law (suc (suc zero)) l = refl
  key_word_law (suc (suc (suc zero))) l = refl
  key_word_law (suc (suc (suc (suc c)))) l = absurd (omega arith)

  key_at : (q c : ℕ) → c < 4 → (t : Bool)
      → (if t then word_of (row_of m j).pubkey c else w (seat q (publishers c))) ≡ (if t then key_word m j c else w (seat q (publishers c)))
  key_at q c l true = key_word_law c l
  key_at q c l false = refl

  row_key : (g : Field) → InRange P E g → with_publisher w place (row_of m j).pubkey g ≡ row_words w m j place false g
  unfolding row_words with_publisher
  row_key (head x) r = refl
  row_key (seat q (publishers c)) r = key_at q c r.1 (eqb q place)
  row_key (seat q (total_delegation x)) r = refl
  row_key (seat q (delta_delegation x)) r = refl
  row_key (seat q (publisher_stake_accounts x)) r = refl
  row_key (seat q num_slash_events) r = refl
  row_key (seat q delegation_fees) r = refl
  row_key (slot t x) r = refl
  row_key (share t q x) r = refl

  row_seated : (matched : Bool) (row : PublisherCap) → matched ≡ false → row ≡ row_of m j → (g : Field) → InRange P E g
      → with_publisher w place row.pubkey g ≡ row_words w m j place matched g
  row_seated false row e q g r = ap (λ (x : PublisherCap). with_publisher w place x.pubkey g) q ∙ row_key g r
  row_seated true row e q g r = let z : ◌≡◌ {A = Bool} true false = e in absurd (cc)

-- ---- the seats and the rows that take them, in pairs

zip_nil : (xs : List ℕ) → ◌≡◌ {A = List (ℕ × ℕ)} (zip xs []) []
zip_nil [] = refl
zip_nil (x ∷ xs) = refl

-- one more row, while seats are left
zip_more : (a k : ℕ) (ys : List ℕ) (y : ℕ)
    → zip (range_with_len a k) (ys ++ y ∷ []) ≡ zip (range_with_len a k) ys ++ (if ltb (length ys) k then (a + length ys, y) ∷ [] else [])
zip_more a zero [] y = refl
zip_more a zero (z ∷ ys) y = sym (ap (λ (b : Bool). if b then (a + length (z ∷ ys), y) ∷ [] else []) (le-ltb (length (z ∷ ys)) 0 (omega arith)))
zip_more a (suc k) [] y =
    ap (λ (l : List (ℕ × ℕ)). (a, y) ∷ l) (zip_nil (range_with_len (a + 1) k))
    ∙ sym (ap₂ (λ (b : Bool) (i : ℕ). if b then (i, y) ∷ [] else []) (lt-ltb 0 (suc k) (omega arith)) (omega arith))
zip_more a (suc k) (z ∷ ys) y =
    ap (λ (l : List (ℕ × ℕ)). (a, z) ∷ l) (
    zip_more (a + 1) k ys y ∙ ap₂ (λ (b : Bool) (i : ℕ). zip (range_with_len (a + 1) k) ys ++ (if b then (i, y) ∷ [] else [])) (less (length ys)) (omega arith)
    )
  where
    less : (n : ℕ) → ltb n k ≡ ltb (suc n) (suc k)
    less n =
        ⊎_elim (λ l. lt-ltb n k l ∙ sym (lt-ltb (suc n) (suc k) (omega arith))) (λ l. le-ltb n k l ∙ sym (le-ltb (suc n) (suc k) (omega arith)))
        (lt_or_le n k)

module _ (matched : ℕ → Bool) where
  -- the unmatched ones of the first n rows
  abbrev pub unmatched : ℕ → List ℕ
  unmatched n = filter (λ j. not (matched j)) (range_with_len 0 n)

  unmatched_more : (n : ℕ) → unmatched (suc n) ≡ unmatched n ++ (if matched n then [] else n ∷ [])
  unmatched_more n =
      ap unmatched (sym (add-one n)) ∙ ap (λ (l : List ℕ). filter (λ j. not (matched j)) l) (sym (map-id _))
      ∙ filter_of_map_range_with_len_more (λ j. not (matched j)) (λ j. j) 0 n n (omega arith)
      ∙ ap₂ (λ (l k : List ℕ). filter (λ j. not (matched j)) l ++ k) (map-id _) (go (matched n))
    where
      go : (b : Bool) → cond (not b) (n ∷ []) [] ≡ (if b then [] else n ∷ [])
      go true = refl
      go false = refl

  unmatched_long : (n : ℕ) → length (unmatched n) ≡ n - count_below n matched
  unfolding count_below
  unmatched_long zero = refl
  unmatched_long (suc n) = ap length (unmatched_more n) ∙ length-append (unmatched n) _ ∙ go (matched n) (unmatched_long n) (count_le matched n)
    where
      go : (b : Bool) → length (unmatched n) ≡ n - count_below n matched → count_below n matched ≤ n
          → length (unmatched n) + length (if b then [] else n ∷ []) ≡ suc n - (count_below n matched + to_nat b)
      go true h l = omega arith
      go false h l = omega arith

-- the words once each of these rows has its seat
abbrev pub paired_words : Words → List ℕ → List (ℕ × ℕ) → Words
paired_words w m l = fold (λ (v : Words) (x : ℕ × ℕ). with_publisher v x.0 (row_of m x.1).pubkey) w l

module _ (w : Words) (m : List ℕ) (matched : ℕ → Bool) (seats : ℕ) where
  keys_none : (g : Field) → w g ≡ keys_words w m matched seats 0 g
  unfolding keys_words key_after
  keys_none (head x) = refl
  keys_none (seat q (publishers c)) = refl
  keys_none (seat q (total_delegation x)) = refl
  keys_none (seat q (delta_delegation x)) = refl
  keys_none (seat q (publisher_stake_accounts x)) = refl
  keys_none (seat q num_slash_events) = refl
  keys_none (seat q delegation_fees) = refl
  keys_none (slot t x) = refl
  keys_none (share t q x) = refl

  module _ (j place : ℕ) (b : Bool) (eb : b ≡ matched j) (ep : place ≡ seats + (j - count_below j matched)) where
    keys_more : (P E : ℕ) (v : Words) → ((f : Field) → InRange P E f → v f ≡ keys_words w m matched seats j f) → (g : Field) → InRange P E g
        → row_words v m j place b g ≡ keys_words w m matched seats (j + 1) g
    unfolding row_words keys_words key_after
    keys_more P E v has (head x) r = has (head x) r
    keys_more P E v has (seat q (publishers c)) r =
        rw (add-one j, eb, ep) (ap (λ (u : ℕ). if not (matched j) && eqb q (seats + (j - count_below j matched)) then key_word m j c else u)
        (has (seat q (publishers c)) r))
    keys_more P E v has (seat q (total_delegation x)) r = has (seat q (total_delegation x)) r
    keys_more P E v has (seat q (delta_delegation x)) r = has (seat q (delta_delegation x)) r
    keys_more P E v has (seat q (publisher_stake_accounts x)) r = has (seat q (publisher_stake_accounts x)) r
    keys_more P E v has (seat q num_slash_events) r = has (seat q num_slash_events) r
    keys_more P E v has (seat q delegation_fees) r = has (seat q delegation_fees) r
    keys_more P E v has (slot t x) r = has (slot t x) r
    keys_more P E v has (share t q x) r = has (share t q x) r

-- ---- all rows

module _ (P E : ℕ) (w : Words) (m : List ℕ) (matched : ℕ → Bool) (seats : ℕ) where
  abbrev pairs : ℕ → List (ℕ × ℕ)
  pairs n = zip (range_with_len seats (P - seats)) (unmatched matched n)

  pairs_more : (n : ℕ) → matched n ≡ false
      → pairs (suc n) ≡ pairs n ++ (if ltb (length (unmatched matched n)) (P - seats) then (seats + length (unmatched matched n), n) ∷ [] else [])
  pairs_more n e =
      ap (λ (l : List ℕ). zip (range_with_len seats (P - seats)) l)
      (unmatched_more matched n ∙ ap (λ (b : Bool). unmatched matched n ++ (if b then [] else n ∷ [])) e)
      ∙ zip_more seats (P - seats) (unmatched matched n) n

  pairs_same : (n : ℕ) → matched n ≡ true → pairs (suc n) ≡ pairs n
  pairs_same n e =
      ap (λ (l : List ℕ). zip (range_with_len seats (P - seats)) l)
      (unmatched_more matched n ∙ ap (λ (b : Bool). unmatched matched n ++ (if b then [] else n ∷ [])) e ∙ append-nil (unmatched matched n))

  module _ (n : ℕ) (g : Field) (r : InRange P E g) where
    abbrev before : Words
    before = paired_words w m (pairs n)

    abbrev place : ℕ
    place = seats + length (unmatched matched n)

    seat_done : matched n ≡ false → (b : Bool) → ltb (length (unmatched matched n)) (P - seats) ≡ b
        → paired_words w m (pairs (suc n)) g ≡ row_words before m n place (matched n) g
    seat_done e true q =
        ap (λ (l : List (ℕ × ℕ)). paired_words w m l g) (pairs_more n e ∙ ap (λ (t : Bool). pairs n ++ (if t then (place, n) ∷ [] else [])) q)
        ∙ ap (λ (v : Words). v g) (fold-append _ w (pairs n) _) ∙ row_seated P E before m n place (matched n) (row_of m n) e refl g r
    seat_done e false q =
        ap (λ (l : List (ℕ × ℕ)). paired_words w m l g)
        (pairs_more n e ∙ ap (λ (t : Bool). pairs n ++ (if t then (place, n) ∷ [] else [])) q ∙ append-nil (pairs n))
        ∙ row_full P E before m n place (matched n) e (let z = ltb-false _ _ q in omega arith) g r

    pair_done : (b : Bool) → matched n ≡ b → paired_words w m (pairs (suc n)) g ≡ row_words before m n place (matched n) g
    pair_done true e = ap (λ (l : List (ℕ × ℕ)). paired_words w m l g) (pairs_same n e) ∙ row_matched P E before m n place (matched n) e g r
    pair_done false e = seat_done e (ltb (length (unmatched matched n)) (P - seats)) refl

  pub pairs_done : (n : ℕ) (g : Field) → InRange P E g → paired_words w m (pairs n) g ≡ keys_words w m matched seats n g
  pairs_done zero g r = ap (λ (l : List (ℕ × ℕ)). paired_words w m l g) (zip_nil (range_with_len seats (P - seats))) ∙ keys_none w m matched seats g
  pairs_done (suc n) g r =
      pair_done n g r (matched n) refl
      ∙ keys_more w m matched seats n (seats + length (unmatched matched n)) (matched n) refl (ap (λ (i : ℕ). seats + i) (unmatched_long matched n)) P E
      (paired_words w m (pairs n)) (pairs_done n) g r
      ∙ ap (λ (i : ℕ). keys_words w m matched seats i g) (add-one n)

-- each pair is of a seat and a row
filtered_in : (test : ℕ → Bool) (a n i d : ℕ) → i < length (filter test (range_with_len a n)) → get_or (filter test (range_with_len a n)) i d < a + n
filtered_in test a zero i d l = absurd (omega arith)
filtered_in test a (suc n) i d l = go (test a) i l (λ j h. filtered_in test (a + 1) n j d h)
  where
    go : (b : Bool) (i : ℕ) → i < length (cond b (a ∷ filter test (range_with_len (a + 1) n)) (filter test (range_with_len (a + 1) n)))
        → ((j : ℕ) → j < length (filter test (range_with_len (a + 1) n)) → get_or (filter test (range_with_len (a + 1) n)) j d < a + 1 + n)
        → get_or (cond b (a ∷ filter test (range_with_len (a + 1) n)) (filter test (range_with_len (a + 1) n))) i d < a + suc n
    go true zero l h = omega arith
    go true (suc i) l h = omega (arith, h i (omega arith))
    go false i l h = omega (arith, h i l)

zipped_in : (a k rows : ℕ) (ys : List ℕ) → ((i d : ℕ) → i < length ys → get_or ys i d < rows) → (i : ℕ) (d : ℕ × ℕ) → i < length (zip (range_with_len a k) ys)
    → ((get_or (zip (range_with_len a k) ys) i d).0 < a + k) × ((get_or (zip (range_with_len a k) ys) i d).1 < rows)
zipped_in a zero rows ys h i d l = absurd (omega arith)
zipped_in a (suc k) rows [] h i d l = absurd (omega arith)
zipped_in a (suc k) rows (y ∷ ys) h zero d l = (omega arith, h 0 0 (omega arith))
zipped_in a (suc k) rows (y ∷ ys) h (suc i) d l =
    let z = zipped_in (a + 1) k rows ys (λ i d l. h (suc i) d (omega arith)) i d (omega arith) in
    (omega (arith, z.0), z.1)

pub pair_in : (seats P rows : ℕ) (matched : ℕ → Bool) (i : ℕ) (x : ℕ × ℕ) → i < length (zip (range_with_len seats (P - seats)) (unmatched matched rows))
    → x ≡ get_or (zip (range_with_len seats (P - seats)) (unmatched matched rows)) i x → seats ≤ P → (x.0 < P) × (x.1 < rows)
pair_in seats P rows matched i x l e s =
    let z = zipped_in seats (P - seats) rows (unmatched matched rows) (λ i d h. omega (arith, filtered_in (λ j. not (matched j)) 0 rows i d h)) i x l in
    (omega (arith, z.0, ap (λ (v : ℕ × ℕ). v.0) e), omega (arith, z.1, ap (λ (v : ℕ × ℕ). v.1) e))

-- what the rows and the seats come to as an iterator
abbrev counts : Range ℕ → Option ℕ → Range ℕ → Type 0
counts = range_steps (λ (a b : ℕ). b - a) (λ (a b : ℕ). b ≡ a + 1)

pub rows_road : {F : Type 0} {s z : Zip (Range ℕ) (Filter (Range ℕ) F)} {u : Filter (Range ℕ) F} (g : Mut F (Bor ℕ × Unit {0}) Bool) {f : F} (seats P rows : ℕ)
    (matched : ℕ → Bool) → s ≡ z → zip_first z ≡ record { start = seats; end = P } → zip_second z ≡ u → filter_source u ≡ record { start = 0; end = rows }
    → filter_callee u ≡ f → ((x : ℕ) (b : Bool) (q : F) → CalledAt g f x b q → (q ≡ f) × (b ≡ not (matched x)))
    → YieldsList (zip_steps counts (filter_steps counts g)) (λ p. (p.0, p.1)) s (zip (range_with_len seats (P - seats)) (unmatched matched rows))
rows_road g seats P rows matched e e1 e2 es ec h =
    YieldsList-at e (
    YieldsList-from_zip (YieldsList-at e1 (YieldsList-from_range seats P (P - seats) refl refl))
    (YieldsList-at e2 (YieldsList-from_filter g (λ j. not (matched j)) (YieldsList-from_range 0 rows rows es (omega arith)) ec h))
    )

-- of the item r that a `for` over the pairs gives next, when it has given xs: none, and each row has its seat, or a pair of a seat and a row
pub record RowTurn (seats P rows : ℕ) (matched : ℕ → Bool) (xs : List (ℕ × ℕ)) (r : Option (ℕ × ℕ)) : Type 0 where
  pub ended : r ≡ None → (E : ℕ) (w : Words) (m : List ℕ) (g : Field) → InRange P E g → paired_words w m xs g ≡ keys_words w m matched seats rows g
  pub within : {x : ℕ × ℕ} → r ≡ Some x → (x.0 < P) × (x.1 < rows)

pub row_turn : {S : Type 0} {steps : S → Option (ℕ × ℕ) → S → Type 0} {s t u : S} {seats P rows : ℕ} {matched : ℕ → Bool} {xs : List (ℕ × ℕ)}
    {r : Option (ℕ × ℕ)} → YieldsList steps (λ p. (p.0, p.1)) s (zip (range_with_len seats (P - seats)) (unmatched matched rows)) → seats ≤ P
    → Yields steps s xs t → steps t r u → RowTurn seats P rows matched xs r
row_turn {P = P} {xs = xs} e l y p = record {
  ended = λ q E w m g i. ap (λ (a : List (ℕ × ℕ)). paired_words w m a g) (sym (map-id xs) ∙ (YieldsList-end e xs _ y _ _ q p).0)
      ∙ pairs_done P E w m _ _ _ g i;
  within = λ q. let k = YieldsList-turn e xs _ y _ _ _ q p in pair_in _ _ _ _ _ _ k.0 k.1 l;
}

-- ---- the same of a pool

publisher_same : (v u : Words) (s : ℕ) (key : Key) (g : Field) → v g ≡ u g → with_publisher v s key g ≡ with_publisher u s key g
unfolding with_publisher
publisher_same v u s key (head x) e = e
publisher_same v u s key (seat q (publishers c)) e = ap (λ (x : ℕ). if eqb q s then word_of key c else x) e
publisher_same v u s key (seat q (total_delegation x)) e = e
publisher_same v u s key (seat q (delta_delegation x)) e = e
publisher_same v u s key (seat q (publisher_stake_accounts x)) e = e
publisher_same v u s key (seat q num_slash_events) e = e
publisher_same v u s key (seat q delegation_fees) e = e
publisher_same v u s key (slot t x) e = e
publisher_same v u s key (share t q x) e = e

module _ (pool : PoolDataMut) (m : List ℕ) where
  pub pairs_go : (at next : PoolDataMut) (l : List (ℕ × ℕ)) (place j : ℕ) (key : Key) → Becomes pool at (paired_words (words_in pool) m l)
      → key ≡ (row_of m j).pubkey
      → Becomes at next (with_publisher (words_in at) place key) → Becomes pool next (paired_words (words_in pool) m (l ++ (place, j) ∷ []))
  pairs_go at next l place j key x e y = becomes_next pool at next _ _ _ x y (λ f r.
      publisher_same _ _ place key f (becomes_reads pool at _ x f r) ∙ ap (λ (k : Key). with_publisher (paired_words (words_in pool) m l) place k f) e
      ∙ ap (λ (v : Words). v f) (sym (fold-append _ (words_in pool) l _)))
