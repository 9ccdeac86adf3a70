-- Matching the rows with the seats, seat by seat, and the counts of the rows. Assumes nothing.
use Rattle.std.proofs.Common.{◌≡◌, ℕ, zero, suc, ◌+◌, ◌-◌, ◌<◌, ◌≤◌, Bool, true, false, ◌||◌, eqb, ltb, List, length, set}
use Rattle.std.proofs.Common.{replicate, sym, refl, ap, ◌∙◌, add-zero, add-suc, add-one, arith, length-set, eq-eqb, ne_eqb}
use native.Mathlib.Decide.{ℕ_discrete}
use Rattle.std.specs.Prelude.{Option, Some, None, if◌then◌else◌}
use Rattle.types.specs.Base.{any_below, count_below}
use Rattle.types.specs.BoolArray.{marked, with_mark, marked_rows}
use Rattle.types.proofs.Below.{count_more, count_same, count_le}
use Rattle.types.proofs.BoolArrayLaws.{mark_same, mark_other, mark_none}
use Rattle.positions.specs.declared.Key.{Key}
use Rattle.publisher_caps.specs.Key.{number_of}
use Rattle.publisher_caps.specs.Message.{rows_of, key_at, Whole}
use Rattle.publisher_caps.specs.Lookup.{lookup, cap_in, cap_of}
use Rattle.publisher_caps.proofs.LookupLaws.{Sought, lookup_says, rows_same, cap_found}
use Rattle.event.specs.Adjust.{Adjustment}
use Rattle.image.specs.Layout.{Words}
use Rattle.image.specs.Seats.{publisher_at}
use Rattle.advance_plan.specs.declared.rows.RowCounts.{RowCounts}
use Rattle.advance_plan.specs.Advance.{key_number, seat_cap, matched_row, matched_rows, answer_with}
use Rattle.advance_plan.specs.declared.plan.AdvancePlan.{AdvancePlan}
use Rattle.advance_plan.specs.declared.table.SeatTable.{SeatTable}
use Rattle.advance_plan.specs.Rows.{Matched, counts_of}
use Rattle.advance_plan.specs.Plan.{Worked}
use Rattle.advance_plan.proofs.StakeLaws.{list_more}

-- ---- the marks with a row that was found

abbrev pub with_found : List ℕ → Option ℕ → List ℕ
with_found words (Some i) = with_mark words i
with_found words None = words

pub length_with : (words : List ℕ) (r : Option ℕ) → length (with_found words r) ≡ length words
unfolding with_mark
length_with words (Some i) = go (ltb i 1_024) _ _
  where
    go : (b : Bool) (j v : ℕ) → length (if b then set words j v else words) ≡ length words
    go true j v = length-set words j v
    go false j v = refl
length_with words None = refl

-- ---- the loop over the seats

pub matched_none : (w : Words) (m caps words : List ℕ) → words ≡ replicate 16 0 → Matched w m 0 caps words
unfolding matched_row any_below
matched_none w m caps words e = record {
  cap = λ s l. absurd (omega arith);
  mark = λ j l. rw e (mark_none j);
  rest = λ j l. rw e (mark_none j);
}

or_true : (a : Bool) → (a || true) ≡ true
or_true true = refl
or_true false = refl

or_false : (a : Bool) → (a || false) ≡ a
or_false true = refl
or_false false = refl

module _ (w : Words) (m : List ℕ) (s : ℕ) (caps words : List ℕ) (h : Matched w m s caps words) (whole : Whole m) (many : length words ≡ 16)
    (k : ℕ) (ek : k ≡ key_number w s)
  where
    -- the seat's key is row j's, or not
    hit : (j : ℕ) → key_at m j ≡ k → matched_row w m (s + 1) j ≡ true
    unfolding matched_row any_below
    hit j e = rw (add-one s, eq-eqb (key_number w s) (key_at m j) (sym ek ∙ sym e)) (or_true (any_below s (λ i. eqb (key_number w i) (key_at m j))))

    miss : (j : ℕ) → (key_at m j ≡ k → ⊥) → matched_row w m (s + 1) j ≡ matched_row w m s j
    unfolding matched_row any_below
    miss j ne =
        rw (add-one s, ne_eqb (key_number w s) (key_at m j) (λ e. ne (sym e ∙ sym ek))) (or_false (any_below s (λ i. eqb (key_number w i) (key_at m j))))

    marks_more : (r : Option ℕ) → Sought m k 0 (rows_of m) r → (j : ℕ) → j < rows_of m → marked (with_found words r) j ≡ matched_row w m (s + 1) j
    marks_more (Some i) so j lj = go (ℕ_discrete j i)
      where
        go : Dec (j ≡ i) → marked (with_mark words i) j ≡ matched_row w m (s + 1) j
        go (yes e) = rw (e, hit i so.2) (mark_same words i (omega (arith, whole.few)) (omega (arith, whole.few)))
        go (no ne) =
            let apart : key_at m j ≡ k → ⊥ = λ e. ne (rows_same m whole j i lj (omega arith) (e ∙ sym so.2)) in
            rw (miss j apart) (mark_other words i (omega (arith, whole.few)) (omega (arith, whole.few)) j ne ∙ h.mark j lj)
    marks_more None so j lj = rw (miss j (λ e. so j (omega arith) (omega arith) e)) (h.mark j lj)

    rest_more : (r : Option ℕ) → Sought m k 0 (rows_of m) r → (j : ℕ) → rows_of m ≤ j → marked (with_found words r) j ≡ false
    rest_more (Some i) so j l = mark_other words i (omega (arith, whole.few)) (omega (arith, whole.few)) j (λ e. omega arith) ∙ h.rest j l
    rest_more None so j l = h.rest j l

    cap_is : (r : Option ℕ) → r ≡ lookup m k 0 (rows_of m) → cap_in m r ≡ seat_cap w m s
    unfolding seat_cap
    cap_is r e = cap_found m (rows_of m) k r e ∙ ap (cap_of m (rows_of m)) ek

    pub matched_more : (r : Option ℕ) (rows : ℕ) → rows ≡ rows_of m → r ≡ lookup m k 0 rows → (words' : List ℕ) → words' ≡ with_found words r
        → (v : ℕ) → v ≡ cap_in m r → s < length caps → Matched w m (s + 1) (set caps s v) words'
    matched_more r rows er lk words' ew v ev lt =
        let found : r ≡ lookup m k 0 (rows_of m) = rw er at lk in
        let so = lookup_says m k (rows_of m) r found in
        record {
          cap = list_more 0 (seat_cap w m) caps s v h.cap lt (ev ∙ cap_is r found);
          mark = λ j l. rw ew (marks_more r so j l);
          rest = λ j l. rw ew (rest_more r so j l);
        }

pub key_is : (w : Words) (s : ℕ) (key : Key) → key ≡ publisher_at w s → number_of key ≡ key_number w s
unfolding key_number
key_is w s key e = ap number_of e

-- ---- the counts

-- numbers that a test does not hold of add nothing
rest_none : (f : ℕ → Bool) (rows d : ℕ) → ((j : ℕ) → rows ≤ j → f j ≡ false) → count_below (rows + d) f ≡ count_below rows f
rest_none f rows zero h = ap (λ (n : ℕ). count_below n f) (add-zero rows)
rest_none f rows (suc d) h = rw (add-suc rows d, count_more f (rows + d), h (rows + d) (omega arith)) (let r = rest_none f rows d h in omega arith)

-- the marks' counts are those of the answer
module _ {Q P : ℕ} {w : Words} {m : List ℕ} {plan : AdvancePlan} {t : SeatTable Q} {epoch : ℕ} (z : Worked P w m plan t epoch) (whole : Whole m) where
  marked_rows_law : marked_rows plan.marks.words ≡ count_below (rows_of m) (matched_row w m plan.seats)
  marked_rows_law =
      let few : rows_of m ≤ 1_024 = whole.few in
      ap (λ (n : ℕ). count_below n (marked plan.marks.words)) (omega arith) ∙ rest_none (marked plan.marks.words) (rows_of m) (1_024 - rows_of m) z.unmarked
      ∙ count_same (marked plan.marks.words) (matched_row w m plan.seats) (rows_of m) z.marks

  pub marked_are : marked_rows plan.marks.words ≡ matched_rows P w m
  unfolding matched_rows
  marked_are = marked_rows_law ∙ ap (λ (q : ℕ). count_below (rows_of m) (matched_row w m q)) z.seats_is

  pub marked_le : marked_rows plan.marks.words ≤ rows_of m
  marked_le = omega (arith, marked_rows_law, count_le (matched_row w m plan.seats) (rows_of m))

  pub counts_answer : (c : RowCounts) → c ≡ counts_of (marked_rows plan.marks.words) (rows_of m) (P - plan.seats) → (a : Adjustment)
      → record { y = a.y; set_aside = a.set_aside; matched = c.matched; seated = c.seated; dropped = c.dropped } ≡ answer_with P w m a
  unfolding counts_of answer_with
  counts_answer c e a = rw (e, marked_are, ← z.seats_is)
