-- What the contracts here fix: any two results of the same inputs are the same, or agree in all that may be read. Assumes nothing.
use Rattle.std.proofs.Common.{◌≡◌, ℕ, ◌<◌, ◌≤◌, Bool, true, false, ltb, List, [], get_or, sym, refl, ap, ◌∙◌, ltb-false, ltb-true}
use Rattle.types.specs.Base.{word}
use Rattle.types.specs.BoolArray.{marked}
use Rattle.types.proofs.Fixed.{wide_of_fixes, MarkWords, marks_fix}
use Rattle.publisher_caps.specs.Message.{rows_of}
use Rattle.event.specs.Adjust.{Adjustment}
use Rattle.image.specs.Layout.{Words}
use Rattle.advance_plan.specs.declared.stake.EligibleSums.{EligibleSums}
use Rattle.advance_plan.specs.declared.plan.AdvancePlan.{AdvancePlan}
use Rattle.advance_plan.specs.declared.table.SeatTable.{SeatTable}
use Rattle.advance_plan.specs.Rows.{Matched}
use Rattle.advance_plan.specs.Stake.{Sums, sums_as, Shared, Tabled, Capped}
use Rattle.advance_plan.specs.Plan.{planned_as, Worked}

-- ---- views

-- two sums of words with the same numbers are the same
pub sums_as_fixes : (a b : EligibleSums) → a.first.lo < word → a.later.lo < word → b.first.lo < word → b.later.lo < word → sums_as a ≡ sums_as b → a ≡ b
sums_as_fixes a b la ma lb mb e =
    let first = wide_of_fixes a.first b.first la lb (ap (λ (x : Sums). x.first) e) in
    let later = wide_of_fixes a.later b.later ma mb (ap (λ (x : Sums). x.later) e) in
    λ i. record { first = first i; later = later i }

-- ---- what two results agree in

-- the caps of the first seats
abbrev pub SameCaps : (seats : ℕ) → List ℕ → List ℕ → Type 0
SameCaps seats a b = (s : ℕ) → s < seats → get_or a s 0 ≡ get_or b s 0

-- the ratios and the fee of each of the first seats
abbrev pub SameShares : (seats : ℕ) → (a b : List (List ℕ)) → Type 0
SameShares seats a b = (s : ℕ) → s < seats → get_or a s [] ≡ get_or b s []

pub record SameTables {P : ℕ} (seats : ℕ) (t u : SeatTable P) : Type 0 where
  pub first : SameShares seats t.first_shares u.first_shares
  pub later : SameShares seats t.later_shares u.later_shares

shared_same : {w : Words} {cap : ℕ → ℕ} {k seats : ℕ} {a b : List (List ℕ)} → Shared w cap k seats a → Shared w cap k seats b → SameShares seats a b
shared_same x y s l = x.share s l ∙ sym (y.share s l)

-- marks that are told below a number of rows, and are none from there on
marks_same : (rows : ℕ) (f : ℕ → Bool) (a b : List ℕ) → MarkWords a → MarkWords b
    → ((j : ℕ) → j < rows → marked a j ≡ f j) → ((j : ℕ) → j < rows → marked b j ≡ f j)
    → ((j : ℕ) → rows ≤ j → marked a j ≡ false) → ((j : ℕ) → rows ≤ j → marked b j ≡ false) → a ≡ b
marks_same rows f a b ma mb xa xb ra rb = marks_fix a b ma mb (λ j. go j (ltb j rows) refl)
  where
    go : (j : ℕ) (t : Bool) → ltb j rows ≡ t → marked a j ≡ marked b j
    go j true q = xa j (ltb-true j rows q) ∙ sym (xb j (ltb-true j rows q))
    go j false q = ra j (ltb-false j rows q) ∙ sym (rb j (ltb-false j rows q))

-- ---- relations

-- the caps of the seats, and all marks; caps behind the seats are open
pub matched_fixes : (w : Words) (m : List ℕ) (seats : ℕ) (caps words caps' words' : List ℕ) → MarkWords words → MarkWords words'
    → Matched w m seats caps words → Matched w m seats caps' words' → SameCaps seats caps caps' × (words ≡ words')
matched_fixes w m seats caps words caps' words' ma mb x y =
    (λ s l. x.cap s l ∙ sym (y.cap s l), marks_same (rows_of m) _ words words' ma mb x.mark y.mark x.rest y.rest)

-- the seats' words of both lists; words behind them are open
pub tabled_fixes : {P : ℕ} (w : Words) (cap : ℕ → ℕ) (seats : ℕ) (t u : SeatTable P) → Tabled w cap seats t → Tabled w cap seats u → SameTables seats t u
tabled_fixes w cap seats t u x y = record { first = shared_same x.first y.first; later = shared_same x.later y.later }

-- the caps of the seats; others are open
pub capped_fixes : (w : Words) (m : List ℕ) (seats : ℕ) (caps caps' : List ℕ) → Capped w m seats caps → Capped w m seats caps' → SameCaps seats caps caps'
capped_fixes w m seats caps caps' x y s l = x.cap s l ∙ sym (y.cap s l)

-- with the figures, which have an equation of their own, the whole plan, and the seats' words of both lists
pub worked_fixes : {Q : ℕ} (P : ℕ) (w : Words) (m : List ℕ) (epoch : ℕ) (t u : SeatTable Q) (a b : AdvancePlan)
    → MarkWords a.marks.words → MarkWords b.marks.words → planned_as a ≡ planned_as b
    → Worked P w m a t epoch → Worked P w m b u epoch → (a ≡ b) × SameTables a.seats t u
worked_fixes P w m epoch t u a b ma mb e x y = (whole, tables)
  where
    seats : a.seats ≡ b.seats
    seats = x.seats_is ∙ sym y.seats_is

    tables : SameTables a.seats t u
    tables = tabled_fixes w _ a.seats t u x.table (rw seats y.table)

    whole : a ≡ b
    whole =
        let amount = ap (λ (v : Adjustment). v.y) e in
        let aside = ap (λ (v : Adjustment). v.set_aside) e in
        let marks = marks_same (rows_of m) _ a.marks.words b.marks.words ma mb x.marks (rw seats y.marks) x.unmarked y.unmarked in
        λ i. record { y = record { 0 = amount i }; set_aside = record { 0 = aside i }; seats = seats i; marks = record { words = marks i } }
