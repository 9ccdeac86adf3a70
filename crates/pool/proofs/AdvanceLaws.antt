-- An advance from its plan. Assumes nothing.
use mathlib.Core.Path.{◌≡◌, ap, ◌∙◌}
use mathlib.Core.Bool.{false}
use mathlib.Core.List.{List}
use Prim.Native.Nat.{ℕ, ◌-◌, ◌≤◌}
use Rattle.std.specs.Prelude.{Ok}
use Rattle.types.specs.Base.{Outcome, accepted, map_outcome}
use Rattle.types.specs.BoolArray.{marked_rows}
use Rattle.publisher_caps.specs.Message.{rows_of, Whole}
use Rattle.image.specs.declared.pool_data.PoolDataMut.{PoolDataMut}
use Rattle.image.specs.Layout.{Words, image}
use Rattle.image.specs.Pool.{words_in, Becomes}
use Rattle.image.proofs.SeatLaws.{seats_le}
use Rattle.advance_plan.specs.declared.Given.{Given}
use Rattle.advance_plan.specs.declared.plan.AdvancePlan.{AdvancePlan}
use Rattle.advance_plan.specs.declared.rows.RowCounts.{RowCounts}
use Rattle.advance_plan.specs.declared.table.SeatTable.{SeatTable}
use Rattle.advance_plan.specs.Advance.{Advanced, advanced_words, answer_with, advance_of}
use Rattle.advance_plan.specs.Rows.{counts_of}
use Rattle.advance_plan.specs.Plan.{Worked, planned_as, planned_of}
use Rattle.advance_plan.proofs.RowLaws.{counts_answer}
use Rattle.advance_plan.proofs.PlanLaws.{plan_advances}
use Rattle.pool.specs.Answers.{image_after, AdvancesAs}

-- the seats of a plan are the pool's
pub seats_in : {Q P : ℕ} {w : Words} {m : List ℕ} {plan : AdvancePlan} {t : SeatTable Q} {epoch : ℕ} → Worked P w m plan t epoch → plan.seats ≤ P
seats_in z = let q = z.seats_is in rw q (seats_le _ _)

-- ---- an advance

module _ (pool : PoolDataMut) (m : List ℕ) (g : Given) where
  abbrev leaves : Outcome Advanced → List ℕ
  leaves o = image_after pool.p pool.e pool.words.now m g o

  pub advance_done : {Q : ℕ} (plan : AdvancePlan) (t : SeatTable Q) (z : Worked pool.p (words_in pool) m plan t g.current_epoch) (whole : Whole m)
      → accepted (planned_as plan) ≡ planned_of false pool.p (words_in pool) m g
      → (c : RowCounts) → c ≡ counts_of (marked_rows plan.marks.words) (rows_of m) (pool.p - plan.seats) → (new : PoolDataMut)
      → Becomes pool new (advanced_words pool.p pool.e (words_in pool) m g.current_epoch plan.y.0 plan.set_aside.0)
      → AdvancesAs pool new m g (Ok (record { y = plan.y; set_aside = plan.set_aside; matched = c.matched; seated = c.seated; dropped = c.dropped }))
  unfolding image_after answer_with
  advance_done plan t z whole e c q new w =
      let h = ap (map_outcome (answer_with pool.p (words_in pool) m)) e ∙ plan_advances pool.p (words_in pool) m g in
      let n : accepted (answer_with pool.p (words_in pool) m (planned_as plan)) ≡ advance_of pool.p (words_in pool) m g = h in
      record {
        answer = ap accepted (counts_answer z whole c q (planned_as plan)) ∙ n;
        same_loan = w.same_loan;
        p = w.p;
        e = w.e;
        image = w.words ∙ done n;
      }
    where
      done : accepted (answer_with pool.p (words_in pool) m (planned_as plan)) ≡ advance_of pool.p (words_in pool) m g
          → image pool.p pool.e (advanced_words pool.p pool.e (words_in pool) m g.current_epoch plan.y.0 plan.set_aside.0)
          ≡ leaves (advance_of pool.p (words_in pool) m g)
      done n = ap leaves n
