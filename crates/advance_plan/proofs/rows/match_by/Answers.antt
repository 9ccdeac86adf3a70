use Rattle.std.proofs.Common.{◌≡◌, ◌≤◌, ◌<◌, length, sym, ap, ◌∙◌, arith, length-set}
use Rattle.types.specs.declared.bool_array.BoolArray.{BoolArray}
use Rattle.publisher_caps.proofs.LookupLaws.{lookup_in}
use Rattle.image.specs.Pool.{words_of}
use Rattle.advance_plan.proofs.RowLaws.{with_found, matched_more, key_is, length_with}
use Rattle.advance_plan.proofs.rows.match_by.Goals as goal
use Rattle.advance_plan.proofs.rows.match_by.Goals.{in-Some, in_default}

pub cap-requires : goal.cap-requires
cap-requires g c =
    let same : c.match-found.found ≡ c.find-found.result =
    elim c.match-found.branch [ in-Some w ↦ w.found-is ∙ sym w.in-Some.is | in_default w ↦ w.found-is ] in
    lookup_in c.args.caps.message.now _ c.args.caps.rows c.match-found.found (same ∙ c.find-found.ensures)

pub loop-s-preserved : goal.loop-s-preserved
loop-s-preserved g c =
    let at = c.loop-s in
    let same : c.match-found.found ≡ c.find-found.result =
    elim c.match-found.branch [ in-Some w ↦ w.found-is ∙ sym w.in-Some.is | in_default w ↦ w.found-is ] in
    let marked : c.match-found.marks.words ≡ with_found at.marks.words c.match-found.found =
    elim c.match-found.branch [
      | in-Some w ↦ ap (λ (x : BoolArray). x.words) w.marks-is ∙ w.set.ensures ∙ ap (with_found at.marks.words) (sym w.found-is)
      | in_default w ↦ ap (λ (x : BoolArray). x.words) w.marks-is ∙ ap (with_found at.marks.words) (sym (w.found-is ∙ w.in_default.is))
    ]
    in
    let within : at.s < c.args.seats = c.loop-s-test.true in
    let room : c.args.pool.p ≤ g.row.P = c.requires.room in
    let seats : c.args.seats ≤ c.args.pool.p = c.requires.seats in
    let long : length at.table.caps ≡ g.row.P = at.invariant.caps_long in
    record {
      caps_long = simp length-set long;
      marks_long = ap length marked ∙ length_with at.marks.words c.match-found.found ∙ at.invariant.marks_long;
      first = at.invariant.first;
      later = at.invariant.later;
      matched = matched_more (words_of c.args.pool) c.args.caps.message.now at.s _ _ at.invariant.matched c.args.caps.whole at.invariant.marks_long
          _ (key_is _ _ _ c.publisher.ensures) c.match-found.found _ c.args.caps.counted (same ∙ c.find-found.ensures) _ marked _ c.cap.ensures (omega arith);
    }
