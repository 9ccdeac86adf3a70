use Rattle.std.proofs.Common.{◌≡◌, length}
use Rattle.image.specs.Pool.{words_of}
use Rattle.advance_plan.specs.Rows.{Matched}
use Rattle.advance_plan.proofs.rows.match_by.Given as goal

abbrev pub invariant-loop-s : goal.invariant-loop-s
invariant-loop-s g l = record {
  caps_long : length l.table.caps ≡ g.row.P;
  marks_long : length l.marks.words ≡ 16;
  first : l.table.first_shares ≡ l.initial.table.first_shares;
  later : l.table.later_shares ≡ l.initial.table.later_shares;
  matched : Matched (words_of l.pool) l.caps.message.now l.s l.table.caps l.marks.words;
}
