-- What matching the rows with the seats comes to. Assumes nothing.
use Rattle.std.specs.Prelude.{◌≡◌, ℕ, ◌-◌, ◌<◌, ◌≤◌, min, false, List, slice_index}
use Rattle.types.specs.BoolArray.{marked}
use Rattle.publisher_caps.specs.Message.{rows_of}
use Rattle.image.specs.Layout.{Words}
use Rattle.advance_plan.specs.declared.rows.RowCounts.{RowCounts}
use Rattle.advance_plan.specs.Advance.{seat_cap, matched_row}

-- the caps and the marks of the first seats' keys; marks beyond the message's rows stay unset
pub record Matched (w : Words) (m : List ℕ) (seats : ℕ) (caps words : List ℕ) : Type 0 where
  pub cap : (s : ℕ) → s < seats → slice_index caps s ≡ seat_cap w m s
  pub mark : (j : ℕ) → j < rows_of m → marked words j ≡ matched_row w m seats j
  pub rest : (j : ℕ) → rows_of m ≤ j → marked words j ≡ false

-- the counts of an advance's answer, where `left` seats are left
unfoldable pub counts_of : (matched rows left : ℕ) → RowCounts
counts_of matched rows left = record { matched = matched; seated = min (rows - matched) left; dropped = rows - matched - left }
