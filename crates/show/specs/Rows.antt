-- What the table counts and shows. Assumes nothing.
use Rattle.std.specs.Prelude.{not, List, [], ◌∷◌, ◌++◌, codes, ℕ, ◌+◌, ◌*◌, ◌%◌}
use Rattle.std.specs.List.{concat}
use Rattle.std.specs.Fmt.{decimal, signed_decimal}
use Rattle.types.specs.Base.{count_below}
use Rattle.image.specs.Layout.{Words, self, other, num_slash_events, delegation_fees, event_epoch, event_y, seat, slot}
use Rattle.image.specs.Seats.{empty_seat, publisher_at, stake_account_at, side_at}
use Rattle.show.specs.Cells.{to_right, signed_of, short_text}
use Rattle.delegation.specs.declared.DelegationState.{DelegationState}
use Rattle.show.specs.declared.seats.SeatRow.{SeatRow}
use Rattle.show.specs.declared.events.EventRow.{EventRow}

-- the seats that have a publisher, those behind an empty one too
unfoldable pub occupied_seats : (P : ℕ) → Words → ℕ
occupied_seats P w = count_below P (λ s. not (empty_seat w s))

-- the lines behind the first: four on the pool, two headings, two for each seat, one for each event
abbrev pub lines_of : (seats events : ℕ) → ℕ
lines_of seats events = 6 + 2 * seats + events

-- what is shown of seat s
abbrev pub seat_row : Words → (s : ℕ) → SeatRow
seat_row w s = record {
  seat = s;
  publisher = publisher_at w s;
  self_side = side_at w s self;
  other_side = side_at w s other;
  fee = w (seat s delegation_fees);
  slash_events = w (seat s num_slash_events);
  stake_account = stake_account_at w s;
}

-- what is shown of event k, which stands in slot k mod E
abbrev pub event_row : (E : ℕ) → Words → (k : ℕ) → EventRow
event_row E w k = record { event = k; slot = k % E; epoch = w (slot (k % E) event_epoch); y = w (slot (k % E) event_y) }

-- an event's line
unfoldable pub event_line : EventRow → List ℕ
event_line row =
    concat
    (codes "  "
    ∷ to_right 20 (decimal row.event)
    ∷ codes "  "
    ∷ to_right 20 (decimal row.slot)
    ∷ codes "  "
    ∷ to_right 20 (decimal row.epoch)
    ∷ codes "  "
    ∷ to_right 20 (decimal row.y)
    ∷ codes "\n"
    ∷ [])

-- a side's figures: its total and its change
unfoldable pub side_text : DelegationState → List ℕ
side_text side = to_right 20 (decimal side.total_delegation.0) ++ (32 ∷ 32 ∷ to_right 20 (signed_decimal (signed_of side.delta_delegation)))

-- what a seat's first line says behind its side: its fee, its slash events and its stake account
unfoldable pub terms_text : SeatRow → List ℕ
terms_text row =
    to_right 7 (decimal row.fee) ++ (32 ∷ 32 ∷ (to_right 12 (decimal row.slash_events) ++ (32 ∷ 32 ∷ short_text row.stake_account)))

-- a seat's two lines
unfoldable pub seat_lines : SeatRow → List ℕ
seat_lines row =
    concat
    (codes "  "
    ∷ to_right 4 (decimal row.seat)
    ∷ codes "  "
    ∷ short_text row.publisher
    ∷ codes "  self   "
    ∷ side_text row.self_side
    ∷ codes "  "
    ∷ terms_text row
    ∷ codes "\n                            other  "
    ∷ side_text row.other_side
    ∷ codes "\n"
    ∷ [])
