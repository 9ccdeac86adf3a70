-- Laws of what the table counts. Assumes nothing.
use Rattle.std.proofs.Common.{◌≡◌, ℕ, zero, suc, ◌+◌, Bool, not, length, arith}
use Rattle.std.specs.List.{filter, range_with_len}
use Rattle.types.specs.Base.{count_below}
use Rattle.types.proofs.Below.{count_none, count_more}
use Rattle.image.specs.Layout.{Words}
use Rattle.image.specs.Seats.{empty_seat}
use Rattle.show.specs.Rows.{occupied_seats}

-- below a, and then in the list of the n numbers from a on
count_filtered : (f : ℕ → Bool) (a n : ℕ) → count_below a f + length (filter f (range_with_len a n)) ≡ count_below (a + n) f
count_filtered f a zero = grind arith
count_filtered f a (suc n) = grind (arith, count_more f a, count_filtered f (a + 1) n)

pub occupied_filtered : (P : ℕ) (w : Words) → length (filter (λ s. not (empty_seat w s)) (range_with_len 0 P)) ≡ occupied_seats P w
unfolding occupied_seats
occupied_filtered P w = grind (arith, count_none, count_filtered (λ s. not (empty_seat w s)) 0 P)
