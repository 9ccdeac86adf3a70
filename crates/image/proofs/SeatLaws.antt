-- Refusal 1, the word at a place, and the lookups. Assumes nothing.
use Prim.Native.Nat.{ℕ, ◌≤◌, ◌<◌}
use mathlib.Core.Path.{◌≡◌}
use mathlib.Core.Bool.{true, false}
use mathlib.Core.List.{List}
use native.Mathlib.Omega.{arith}
use Rattle.std.proofs.lemmas.Bool.Decides.{nat_tests}
use Rattle.std.specs.Prelude.{Option, Some, None, MatchOption, IfSome}
use Rattle.std.specs.Option.{unwrap_or}
use Rattle.types.specs.Base.{half, accepted}
use Rattle.types.proofs.Below.{first_at, first_none, first_le}
use Rattle.positions.specs.declared.Key.{Key}
use Rattle.positions.specs.Key.{same_key}
use Rattle.image.specs.Layout.{num_events, head, Words, read}
use Rattle.image.specs.Seats.{in_range, sized_image, checked_image, Sized, publisher_at, empty_seat, seats_of, first_seat, publisher_index_of}

-- ---- refusal 1

module _ (P E : ℕ) (img : List ℕ) where
  pub sized_says : sized_image P E img ≡ true → Sized img P E
  unfolding sized_image
  sized_says h = grind (arith, nat_tests)

  pub checked_sized : checked_image P E img ≡ true → Sized img P E
  unfolding checked_image
  checked_sized h = sized_says (grind (arith, nat_tests))

  pub checked_says : checked_image P E img ≡ true → Sized img P E × (read P E img (head num_events) < half)
  unfolding checked_image
  checked_says h = (checked_sized h, grind (arith, nat_tests))

-- ---- seats

module _ (P : ℕ) (w : Words) where
  pub seats_le : seats_of P w ≤ P
  unfolding seats_of
  seats_le = first_le P (empty_seat w)

  -- ---- a publisher's seat

  module _ (k : Key) where
    -- what `find` over the seats tells
    pub seat_found : (r : Option ℕ)
        → MatchOption r ((s : ℕ) → 0 ≤ s → s < P → same_key (publisher_at w s) k ≡ false)
        (λ i. (0 ≤ i) × (i < P) × (same_key (publisher_at w i) k ≡ true) × ((s : ℕ) → 0 ≤ s → s < i → same_key (publisher_at w s) k ≡ false))
        → (unwrap_or r P ≡ first_seat P w k) × IfSome r (λ i. i < P)
    unfolding first_seat
    seat_found None h = (first_none P (λ s. same_key (publisher_at w s) k) (record { none = λ s l. h s (omega arith) l }), tt)
    seat_found (Some i) h = (first_at P i (λ s. same_key (publisher_at w s) k) h.1 (record { none = λ s l. h.3 s (omega arith) l }) h.2, h.1)

    -- the seat of a publisher that is found is one of the pool's
    pub index_lt : (s : ℕ) → publisher_index_of P w k ≡ accepted s → s < P
    unfolding publisher_index_of
    index_lt s e = grind (arith, nat_tests)

-- P is 1 to 1,024 and E 1 to 52
pub in_range_law : (P E : ℕ) → in_range P E ≡ true → (1 ≤ P) × (P ≤ 1024) × (1 ≤ E) × (E ≤ 52)
in_range_law P E h = grind (arith, nat_tests)
