-- The seat of a change is one of the pool's. Assumes nothing.
use mathlib.Core.Path.{◌≡◌, ap, ◌∙◌}
use mathlib.Core.Bool.{Bool, true, false}
use Prim.Native.Nat.{ℕ, ◌<◌}
use native.Mathlib.Omega.{arith}
use Rattle.std.specs.Prelude.{if◌then◌else◌}
use Rattle.types.specs.Base.{Outcome, refused, accepted}
use Rattle.types.specs.Refusals.{outdated_publisher_accounting}
use Rattle.types.proofs.OutcomeLaws.{then_accepts}
use Rattle.image.specs.Layout.{Words}
use Rattle.image.specs.Seats.{publisher_index_of}
use Rattle.image.proofs.SeatLaws.{index_lt}
use Rattle.pool.specs.declared.changes.Delegation.{Delegation}
use Rattle.pool.specs.Changes.{up_to_date, delegation_seat, slash_seat}

module _ (P : ℕ) (w : Words) (d : Delegation) where
  -- it is one of the pool's
  pub seat_lt : (s : ℕ) → delegation_seat P w d ≡ accepted s → s < P
  unfolding delegation_seat
  seat_lt s e =
      let t = then_accepts _ (publisher_index_of P w d.publisher) s e in
      index_lt P w d.publisher s (t.1.0 ∙ ap accepted (go (up_to_date w d.current_epoch) t.0 t.1.1))
    where
      go : (b : Bool) (q : ℕ) → ◌≡◌ {A = Outcome ℕ} (if b then accepted q else refused outdated_publisher_accounting) (accepted s) → q ≡ s
      go true q h = cc
      go false q h = absurd (let z : ◌≡◌ {A = ℕ} 0 1 = cc in omega arith)

  pub slash_seat_lt : (s : ℕ) → slash_seat P w d ≡ accepted s → s < P
  unfolding slash_seat
  slash_seat_lt s e = index_lt P w d.publisher s (go (up_to_date w d.current_epoch) _ e)
    where
      go : (b : Bool) (o : Outcome ℕ) → (if b then o else refused outdated_publisher_accounting) ≡ accepted s → o ≡ accepted s
      go true o h = h
      go false o h = absurd (let z : ◌≡◌ {A = ℕ} 0 1 = cc in omega arith)
