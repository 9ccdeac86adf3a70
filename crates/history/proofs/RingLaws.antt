-- The ring of a grown pool holds what item 5 says. Assumes nothing.
use mathlib.Core.Path.{◌≡◌, refl, sym, ap, ◌∙◌}
use Prim.Native.Nat.{ℕ, ◌-◌, ◌%◌, ◌≤◌, ◌<◌, min}
use native.Mathlib.Nat.{mod-lt, min-le_left, min-le_right}
use native.Mathlib.Omega.{arith}
use Rattle.image.specs.Layout.{last_updated_epoch, num_events, event_epoch, head, slot, share, Words}
use Rattle.image.proofs.AgeLaws.{age, age_lt, age_of, slot_of}
use Rattle.advance_plan.proofs.EventsLaws.{Grown, age_written, age_unwritten}
use Rattle.history.specs.Demand.{NewestEpochs, OnlyNewest, EachOnce, UnwrittenZero, RingHolds}

module _ (P E first : ℕ) (w : Words) (pos : 1 ≤ E) (g : Grown P E first w) where
  pub grown_newest : NewestEpochs E w
  grown_newest j h =
      let n : ℕ = w (head num_events) in
      let b : j < n = omega (arith, min-le_left n E) in
      let c : j < E = omega (arith, min-le_right n E) in
      let a : age E n ((n - 1 - j) % E) ≡ j = age_of E n j pos c b in
      g.dated ((n - 1 - j) % E) (mod-lt (n - 1 - j) pos) (omega arith) ∙ rw a refl

  -- the age of a written slot
  written_age : (t : ℕ) → t < min (w (head num_events)) E → (age E (w (head num_events)) t < min (w (head num_events)) E)
      × (w (slot t event_epoch) ≡ w (head last_updated_epoch) - 1 - age E (w (head num_events)) t)
  written_age t h =
      let n : ℕ = w (head num_events) in
      let c : t < E = omega (arith, min-le_right n E) in
      let a : age E n t < n = age_written E n t c (omega (arith, min-le_left n E)) in
      (omega (arith, age_lt E n t pos), g.dated t c a)

  grown_only : OnlyNewest E w
  grown_only t h =
      let a = written_age t h in
      let l : age E (w (head num_events)) t < w (head num_events) = omega (arith, a.0, min-le_left (w (head num_events)) E) in
      (omega (arith, a.1, g.span), omega (arith, a.0, a.1, g.span))

  grown_once : EachOnce E w
  grown_once t u h k q =
      let n : ℕ = w (head num_events) in
      let a = written_age t h in
      let b = written_age u k in
      let la : age E n t < n = omega (arith, a.0, min-le_left n E) in
      let lb : age E n u < n = omega (arith, b.0, min-le_left n E) in
      let same : age E n t ≡ age E n u = omega (arith, a.1, b.1, g.span) in
      slot_of E n t pos (omega (arith, min-le_right n E)) la ∙ ap (λ (i : ℕ). (n - 1 - i) % E) same ∙ sym (slot_of E n u pos (omega (arith, min-le_right n E)) lb)

  grown_unwritten : UnwrittenZero P E w
  grown_unwritten t h = (
    (λ x r. g.unwritten t r.0 (age_unwritten E _ t r.0 h) (slot t x) r refl),
    (λ s x r. g.unwritten t r.0 (age_unwritten E _ t r.0 h) (share t s x) r refl),
  )

  pub ring_holds : (now : ℕ) → w (head last_updated_epoch) ≡ now → RingHolds P E first now w
  ring_holds now q = record { passed = (q, sym q ∙ g.span); newest = grown_newest; only = grown_only; once = grown_once; unwritten = grown_unwritten }
