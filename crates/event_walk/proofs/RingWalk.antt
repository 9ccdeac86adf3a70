-- A walk comes to no ring slot twice, so an amount for each step of the walk is an amount for each ring slot; and it meets no event older than
-- the record's epoch. Assumes nothing.
use mathlib.Core.Path.{◌≡◌, sym, ap, ◌∙◌}
use Prim.Native.Nat.{ℕ, ◌≤◌, ◌<◌}
use native.Mathlib.Omega.{arith}
use lib.Dec.{ltb}
use borrow.Author.Tests.{ltb-false}
use Rattle.types.proofs.Below.{first_before_law}
use Rattle.image.specs.Layout.{num_events, head, Words}
use Rattle.image.proofs.AgeLaws.{age, age_of}
use Rattle.event_walk.specs.Walk.{walk_length, walk_slot, walk_epoch, walk_meets}
use Rattle.event_walk.proofs.WalkLaws.{length_le, length_count}

module _ (E : ℕ) (w : Words) where
  -- the event that it comes to after k others is that of age k
  slot_age : (k : ℕ) → k < walk_length E w → age E (w (head num_events)) (walk_slot E w k) ≡ k
  unfolding walk_slot
  slot_age k l =
      let a = length_le E w in
      let b = length_count E w in
      age_of E (w (head num_events)) k (omega arith) (omega arith) (omega arith)

  pub slots_differ : (j k : ℕ) → j < walk_length E w → k < walk_length E w → walk_slot E w j ≡ walk_slot E w k → j ≡ k
  slots_differ j k a b q = sym (slot_age j a) ∙ ap (age E (w (head num_events))) q ∙ slot_age k b

  pub meets_young : (from k : ℕ) → k < walk_meets E w from → from ≤ walk_epoch E w k
  unfolding walk_meets
  meets_young from k l = ltb-false _ _ (first_before_law (walk_length E w) k (λ j. ltb (walk_epoch E w j) from) l)
