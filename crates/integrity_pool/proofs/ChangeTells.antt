-- What a call of item 9 tells by its answer. Assumes nothing.
use mathlib.Core.Path.{◌≡◌}
use mathlib.Core.List.{List}
use Prim.Native.Nat.{ℕ, ◌+◌, ◌≤◌}
use native.Mathlib.Omega.{arith}
use Rattle.std.proofs.lemmas.Grind.{common_steps}
use Rattle.types.specs.Base.{Outcome, refused, accepted}
use Rattle.types.specs.Base.{acceptance}
use Rattle.image.specs.Changes.{Change, changed_image}
use Rattle.integrity_pool.specs.declared.slash.Slashing.{Slashing}
use Rattle.integrity_pool.specs.Changes.{created_in, wrong_order, slash_order, slashed_record, slashed_with}

-- ---- a refused call leaves the image that it found

module _ (P E : ℕ) (img : List ℕ) (c : Outcome Change) (k : ℕ) where
  -- add, remove, fee, stake account
  pub refused_change : acceptance c ≡ refused k → changed_image P E img c ≡ img
  unfolding acceptance changed_image
  refused_change e = grind (arith, common_steps)

  pub refused_create : (now : ℕ) → created_in now c ≡ refused k → changed_image P E img c ≡ img
  unfolding created_in changed_image
  refused_create now e = grind (arith, common_steps)

  pub refused_slash : (x : Slashing) → slashed_with x c ≡ refused k → changed_image P E img c ≡ img
  unfolding slashed_with changed_image
  refused_slash x e = grind (arith, common_steps)

-- ---- a slash in its turn

module _ (x : Slashing) (h : slash_order x ≡ accepted tt) where
  abbrev next : ℕ
  next = x.delegation_record.next_slash_event_index

  abbrev event : ℕ
  event = x.slash_event_epoch.0

  abbrev now : ℕ
  now = x.delegation.current_epoch

  -- the record's next index never falls
  pub next_rises : next + 1 ≤ (slashed_record x).next_slash_event_index
  unfolding slash_order wrong_order
  next_rises = grind (arith, common_steps)

  -- one that applies adds 1 to it
  pub next_by_one : event ≡ now → (slashed_record x).next_slash_event_index ≡ next + 1
  unfolding slash_order wrong_order
  next_by_one e = grind (arith, common_steps)
