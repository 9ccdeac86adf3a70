-- Laws of a list of positions: what each answer tells, and when each is given. Assumes nothing.
use mathlib.Core.Path.{◌≡◌, refl, sym, ◌∙◌}
use mathlib.Core.Bool.{Bool, true, false, ◌&&◌, ◌||◌}
use mathlib.Core.List.{List}
use Prim.Native.Nat.{ℕ, ◌+◌, ◌*◌, ◌/◌, ◌%◌, ◌<◌, ◌≤◌}
use native.Mathlib.Omega.{arith}
use lib.Dec.{leb, eqb}
use lib.ListN.{length, get_or}
use borrow.Author.Tests.{le-leb, eq-eqb, ne_eqb, leb-true, eqb-true, eqb-false}
use Rattle.types.specs.Base.{all_below}
use Rattle.types.proofs.Below.{and_both, all_each, all_at, any_at}
use Rattle.positions.specs.declared.Key.{Key}
use Rattle.positions.specs.Key.{same_key}
use Rattle.positions.specs.Positions.{key_from, position_holds, positions_hold, in_publisher, has_publisher}

-- ---- one position

module _ (words : List ℕ) (at : ℕ) where
  -- the kind is 0, 1 or 2, and the flag of one that is not empty 0 or 1
  pub holds_says : position_holds words at ≡ true → (get_or words at 0 ≤ 2) × (0 < get_or words at 0 → get_or words (at + 3) 0 ≤ 1)
  unfolding position_holds
  holds_says e =
      let b = and_both (leb (get_or words at 0) 2) (eqb (get_or words at 0) 0 || leb (get_or words (at + 3) 0) 1) e in
      (leb-true _ _ b.0, λ h. leb-true _ _ (rw (ne_eqb (get_or words at 0) 0 (λ q. omega arith)) at b.1))

  pub holds_if : get_or words at 0 ≤ 2 → (0 < get_or words at 0 → get_or words (at + 3) 0 ≤ 1) → position_holds words at ≡ true
  unfolding position_holds
  holds_if h f = go (eqb (get_or words at 0) 0) refl
    where
      go : (b : Bool) → eqb (get_or words at 0) 0 ≡ b → (leb (get_or words at 0) 2 && (b || leb (get_or words (at + 3) 0) 1)) ≡ true
      go true e = rw (le-leb _ _ h)
      go false e =
          let n : get_or words at 0 ≡ 0 → ⊥ = eqb-false _ _ e in
          rw (le-leb _ _ h, le-leb _ _ (f (omega arith)))

-- ---- the list

-- what a list without refusal 4 is
pub record Held (words : List ℕ) : Type 0 where
  pub whole : length words % 9 ≡ 0
  pub few : length words / 9 ≤ 256
  pub each : (i : ℕ) → i < length words / 9 → position_holds words (i * 9) ≡ true

pub held : (words : List ℕ) → positions_hold words ≡ true → Held words
unfolding positions_hold
held words e =
    let rest = leb (length words / 9) 256 && all_below (length words / 9) (λ (i : ℕ). position_holds words (i * 9)) in
    let b = and_both (eqb (length words % 9) 0) rest e in
    let d = and_both (leb (length words / 9) 256) (all_below (length words / 9) (λ (i : ℕ). position_holds words (i * 9))) b.1 in
    record {
      whole = eqb-true _ _ b.0;
      few = leb-true _ _ d.0;
      each = λ i l. all_at (λ (j : ℕ). position_holds words (j * 9)) (length words / 9) i l d.1;
    }

pub held_holds : (words : List ℕ) → Held words → positions_hold words ≡ true
unfolding positions_hold
held_holds words h = rw (eq-eqb _ _ h.whole, le-leb _ _ h.few, all_each (λ (i : ℕ). position_holds words (i * 9)) (length words / 9) h.each)

-- ---- positions in a publisher

module _ (words : List ℕ) (at : ℕ) (publisher : Key) where
  pub in_says : in_publisher words at publisher ≡ true → (get_or words at 0 ≡ 2) × (same_key (key_from words (at + 5)) publisher ≡ true)
  unfolding in_publisher
  in_says e =
      let b = and_both (eqb (get_or words at 0) 2) (same_key (key_from words (at + 5)) publisher) e in
      (eqb-true _ _ b.0, b.1)

  pub in_if : get_or words at 0 ≡ 2 → same_key (key_from words (at + 5)) publisher ≡ true → in_publisher words at publisher ≡ true
  unfolding in_publisher
  in_if e q = rw (eq-eqb _ _ e, q)

module _ (words : List ℕ) (publisher : Key) where
  pub has_one : (i : ℕ) → i < length words / 9 → in_publisher words (i * 9) publisher ≡ true → true ≡ has_publisher words publisher
  unfolding has_publisher
  has_one i l e = sym (any_at (λ (j : ℕ). in_publisher words (j * 9) publisher) (length words / 9) i l e)

  -- a list without a position in the publisher
  pub none_at : (i : ℕ) → has_publisher words publisher ≡ false → i < length words / 9 → in_publisher words (i * 9) publisher ≡ false
  none_at i h l = go (in_publisher words (i * 9) publisher) refl
    where
      go : (b : Bool) → in_publisher words (i * 9) publisher ≡ b → b ≡ false
      go true e = has_one i l e ∙ h
      go false e = refl
