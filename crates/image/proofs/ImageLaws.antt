-- An image is its words by name: each place holds a field in range, a write changes one field, and equal fields make equal images.
-- Assumes nothing.
use Prim.Native.Nat.{ℕ, ◌+◌, ◌*◌, ◌-◌, ◌/◌, ◌%◌, ◌≤◌, ◌<◌}
use mathlib.Core.Path.{◌≡◌, refl, sym, ◌∙◌}
use mathlib.Core.Logic.{◌≢◌}
use mathlib.Core.Bool.{Bool, true, false, cond}
use mathlib.Core.List.{List}
use native.Mathlib.Omega.{arith}
use native.Mathlib.Nat.{div-add-mod', div-lt_iff_lt-mul, mod-lt}
use lib.Dec.{eqb, ltb}
use lib.ListN.{length}
use lib.Seq.{ext_get_or}
use borrow.Author.Tests.{ltb-true, ltb-false, eqb-true, eqb-false}
use Rattle.image.specs.Layout.{Field, event_size, events_at, size, addr, InRange, if_below, if_equal, side_field, event_field, field_of, read}

by_below : (Q : Field → Type 0) (i b : ℕ) (x y : Field) → (i < b → Q x) → (b ≤ i → Q y) → Q (if_below i b x y)
unfolding if_below
by_below Q i b x y f g = go (ltb i b) refl
  where
    go : (t : Bool) → ltb i b ≡ t → Q (cond t x y)
    go true e = f (ltb-true i b e)
    go false e = g (ltb-false i b e)

by_equal : (Q : Field → Type 0) (i b : ℕ) (x y : Field) → (i ≡ b → Q x) → (i ≢ b → Q y) → Q (if_equal i b x y)
unfolding if_equal
by_equal Q i b x y f g = go (eqb i b) refl
  where
    go : (t : Bool) → eqb i b ≡ t → Q (cond t x y)
    go true e = f (eqb-true i b e)
    go false e = g (eqb-false i b e)

-- a field in range, and its place
pub record Placed (P E i : ℕ) (f : Field) : Type 0 where
  pub range : InRange P E f
  pub place : addr P E f ≡ i

module _ (P E : ℕ) where
  placed_event : (i t o : ℕ) → t < E → o < event_size P → events_at P + (t * event_size P + o) ≡ i → Placed P E i (event_field t o)
  unfolding event_field
  placed_event i t o lt small e =
      by_below (Placed P E i) _ _ _ _ (λ h. record { range = (lt, tt); place = omega arith }) λ h0.
      by_below (Placed P E i) _ _ _ _ (λ h. record { range = (lt, tt); place = omega arith }) λ h1.
      by_below (Placed P E i) _ _ _ _ (λ h. record { range = (lt, omega arith); place = omega arith }) λ h2.
      by_equal (Placed P E i) _ _ _ _ (λ h. record { range = (lt, omega arith); place = omega arith }) λ h3.
      by_equal (Placed P E i) _ _ _ _ (λ h. record { range = (lt, omega arith); place = omega arith }) λ h4.
      record { range = (lt, omega arith); place = omega arith }

  pub placed : (i : ℕ) → i < size P E → Placed P E i (field_of P E i)
  unfolding field_of side_field
  placed i lt =
      by_below (Placed P E i) _ _ _ _ (λ h. record { range = tt; place = omega arith }) λ h0.
      by_below (Placed P E i) _ _ _ _ (λ h. record { range = tt; place = omega arith }) λ h1.
      by_below (Placed P E i) _ _ _ _ (λ h. record { range = (omega arith, omega arith); place = omega arith }) λ h2.
      by_below (Placed P E i) _ _ _ _ (λ h.
      by_equal (Placed P E i) _ _ _ _ (λ q. record { range = (omega arith, tt); place = omega arith })
      (λ q. record { range = (omega arith, tt); place = omega arith })) λ h3.
      by_below (Placed P E i) _ _ _ _ (λ h.
      by_equal (Placed P E i) _ _ _ _ (λ q. record { range = (omega arith, tt); place = omega arith })
      (λ q. record { range = (omega arith, tt); place = omega arith })) λ h4.
      by_below (Placed P E i) _ _ _ _ (λ h. record { range = (omega arith, omega arith); place = omega arith }) λ h5.
      by_below (Placed P E i) _ _ _ _ (λ h.
      let j = i - events_at P in
      placed_event i (j / event_size P) (j % event_size P)
      ((div-lt_iff_lt-mul {k = event_size P} {x = j} {y = E} (omega arith)).1 (omega arith)) (mod-lt j (omega arith))
      (let d = div-add-mod' j (event_size P) in omega arith)) λ h6.
      by_below (Placed P E i) _ _ _ _ (λ h. record { range = tt; place = omega arith }) λ h7.
      by_below (Placed P E i) _ _ _ _ (λ h. record { range = (omega arith, tt); place = omega arith }) λ h8.
      record { range = (omega arith, tt); place = omega arith }

  -- images of the right length with equal fields are equal
  pub image_ext : (x y : List ℕ) → length x ≡ size P E → length y ≡ size P E → ((f : Field) → InRange P E f → read P E x f ≡ read P E y f) → x ≡ y
  unfolding read
  image_ext x y lx ly h = ext_get_or 0 x y (lx ∙ sym ly) (λ i lt.
      let q = placed i (omega arith) in
      rw q.place at (h (field_of P E i) q.range))
