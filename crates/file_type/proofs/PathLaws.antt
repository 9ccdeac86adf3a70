-- Laws of a path's bytes, of which those from place i on are looked at. Assumes nothing.
use Rattle.std.proofs.Common.{◌≡◌, ℕ, ◌+◌, ◌<◌, ◌≤◌, Bool, true, false, not, ◌&&◌, List, eqb, ltb, length, drop, get_or, refl, add-one, drop-cons, ne_eqb}
use Rattle.std.specs.List.{list_all}
use Rattle.std.proofs.Math.ListN.{drop_of_length-le}
use Rattle.file_type.specs.Path.{is_path}

and_false : (b : Bool) → false ≡ (b && false)
and_false true = refl
and_false false = refl

and_true : (b : Bool) → b ≡ (b && true)
and_true true = refl
and_true false = refl

abbrev pub no_zero : List ℕ → Bool
no_zero path = list_all (λ byte. not (eqb byte 0)) path

module _ (path : List ℕ) (i : ℕ) where
  pub zero_met : i < length path → get_or path i 0 ≡ 0 → no_zero (drop i path) ≡ no_zero path → false ≡ is_path path
  unfolding is_path
  zero_met h e same = rw (← same, drop-cons path i 0 h, e) (and_false (ltb (length path) 4096))

  pub zero_free : i < length path → (get_or path i 0 ≡ 0 → ⊥) → no_zero (drop i path) ≡ no_zero path → no_zero (drop (i + 1) path) ≡ no_zero path
  zero_free h ne same = rw (← same, drop-cons path i 0 h, ne_eqb _ _ ne, add-one i)

  pub all_met : length path ≤ i → no_zero (drop i path) ≡ no_zero path → ltb (length path) 4096 ≡ is_path path
  unfolding is_path
  all_met h same = rw (← same, drop_of_length-le path h) (and_true (ltb (length path) 4096))
