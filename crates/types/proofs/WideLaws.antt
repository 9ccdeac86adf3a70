-- A sum of products that is a word or past one, one law for each way out of the code. Assumes nothing.
use mathlib.Core.Path.{◌≡◌, refl, sym, ap, ◌∙◌}
use mathlib.Core.Bool.{Bool, true, false}
use Prim.Native.Nat.{ℕ, ◌+◌, ◌*◌, ◌^◌, ◌≤◌, ◌<◌}
use native.Mathlib.Nat.{mul-le-mul, zero-mul}
use native.Mathlib.Omega.{arith}
use lib.Dec.{ltb}
use Rattle.std.specs.Option.{SomeIff}
use Rattle.std.specs.Prelude.{Option, Some, None, if◌then◌else◌}
use borrow.Author.Tests.{lt-ltb, le-ltb, ltb-true, ltb-false}
use Rattle.types.specs.declared.wide.Wide.{Wide}
use Rattle.types.specs.Wide.{wide_of, fit_of}

pub fit_past : (n : ℕ) → 2 ^ 64 ≤ n → None ≡ fit_of n
unfolding fit_of
fit_past n h = rw (le-ltb n (2 ^ 64) h)

pub fit_word : (n v : ℕ) → v ≡ n → v < 2 ^ 64 → Some v ≡ fit_of n
unfolding fit_of
fit_word n v e h = rw (lt-ltb n (2 ^ 64) (rw e at h)) (ap Some e)

-- a + k * b, by the words of a and b
module _ (a : Wide) (k : ℕ) (b : Wide) where
  pub past_left : (a.hi ≡ 0 → ⊥) → None ≡ fit_of (wide_of a + k * wide_of b)
  unfolding wide_of
  past_left n = fit_past _ (omega arith)

  pub left_alone : a.hi ≡ 0 → a.lo < 2 ^ 64 → k ≡ 0 → Some a.lo ≡ fit_of (wide_of a + k * wide_of b)
  unfolding wide_of
  left_alone z l e =
      let q : k * wide_of b ≡ 0 = rw e (zero-mul (wide_of b)) in
      fit_word _ _ (omega arith) l

  pub past_right : (k ≡ 0 → ⊥) → (b.hi ≡ 0 → ⊥) → None ≡ fit_of (wide_of a + k * wide_of b)
  unfolding wide_of
  past_right nk nb =
      let hk : 1 ≤ k = omega arith in
      let hb : 2 ^ 64 ≤ b.hi * 2 ^ 64 + b.lo = omega arith in
      let h : 1 * 2 ^ 64 ≤ k * (b.hi * 2 ^ 64 + b.lo) = mul-le-mul hk hb in
      fit_past _ (omega arith)

  module _ (za : a.hi ≡ 0) (zb : b.hi ≡ 0) (m : Wide) (e : m.hi * 2 ^ 64 + m.lo ≡ k * b.lo) where
    times : k * wide_of b ≡ k * b.lo
    unfolding wide_of
    times = ap (λ (n : ℕ). k * n) (omega arith)

    pub past_product : (m.hi ≡ 0 → ⊥) → None ≡ fit_of (wide_of a + k * wide_of b)
    unfolding wide_of
    past_product n = let q = times in fit_past _ (omega arith)

    pub sum_fits : m.hi ≡ 0 → (r : Option ℕ) → SomeIff r (a.lo + m.lo < 2 ^ 64) (a.lo + m.lo) → r ≡ fit_of (wide_of a + k * wide_of b)
    unfolding wide_of
    sum_fits z (Some x) p = let q = times in fit_word _ _ (omega arith) (omega (arith, p.0, p.1))
    sum_fits z None p = let q = times in fit_past _ (omega arith)

-- the ways out of a sum
pub ruleset sums = (past_left, left_alone, past_right, sum_fits)

-- what an answer says of the number
pub word_says : (n v : ℕ) (r : Option ℕ) → r ≡ fit_of n → r ≡ Some v → (n ≡ v) × (n < 2 ^ 64)
unfolding fit_of
word_says n v r e q = go (ltb n (2 ^ 64)) refl (sym e ∙ q)
  where
    go : (t : Bool) → ltb n (2 ^ 64) ≡ t → (if t then Some n else None) ≡ Some v → (n ≡ v) × (n < 2 ^ 64)
    go true l h = (cc, ltb-true n (2 ^ 64) l)
    go false l h = absurd cc

pub past_says : (n : ℕ) (r : Option ℕ) → r ≡ fit_of n → r ≡ None → 2 ^ 64 ≤ n
unfolding fit_of
past_says n r e q = go (ltb n (2 ^ 64)) refl (sym e ∙ q)
  where
    go : (t : Bool) → ltb n (2 ^ 64) ≡ t → (if t then Some n else None) ≡ None → 2 ^ 64 ≤ n
    go true l h = absurd cc
    go false l h = ltb-false n (2 ^ 64) l
