-- Laws of the marks: no row is marked at first, a row that was marked is, any other is as it was, and the ones of the mark words are
-- the marked rows. Assumes nothing.
use mathlib.Core.Path.{◌≡◌, refl, sym, ap, subst, ◌∙◌}
use mathlib.Core.Bool.{Bool, true, false, ◌&&◌}
use mathlib.Core.List.{List}
use Prim.Native.Nat.{ℕ, zero, suc, ◌+◌, ◌-◌, ◌*◌, ◌/◌, ◌%◌, ◌^◌, ◌<◌, ◌≤◌, max}
use native.Mathlib.Nat.{mod-eq_of_lt, add-zero, add-suc, mod-lt, mod-one, mul-mod_left, one-mul}
use native.Mathlib.Nat.{pow-suc, max-le, max-zero, max-eq_right, div_self, div-eq_of_lt, zero-div}
use native.Mathlib.Omega.{arith}
use lib.Arith.{digits_mod, lt_of_le-ne}
use lib.Bits.{bit_or, or_shr, or_step}
use lib.Count.{ones, ones_in, ones_cat}
use lib.Pow.{pow_pos, pow-lt, pow-add, mod-pow-add, shl_exact, shl-shr}
use lib.Dec.{ltb, eqb}
use lib.ListN.{length, get_or, set, replicate, get_or-replicate}
use lib.Seq.{get_or-set_same, get_or-set_other}
use borrow.Author.Tests.{lt-ltb, le-ltb, ltb-true, ltb-false, eqb-true, eqb-false}
use Rattle.types.specs.Base.{count_below, to_nat}
use Rattle.types.specs.BoolArray.{bit_at, marked, with_mark}
use Rattle.types.proofs.Below.{count_none, count_more, count_le}

-- ---- one law for each way out of get and set

module _ (words : List ℕ) (i : ℕ) where
  pub get_past : 1_024 ≤ i → false ≡ marked words i
  unfolding marked
  get_past h = rw (le-ltb i 1_024 h)

  pub get_bit : i < 1_024 → eqb (bit_at (get_or words (i / 64) 0) (i % 64)) 1 ≡ marked words i
  unfolding marked
  get_bit h = rw (lt-ltb i 1_024 h)

  pub set_past : 1_024 ≤ i → words ≡ with_mark words i
  unfolding with_mark
  set_past h = rw (le-ltb i 1_024 h)

  -- with the code's shift of 1
  pub set_bit : i < 1_024 → set words (i / 64) (bit_or (get_or words (i / 64) 0) (1 * 2 ^ (i % 64) % 2 ^ 64)) ≡ with_mark words i
  unfolding with_mark
  set_bit h =
      rw (
        lt-ltb i 1_024 h,
        shl_exact {a = 1} 1 (i % 64) 64 (omega arith) (omega (arith, mod-lt i {m = 64} (omega arith))),
        one-mul (2 ^ (i % 64)),
      )

pub ruleset marks = (get_past, get_bit, set_past, set_bit)

-- ---- the count

one_digit : (d : ℕ) → d < 2 → ones d ≡ d
unfolding ones
one_digit zero h = refl
one_digit (suc zero) h = refl
one_digit (suc (suc d)) h = omega arith

no_ones : ones 0 ≡ 0
unfolding ones ones_in
no_ones = refl

bit_lt : (w b : ℕ) → bit_at w b < 2
bit_lt w b = mod-lt (w / 2 ^ b) (omega arith)

-- the ones among the lowest b + 1 bits are those among the lowest b, and bit b
low_bits : (w b : ℕ) → ones (w % 2 ^ suc b) ≡ ones (w % 2 ^ b) + bit_at w b
low_bits w b =
    rw (
      ← one_add b,
      mod-pow-add w 1 b,
      ones_cat b (w / 2 ^ b % 2 ^ 1) (w % 2 ^ b) (mod-lt w (pow_pos b)),
      one_digit (w / 2 ^ b % 2) (bit_lt w b),
    ) (omega arith)
  where
    one_add : (n : ℕ) → 1 + n ≡ suc n
    one_add n = omega arith

as_bit : (b : ℕ) → b < 2 → to_nat (eqb b 1) ≡ b
as_bit zero h = refl
as_bit (suc zero) h = refl
as_bit (suc (suc b)) h = absurd (omega arith)

-- a row's mark as a bit
pub mark_bit : (words : List ℕ) (k b : ℕ) → k < 16 → b < 64 → to_nat (marked words (k * 64 + b)) ≡ bit_at (get_or words k 0) b
unfolding marked
mark_bit words k b hk hb =
    rw (lt-ltb (k * 64 + b) 1_024 (omega arith), quotient (k * 64 + b) (omega arith), remainder (k * 64 + b) (omega arith))
    (as_bit (bit_at (get_or words k 0) b) (bit_lt (get_or words k 0) b))
  where
    quotient : (i : ℕ) → i / 64 ≡ k → i / 64 ≡ k
    quotient i e = e

    remainder : (i : ℕ) → i % 64 ≡ b → i % 64 ≡ b
    remainder i e = e

-- the marked rows among the first b of word k
partial : (words : List ℕ) (k b : ℕ) → k < 16 → b ≤ 64
    → count_below (k * 64 + b) (marked words) ≡ count_below (k * 64) (marked words) + ones (get_or words k 0 % 2 ^ b)
partial words k zero hk h = rw (add-zero (k * 64), mod-one (get_or words k 0), no_ones) (omega arith)
partial words k (suc b) hk h =
    rw (
      add-suc (k * 64) b,
      count_more (marked words) (k * 64 + b),
      partial words k b hk (omega arith),
      mark_bit words k b hk (omega arith),
      low_bits (get_or words k 0) b,
    )
    (omega arith)

pub rows_none : (words : List ℕ) → 0 ≡ count_below (0 * 64) (marked words)
rows_none words = sym (count_none (marked words))

-- one word more is counted
pub rows_more : (words : List ℕ) (k n : ℕ) → k < 16 → n ≡ count_below (k * 64) (marked words) → get_or words k 0 < 2 ^ 64
    → n + ones (get_or words k 0) ≡ count_below ((k + 1) * 64) (marked words)
rows_more words k n hk e fits =
    rw (e, ← mod-eq_of_lt fits)
    (sym (partial words k 64 hk (omega arith)) ∙ ap (λ (m : ℕ). count_below m (marked words)) (sizes k))
  where
    sizes : (j : ℕ) → j * 64 + 64 ≡ (j + 1) * 64
    sizes j = omega arith

-- so no sum is past them all
pub rows_fit : (words : List ℕ) (k n : ℕ) → k < 16 → n ≡ count_below (k * 64) (marked words) → get_or words k 0 < 2 ^ 64
    → n + ones (get_or words k 0) ≤ (k + 1) * 64
rows_fit words k n hk e fits = omega (arith, rows_more words k n hk e fits, count_le (marked words) ((k + 1) * 64))

pub ruleset rows = (rows_none, rows_more, rows_fit)

-- ---- what marking a row changes

-- a bit of an or is set where it is set in either
bit_or_at : (a b j : ℕ) → bit_at (bit_or a b) j ≡ max (bit_at a j) (bit_at b j)
bit_or_at a b j =
    rw (or_shr a b j, or_step (a / 2 ^ j) (b / 2 ^ j))
    (digits_mod (bit_or (a / 2 ^ j / 2) (b / 2 ^ j / 2)) (both (bit_at a j) (bit_at b j) (bit_lt a j) (bit_lt b j)))
  where
    both : (x y : ℕ) → x < 2 → y < 2 → max x y < 2
    both x y hx hy = omega (arith, max-le {a = x} {b = y} {k = 1} (omega arith) (omega arith))

bit_same : (k : ℕ) → bit_at (2 ^ k) k ≡ 1
bit_same k = rw (div_self (pow_pos k))

bit_below : (j d : ℕ) → bit_at (2 ^ (suc d + j)) j ≡ 0
bit_below j d = rw (pow-add 2 (suc d) j, shl-shr (2 ^ suc d) j, pow-suc 2 d) (mul-mod_left (2 ^ d) 2)

bit_above : (j k : ℕ) → k < j → bit_at (2 ^ k) j ≡ 0
bit_above j k h = rw (div-eq_of_lt (pow-lt h))

bit_other : (j k : ℕ) → (j ≡ k → ⊥) → bit_at (2 ^ k) j ≡ 0
bit_other j k n = go (ltb j k) refl
  where
    go : (b : Bool) → ltb j k ≡ b → bit_at (2 ^ k) j ≡ 0
    go true e =
        let h : j < k = ltb-true j k e in
        subst (λ (x : ℕ). bit_at (2 ^ x) j ≡ 0) (omega arith) (bit_below j (k - j - 1))
    go false e = bit_above j k (lt_of_le-ne (ltb-false j k e) (λ q. n (sym q)))

module _ (words : List ℕ) (i : ℕ) (row : i < 1_024) (inside : i / 64 < length words) where
  abbrev stored : ℕ
  stored = bit_or (get_or words (i / 64) 0) (2 ^ (i % 64))

  with_is : with_mark words i ≡ set words (i / 64) stored
  unfolding with_mark
  with_is = rw (lt-ltb i 1_024 row)

  -- a row that was marked is marked
  pub mark_same : marked (with_mark words i) i ≡ true
  unfolding marked
  mark_same =
      rw (
        with_is,
        lt-ltb i 1_024 row,
        get_or-set_same words (i / 64) stored 0 inside,
        bit_or_at (get_or words (i / 64) 0) (2 ^ (i % 64)) (i % 64),
        bit_same (i % 64),
        max-eq_right (small (bit_at (get_or words (i / 64) 0) (i % 64)) (bit_lt (get_or words (i / 64) 0) (i % 64))),
      )
    where
      small : (x : ℕ) → x < 2 → x ≤ 1
      small x h = omega arith

  -- any other row is as it was
  pub mark_other : (j : ℕ) → (j ≡ i → ⊥) → marked (with_mark words i) j ≡ marked words j
  unfolding marked
  mark_other j n = rw with_is (ap (λ (b : ℕ). ltb j 1_024 && eqb b 1) (go (eqb (j / 64) (i / 64)) refl))
    where
      go : (b : Bool) → eqb (j / 64) (i / 64) ≡ b → bit_at (get_or (set words (i / 64) stored) (j / 64) 0) (j % 64) ≡ bit_at (get_or words (j / 64) 0) (j % 64)
      go true e =
          let q : j / 64 ≡ i / 64 = eqb-true (j / 64) (i / 64) e in
          rw (
            q,
            get_or-set_same words (i / 64) stored 0 inside,
            bit_or_at (get_or words (i / 64) 0) (2 ^ (i % 64)) (j % 64),
            bit_other (j % 64) (i % 64) (λ m. n (omega arith)),
          )
          (max-zero _)
      go false e = rw (get_or-set_other words (i / 64) (j / 64) stored 0 (eqb-false (j / 64) (i / 64) e))

-- no row is marked at first
pub mark_none : (i : ℕ) → marked (replicate 16 0) i ≡ false
unfolding marked
mark_none i = go (ltb i 1_024) refl
  where
    go : (b : Bool) → ltb i 1_024 ≡ b → (b && eqb (bit_at (get_or (replicate 16 0) (i / 64) 0) (i % 64)) 1) ≡ false
    go true e =
        let h : i < 1_024 = ltb-true i 1_024 e in
        rw (get_or-replicate {A = ℕ} 16 (i / 64) 0 0 (omega arith), zero-div (2 ^ (i % 64)))
    go false e = refl
