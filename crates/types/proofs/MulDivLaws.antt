-- Laws of the floor of a product over a divisor, and the arithmetic of its long division. Assumes nothing.
use mathlib.Core.Path.{◌≡◌, refl, sym, ap, ◌∙◌}
use Prim.Native.Nat.{ℕ, ◌+◌, ◌-◌, ◌*◌, ◌/◌, ◌%◌, ◌^◌, ◌≤◌, ◌<◌}
use native.Mathlib.Nat.{mul-le-mul, mul-lt-mul_of_pos_right, mul-div_cancel, add-sub_of_le, div-add-mod', le_of_mul-le-mul_right, lt_of_mul-lt-mul_right}
use native.Mathlib.Nat.{div-lt_iff_lt-mul, le-div_iff_mul-le}
use native.Mathlib.Omega.{arith}
use lib.Arith.{digits_div, digits_mod}
use lib.Pow.{pow_pos, pow-add}
use lib.Count.{count_leading_zeros}
use Rattle.std.proofs.lemmas.Nat.{leading_length}
use mathlib.Core.Bool.{Bool, true, false}
use Rattle.std.specs.Prelude.{Some, None, if◌then◌else◌}
use lib.Dec.{ltb}
use borrow.Author.Tests.{lt-ltb, le-ltb, ltb-true, ltb-false}
use Rattle.types.specs.MulDiv.{Division, mul_div_of}
use Rattle.types.specs.declared.mul_div.Divided.{Divided}

-- two halves have a product that leaves room for two more halves
pub half_product : (x y : ℕ) → x < 2 ^ 32 → y < 2 ^ 32 → x * y ≤ (2 ^ 32 - 1) * (2 ^ 32 - 1)
half_product x y hx hy = mul-le-mul {n₁ = x} {m₁ = y} {n₂ = 2 ^ 32 - 1} {m₂ = 2 ^ 32 - 1} (omega arith) (omega arith)

-- a product by the halves of its factors
pub by_halves : (a b : ℕ) → (a / 2 ^ 32 * 2 ^ 32 + a % 2 ^ 32) * (b / 2 ^ 32 * 2 ^ 32 + b % 2 ^ 32) ≡ a * b
by_halves a b = cc (div-add-mod' a (2 ^ 32), div-add-mod' b (2 ^ 32))

-- the quotient of h * 2 ^ 32 + x by a d above h is a half
pub digit_lt : (h x d q r : ℕ) → Division (h * 2 ^ 32 + x) d q r → h < d → x < 2 ^ 32 → q < 2 ^ 32
digit_lt h x d q r e hh hx = lt_of_mul-lt-mul_right d {m = q} {n = 2 ^ 32} (omega arith)

-- the estimate q of a digit: what q * d leaves of h * 2 ^ 32 + x is the sum of two words
pub estimate : (h x d q m g : ℕ) → q * (d / 2 ^ 32 + 1) + m ≡ h → g + d % 2 ^ 32 ≡ 2 ^ 32 → q * d + (m * 2 ^ 32 + x + q * g) ≡ h * 2 ^ 32 + x
estimate h x d q m g eh eg = omega (arith, ap (λ (z : ℕ). q * z) eg, ap (λ (z : ℕ). q * z) (div-add-mod' d (2 ^ 32)))

-- division has one answer
pub quotient_is : (n d q r : ℕ) → Division n d q r → n / d ≡ q
quotient_is n d q r e = ap (λ (z : ℕ). z / d) (sym e.whole) ∙ digits_div q e.small

pub remainder_is : (n d q r : ℕ) → Division n d q r → n % d ≡ r
remainder_is n d q r e = ap (λ (z : ℕ). z % d) (sym e.whole) ∙ digits_mod q e.small

-- the two answers of mul_div_of
pub fits_at_law : (a b d : ℕ) (r : Divided) → Division (a * b) d r.quotient r.remainder → a * b < d * 2 ^ 64 → Some r ≡ mul_div_of a b d
unfolding mul_div_of
fits_at_law a b d r e h =
    rw (lt-ltb (a * b) (d * 2 ^ 64) h, quotient_is (a * b) d r.quotient r.remainder e, remainder_is (a * b) d r.quotient r.remainder e)

pub past_at : (a b d : ℕ) → d * 2 ^ 64 ≤ a * b → None ≡ mul_div_of a b d
unfolding mul_div_of
past_at a b d h = rw (le-ltb (a * b) (d * 2 ^ 64) h)

-- a divisor of 0 does not fit
pub by_zero : (a b : ℕ) → None ≡ mul_div_of a b 0
by_zero a b = past_at a b 0 (omega arith)

-- a number of two words whose upper word is below d is below d * 2 ^ 64, and one whose upper word is not, is not
pub upper_below : (n hi lo d : ℕ) → hi * 2 ^ 64 + lo ≡ n → lo < 2 ^ 64 → hi < d → n < d * 2 ^ 64
upper_below n hi lo d e hl hd = omega arith

pub upper_above : (n hi lo d : ℕ) → hi * 2 ^ 64 + lo ≡ n → d ≤ hi → d * 2 ^ 64 ≤ n
upper_above n hi lo d e hd = omega arith

-- a quotient stays where dividend and divisor are multiplied alike, and the remainder is multiplied too
pub divided_back : (n d c q r : ℕ) → 0 < c → Division (n * c) (d * c) q r → Division n d q (r / c)
divided_back n d c q r some e =
    let le : q * d ≤ n = le_of_mul-le-mul_right {k = c} (omega (arith, e.whole)) some in
    let k : q * d + (n - q * d) ≡ n = add-sub_of_le le in
    let is : r ≡ (n - q * d) * c = omega (arith, e.whole, ap (λ (z : ℕ). z * c) k) in
    let back : r / c ≡ n - q * d = ap (λ (z : ℕ). z / c) is ∙ mul-div_cancel (n - q * d) some in
    record { whole = omega (arith, k, back); small = lt_of_mul-lt-mul_right c {m = r / c} {n = d} (rw back (rw is at (e.small))) }

-- a word shifted until its highest bit is set
pub shifted_fits : (d : ℕ) → d < 2 ^ 64 → d * 2 ^ count_leading_zeros 64 d < 2 ^ 64
shifted_fits d h =
    let (m, e, l, r) = leading_length 64 d h in
    let sum : m + count_leading_zeros 64 d ≡ 64 = omega arith in
    let whole : 2 ^ m * 2 ^ count_leading_zeros 64 d ≡ 2 ^ 64 = sym (pow-add 2 m (count_leading_zeros 64 d)) ∙ ap (λ (k : ℕ). 2 ^ k) sum in
    omega (arith, mul-lt-mul_of_pos_right l (pow_pos (count_leading_zeros 64 d)), whole)

-- two words of which the upper one is 0 are divided as one word
pub one_word : (a b hi lo d : ℕ) (r : Divided) → Division lo d r.quotient r.remainder → hi * 2 ^ 64 + lo ≡ a * b → lo < 2 ^ 64 → hi < d
    → hi ≡ 0 → Some r ≡ mul_div_of a b d
one_word a b hi lo d r e p hl hd z =
    fits_at_law a b d r (record { whole = e.whole ∙ omega arith; small = e.small }) (upper_below (a * b) hi lo d p hl hd)

-- the ways out of a division by two words
pub ruleset divisions = (fits_at_law, past_at, upper_below, upper_above, one_word)

-- what an answer of mul_div_of says
pub record Floor (a b d : ℕ) (r : Divided) : Type 0 where
  pub quotient : r.quotient ≡ a * b / d
  pub remainder : r.remainder ≡ a * b % d
  pub below : a * b < d * 2 ^ 64

abbrev floor : (a b d : ℕ) → Divided
floor a b d = record { quotient = a * b / d; remainder = a * b % d }

-- two factors of one half each: the product is one word
pub short_at : (a b d : ℕ) (r : Divided) → Division (a * b) d r.quotient r.remainder → 0 < d → a < 2 ^ 32 → b < 2 ^ 32
    → Some r ≡ mul_div_of a b d
short_at a b d r e h ha hb =
    let p : a * b ≤ (2 ^ 32 - 1) * (2 ^ 32 - 1) = half_product a b ha hb in
    fits_at_law a b d r e (omega arith)

pub fits_says : (a b d : ℕ) (r : Divided) → mul_div_of a b d ≡ Some r → Floor a b d r
unfolding mul_div_of
fits_says a b d r e = go (ltb (a * b) (d * 2 ^ 64)) refl e
  where
    go : (t : Bool) → ltb (a * b) (d * 2 ^ 64) ≡ t → (if t then Some (floor a b d) else None) ≡ Some r
        → Floor a b d r
    go true h q = record { quotient = cc; remainder = cc; below = ltb-true (a * b) (d * 2 ^ 64) h }
    go false h q = absurd cc

pub past_says : (a b d : ℕ) → mul_div_of a b d ≡ None → d * 2 ^ 64 ≤ a * b
unfolding mul_div_of
past_says a b d e = go (ltb (a * b) (d * 2 ^ 64)) refl e
  where
    go : (t : Bool) → ltb (a * b) (d * 2 ^ 64) ≡ t → (if t then Some (floor a b d) else None) ≡ None
        → d * 2 ^ 64 ≤ a * b
    go true h q = absurd cc
    go false h q = ltb-false (a * b) (d * 2 ^ 64) h

-- the same by the floor itself
pub floor_lt : (a b d : ℕ) (r : Divided) → Floor a b d r → a * b / d < 2 ^ 64
floor_lt a b d r f = (div-lt_iff_lt-mul {k = d} {x = a * b} {y = 2 ^ 64} (omega (arith, f.below))).1 (omega (arith, f.below))

pub past_floor : (a b d : ℕ) → 0 < d → mul_div_of a b d ≡ None → 2 ^ 64 ≤ a * b / d
past_floor a b d h e = (le-div_iff_mul-le {k = d} {x = 2 ^ 64} {y = a * b} h).1 (omega (arith, past_says a b d e))
