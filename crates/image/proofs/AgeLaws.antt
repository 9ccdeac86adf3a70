-- The ring: how old the event in a slot is, counted back from the newest. Assumes nothing.
use mathlib.Core.Path.{◌≡◌, sym, ◌∙◌, ap}
use Prim.Native.Nat.{ℕ, zero, suc, ◌+◌, ◌-◌, ◌*◌, ◌/◌, ◌%◌, ◌≤◌, ◌<◌}
use native.Mathlib.Nat.{suc-mul, mod-lt, suc-mod, mod_self, mod-eq_of_lt, div-add-mod'}
use native.Mathlib.Numerals.{add-one}
use native.Mathlib.Omega.{arith}
use lib.Arith.{digits_mod}

-- with m events so far, slot s holds the event of this age: 0 the newest, number m - 1
unfoldable pub age : ℕ → ℕ → ℕ → ℕ
age e m s = (m + (e - 1 - s)) % e

pub age_lt : (e m s : ℕ) → 1 ≤ e → age e m s < e
unfolding age
age_lt e m s h = mod-lt (m + (e - 1 - s)) h

-- the slot that the next event goes to is the oldest
pub age_next : (e m : ℕ) → 1 ≤ e → age e m (m % e) ≡ e - 1
unfolding age
age_next e m h =
    let b = mod-lt m h in
    let q : m + (e - 1 - m % e) ≡ (m / e) * e + (e - 1) = omega (arith, div-add-mod' m e) in
    let b' : e - 1 < e = omega arith in
    ap (λ (k : ℕ). k % e) q ∙ digits_mod (m / e) b'

-- and no other slot is
pub age_other : (e m s : ℕ) → 1 ≤ e → s < e → age e m s ≡ e - 1 → s ≡ m % e
unfolding age
age_other e m s h b a =
    let k : ℕ = m + (e - 1 - s) in
    let q : m ≡ (k / e) * e + s = omega (arith, div-add-mod' k e) in
    sym (ap (λ (i : ℕ). i % e) q ∙ digits_mod (k / e) b)

-- once it is written it is the newest, and every other is one older
pub age_zero : (e m : ℕ) → 1 ≤ e → age e (m + 1) (m % e) ≡ 0
unfolding age
age_zero e m h =
    let q : m + 1 + (e - 1 - m % e) ≡ suc (m + (e - 1 - m % e)) = omega arith in
    let r : suc (e - 1) ≡ e = omega arith in
    let a : (m + (e - 1 - m % e)) % e ≡ e - 1 = age_next e m h in
    ap (λ (k : ℕ). k % e) q ∙ suc-mod (m + (e - 1 - m % e)) e ∙ ap (λ (k : ℕ). suc k % e) a ∙ ap (λ (k : ℕ). k % e) r ∙ mod_self e

pub age_suc : (e m s : ℕ) → 1 ≤ e → s < e → (s ≡ m % e → ⊥) → age e (m + 1) s ≡ age e m s + 1
unfolding age
age_suc e m s h b ne =
    let k : ℕ = m + (e - 1 - s) in
    let q : m + 1 + (e - 1 - s) ≡ suc k = omega arith in
    let l : k % e < e = mod-lt k h in
    let n : k % e ≡ e - 1 → ⊥ = λ a. ne (age_other e m s h b a) in
    let l' : suc (k % e) < e = omega arith in
    ap (λ (i : ℕ). i % e) q ∙ suc-mod k e ∙ mod-eq_of_lt l' ∙ sym (add-one (k % e))

-- the slot of the event of age j, where there is one
pub age_of : (e m j : ℕ) → 1 ≤ e → j < e → j < m → age e m ((m - 1 - j) % e) ≡ j
unfolding age
age_of e m j h b c =
    let i : ℕ = m - 1 - j in
    let l : i % e < e = mod-lt i h in
    let q : m + (e - 1 - i % e) ≡ suc (i / e) * e + j = omega (arith, div-add-mod' i e) in
    ap (λ (k : ℕ). k % e) q ∙ digits_mod (suc (i / e)) b

-- and the other way: a slot that has an event is the one of that event's age
pub slot_of : (e m s : ℕ) → 1 ≤ e → s < e → age e m s < m → s ≡ (m - 1 - age e m s) % e
unfolding age
slot_of e m s h b l =
    let k : ℕ = m + (e - 1 - s) in
    let d = div-add-mod' k e in
    let some : 1 ≤ k / e = more (k / e) d in
    let q : m - 1 - k % e ≡ (k / e - 1) * e + s = less (k / e) d some in
    sym (ap (λ (i : ℕ). i % e) q ∙ digits_mod (k / e - 1) b)
  where
    more : (d : ℕ) → d * e + (m + (e - 1 - s)) % e ≡ m + (e - 1 - s) → 1 ≤ d
    more zero q = absurd (omega arith)
    more (suc d) q = omega arith

    less : (d : ℕ) → d * e + (m + (e - 1 - s)) % e ≡ m + (e - 1 - s) → 1 ≤ d → m - 1 - (m + (e - 1 - s)) % e ≡ (d - 1) * e + s
    less zero q r = absurd (omega arith)
    less (suc d) q r = let z : suc d - 1 ≡ d = omega arith in rw z (omega (arith, suc-mul d e))
