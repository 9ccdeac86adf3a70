-- A number that is written in decimal is read back as the same number. Assumes nothing.
use Rattle.std.proofs.Common.{◌≡◌, ℕ, zero, suc, ◌+◌, ◌-◌, ◌*◌, ◌/◌, ◌%◌, ◌^◌, ◌<◌, ◌≤◌, false}
use Rattle.std.proofs.Common.{List, [], ◌∷◌, length, ap, ◌∙◌, arith, eq-eqb, ne_eqb, le-ltb, lt-ltb, decimal, Ok}
use native.Mathlib.Nat.{pow-succ'}
use native.Mathlib.Decide.{ℕ_discrete}
use Rattle.std.specs.Fmt.{digits_onto, digits}
use Rattle.std.proofs.lemmas.Fmt.{decimal_nonempty}
use Rattle.text.specs.Decimal.{next_of, onward, number_of}

-- one digit more
next : (m b : ℕ) → 48 ≤ b → b ≤ 57 → m * 10 + (b - 48) < 2 ^ 64 → next_of m b ≡ Ok (m * 10 + (b - 48))
unfolding next_of
next m b h k l = rw (le-ltb _ _ h, le-ltb _ _ k, lt-ltb _ _ l)

-- the last digit, behind the others
last_digit : (n : ℕ) (acc : List ℕ) → n < 2 ^ 64 → onward (n / 10) ((48 + n % 10) ∷ acc) ≡ onward n acc
unfolding onward
last_digit n acc h =
    let d : n % 10 < 10 = omega arith in
    let w : n / 10 * 10 + (48 + n % 10 - 48) ≡ n = omega arith in
    rw (onward, next (n / 10) (48 + n % 10) (omega arith) (omega arith) (omega arith), w)

-- the digits of n, at most k of them
all_digits : (k n : ℕ) (acc : List ℕ) → n < 10 ^ k → n < 2 ^ 64 → onward 0 (digits_onto k 10 false n acc) ≡ onward n acc
all_digits zero n acc l h = ap (λ (i : ℕ). onward i acc) (omega arith)
all_digits (suc k) n acc l h =
    let p : 10 ^ suc k ≡ 10 * 10 ^ k = pow-succ' 10 k in
    let d : n % 10 < 10 = omega arith in
    go (ℕ_discrete (n / 10) 0) (all_digits k (n / 10) ((48 + n % 10) ∷ acc) (omega arith) (omega arith)) (last_digit n acc h)
  where
    go : Dec (n / 10 ≡ 0) → onward 0 (digits_onto k 10 false (n / 10) ((48 + n % 10) ∷ acc)) ≡ onward (n / 10) ((48 + n % 10) ∷ acc)
        → onward (n / 10) ((48 + n % 10) ∷ acc) ≡ onward n acc → onward 0 (digits_onto (suc k) 10 false n acc) ≡ onward n acc
    go (yes z) e q = rw (eq-eqb (n / 10) 0 z, lt-ltb (n % 10) 10 (omega arith)) (rw z at q)
    go (no z) e q = rw (ne_eqb (n / 10) 0 z, lt-ltb (n % 10) 10 (omega arith)) (e ∙ q)

pub read_back : (n : ℕ) → n < 2 ^ 64 → number_of (decimal n) ≡ Ok n
unfolding number_of digits onward
read_back n h =
    let d : 0 < length (decimal n) = decimal_nonempty n h in
    rw (ne_eqb (length (decimal n)) 0 (λ z. omega arith)) (all_digits 64 n [] (omega arith) h)
