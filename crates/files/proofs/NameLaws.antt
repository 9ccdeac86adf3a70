-- The second name of a path is longer than the path; the digits of its numbers. Assumes nothing.
use Rattle.std.proofs.Common.{◌≡◌, ℕ, zero, suc, ◌+◌, ◌-◌, ◌*◌, ◌/◌, ◌%◌, ◌^◌, ◌<◌, ◌≤◌, false, List, [], ◌∷◌, ◌++◌, length, length-append, append-nil, append_assoc, sym, ◌∙◌, eq-eqb, ne_eqb, lt-ltb, decimal, arith}
use native.Mathlib.Nat.{pow-succ', pow-le-pow_right}
use Rattle.std.specs.Fmt.{digits_onto, digits}
use Rattle.io.specs.Digits.{last_digits, hex_digit_ascii, IsDigitCount}
use Rattle.std.proofs.lemmas.Fmt.{decimal_nonempty}
use Rattle.files.specs.Name.{dotted, ending_of, second_name}

dotted_long : (n : ℕ) → n < 2 ^ 64 → 2 ≤ length (dotted n)
unfolding dotted
dotted_long n h = let d : 0 < length (decimal n) = decimal_nonempty n h in omega arith

-- by the shortest ending at least
pub name_long : (path : List ℕ) (process number : ℕ) → process < 2 ^ 64 → number < 100 → length path + 8 ≤ length (second_name path process number)
unfolding second_name ending_of
name_long path process number h k =
    let new : List ℕ = 46 ∷ 110 ∷ 101 ∷ 119 ∷ [] in
    omega
    (arith, length-append path (dotted process ++ (dotted number ++ new)), length-append (dotted process) (dotted number ++ new), length-append (dotted number) new, dotted_long process h, dotted_long number (omega arith))

-- ---- digits

digits_are : (j k n : ℕ) (acc : List ℕ) → k ≤ j → IsDigitCount 10 1 n k → last_digits 10 k n ++ acc ≡ digits_onto j 10 false n acc
digits_are j zero n acc h f = absurd (omega (arith, f.0))
digits_are zero (suc k) n acc h f = absurd (omega arith)
digits_are (suc j) (suc zero) n acc h f =
    let l : n < 10 = f.1 in
    let z : n / 10 ≡ 0 = omega arith in
    let d : n % 10 < 10 = omega arith in rw (eq-eqb (n / 10) 0 z, lt-ltb (n % 10) 10 d)
digits_are (suc j) (suc (suc k)) n acc h f =
    let p : 10 ^ suc (suc k) ≡ 10 * 10 ^ suc k = pow-succ' 10 (suc k) in
    let q : 10 ^ suc k ≡ 10 * 10 ^ k = pow-succ' 10 k in
    let u : n < 10 ^ suc (suc k) = f.1 in
    let e : suc (suc k) - 1 ≡ suc k = omega arith in
    let v : 10 ^ suc k ≤ n = rw e at (f.2 (omega arith)) in
    let o : 1 ≤ 10 ^ k = pow-le-pow_right {n = 10} (omega arith) {i = 0} {j = k} (omega arith) in
    let d : n % 10 < 10 = omega arith in
    let e' : suc k - 1 ≡ k = omega arith in
    let less : IsDigitCount 10 1 (n / 10) (suc k) = (omega arith, omega arith, λ _. rw e' (omega arith)) in
    append_assoc (last_digits 10 (suc k) (n / 10)) (hex_digit_ascii (n % 10) ∷ []) acc
    ∙ rw (ne_eqb (n / 10) 0 (λ z. omega arith), lt-ltb (n % 10) 10 d) (digits_are j (suc k) (n / 10) ((48 + n % 10) ∷ acc) (omega arith) less)

-- the fewest digits are those of the definition
pub decimal_is : (k n : ℕ) → k ≤ 64 → IsDigitCount 10 1 n k → last_digits 10 k n ≡ decimal n
unfolding digits
decimal_is k n h f = sym (append-nil (last_digits 10 k n)) ∙ digits_are 64 k n [] h f
