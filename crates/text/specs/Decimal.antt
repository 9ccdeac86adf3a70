-- A decimal number, read from its ASCII digits. Assumes nothing.
use Rattle.std.specs.Prelude.{ℕ, ◌+◌, ◌*◌, ◌-◌, ◌^◌, cond, List, [], ◌∷◌, length, ltb, eqb, Result, Ok, Err}
use Rattle.text.specs.declared.NumberError.{NumberError}
use Rattle.text.specs.declared.NumberError.TheVariants.{NoDigits, NotDigit, TooLarge}

-- the number n with one more digit behind it
unfoldable pub next_of : (n b : ℕ) → Result ℕ NumberError
next_of n b =
    cond (ltb b 48) (Err NotDigit)
    (cond (ltb 57 b) (Err NotDigit)
    (cond (ltb (n * 10 + (b - 48)) (2 ^ 64)) (Ok (n * 10 + (b - 48))) (Err TooLarge)))

-- the number of the digits in s, n being the number of the digits before them; the first byte that is no digit or takes it past 64 bits ends it
unfoldable pub onward : ℕ → List ℕ → Result ℕ NumberError
onward n [] = Ok n
onward n (b ∷ s) = elim (next_of n b) [ Ok m ↦ onward m s | Err e ↦ Err e ]

-- one digit or more
unfoldable pub number_of : List ℕ → Result ℕ NumberError
number_of s = cond (eqb (length s) 0) (Err NoDigits) (onward 0 s)
