-- Laws of decimal numbers, of which the digits from place i on are still to be read. Assumes nothing.
use Rattle.std.proofs.Common.{◌≡◌, ℕ, ◌+◌, ◌*◌, ◌-◌, ◌^◌, ◌<◌, ◌≤◌, List, length, drop, get_or, drop-cons, le-ltb, eq-eqb, Ok, Err}
use Rattle.std.proofs.Math.ListN.{drop_of_length-le}
use Rattle.text.specs.declared.NumberError.TheVariants.{NoDigits, TooLarge}
use Rattle.text.specs.Decimal.{next_of, onward, number_of}

too_large : (n b : ℕ) → 48 ≤ b → b ≤ 57 → 2 ^ 64 ≤ n * 10 + (b - 48) → next_of n b ≡ Err TooLarge
unfolding next_of
too_large n b h k l = rw (le-ltb _ _ h, le-ltb _ _ k, le-ltb _ _ l)

-- a digit that takes it past 64 bits
pub large : (n : ℕ) (s : List ℕ) (i : ℕ) → i < length s → (b : ℕ) → b ≡ get_or s i 0 → 48 ≤ b → b ≤ 57 → 2 ^ 64 ≤ n * 10 + (b - 48)
    → Err TooLarge ≡ onward n (drop i s)
unfolding onward
large n s i in_s b there h k l = rw (drop-cons s i 0 in_s, ← there, onward, too_large n b h k l)

-- no digits
pub none : (s : List ℕ) → length s ≡ 0 → Err NoDigits ≡ number_of s
unfolding number_of
none s h = simp (eq-eqb _ _ h)

-- no more digits
pub ended : (n : ℕ) (s : List ℕ) (i : ℕ) → length s ≤ i → Ok n ≡ onward n (drop i s)
unfolding onward
ended n s i h = rw (drop_of_length-le s h)
