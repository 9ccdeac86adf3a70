-- Hexadecimal digits as bytes. Assumes nothing.
use Rattle.std.specs.Prelude.{ℕ, zero, suc, ◌+◌, ◌*◌, ◌-◌, ◌/◌, Bool, cond, List, ltb, eqb, length, take, get_or, set, Option, None, Some, is_some, unwrap_or}
use Rattle.std.specs.List.{list_all}

-- the value of a digit, 0 to 9, A to F or a to f
unfoldable pub nibble_of : ℕ → Option ℕ
nibble_of b =
    cond (ltb b 48) None
    (cond (ltb b 58) (Some (b - 48))
    (cond (ltb b 65) None
    (cond (ltb b 71) (Some (b - 55))
    (cond (ltb b 97) None
    (cond (ltb b 103) (Some (b - 87)) None)))))

unfoldable pub all_hex : List ℕ → Bool
all_hex s = list_all (λ b. is_some (nibble_of b)) s

-- the byte that two digits spell
unfoldable pub pair_of : (high low : ℕ) → Option ℕ
pair_of high low = elim (nibble_of high) [ Some h ↦ elim (nibble_of low) [ Some l ↦ Some (h * 16 + l) | None ↦ None ] | None ↦ None ]

-- the byte that the two digits from place i on spell
unfoldable pub byte_at : List ℕ → ℕ → ℕ
byte_at s i = unwrap_or (pair_of (get_or s i 0) (get_or s (i + 1) 0)) 0

-- an even number of digits, as bytes
unfoldable pub even_of : List ℕ → Option ℕ
even_of s = cond (eqb (length s / 2 * 2) (length s)) (cond (all_hex s) (Some (length s / 2)) None) None

-- the digits that there is room for, two to a byte, as bytes; what is beyond the room is passed over
unfoldable pub bytes_of : List ℕ → (room : ℕ) → Option ℕ
bytes_of s room = even_of (take (room * 2) s)

-- the first n bytes that s spells, at the start of out
unfoldable pub stored : List ℕ → (n : ℕ) → List ℕ → List ℕ
stored s zero out = out
stored s (suc n) out = set (stored s n out) n (byte_at s (n * 2))

-- out as the reader leaves it: untouched where the digits are no bytes
unfoldable pub spelled : Option ℕ → List ℕ → List ℕ → List ℕ
spelled (Some n) s out = stored s n out
spelled None s out = out
