-- Laws of signed words and keys as people read them. Assumes nothing.
use Rattle.std.proofs.Common.{◌≡◌, ℕ, ◌<◌, ◌-◌, ◌/◌, ◌%◌, ◌^◌, Bool, true, false, List, [], ◌∷◌, ◌++◌, length, refl, arith, append-nil, append_assoc}
use Rattle.std.proofs.Math.Nat.{sub_self}
use Rattle.std.specs.Prelude.{ℤ, pos, negsuc, unsigned_abs}
use Rattle.std.specs.List.{repeat}
use Prim.Native.Nat.{suc}
use lib.Dec.{ltb}
use borrow.Author.Tests.{le-ltb}
use lib.Utf8.{encode}
use mir.Syntax.{w64}
use Rattle.std.specs.Int.{cast_signed, is_negative}
use Rattle.std.specs.Fmt.{decimal, signed_decimal, padded_integral, format_spec, char_count}
use Rattle.std.specs.Str.{IsAscii, IsUtf8}
use Rattle.std.proofs.lemmas.Str.{IsUtf8-from_ascii}
use Rattle.std.proofs.lemmas.Str.Ascii.{IsAscii-nil, IsAscii-cons}
use Rattle.io.specs.Digits.{hex_digit_ascii}
use Rattle.types.specs.Base.{half, word}
use Rattle.show.specs.Cells.{to_right, signed_of, hex_byte, four_bytes_of}

-- a signed word's value
pub signed_is : (w : ℕ) → w < word → cast_signed w64 w ≡ signed_of w
unfolding signed_of
signed_is w below = go (ltb w half) refl
  where
    go : (b : Bool) → ltb w half ≡ b → cast_signed w64 w ≡ signed_of w
    go true e = rw e
    go false e = let q : word - w ≡ suc (word - suc w) = omega arith in rw (e, q)

-- a hexadecimal digit is ASCII
digit_ascii : (d : ℕ) → d < 16 → hex_digit_ascii d < 128
digit_ascii d below = go (ltb d 10) refl
  where
    go : (b : Bool) → ltb d 10 ≡ b → hex_digit_ascii d < 128
    go true e = rw e (omega arith)
    go false e = rw e (omega arith)

-- two more of them
byte_ascii : (b : ℕ) (rest : List ℕ) → b < 256 → IsAscii rest → IsAscii (hex_byte b ++ rest)
byte_ascii b rest below h =
    let high = hex_digit_ascii (b / 16) in
    let low = hex_digit_ascii (b % 16) in
    IsAscii-cons high (low ∷ rest) (digit_ascii (b / 16) (omega arith)) (IsAscii-cons low rest (digit_ascii (b % 16) (omega arith)) h)

-- so the digits of four bytes are a text
pub four_bytes_text : (w : ℕ) → IsUtf8 (four_bytes_of w)
unfolding four_bytes_of
four_bytes_text w =
    let fourth : List ℕ = hex_byte (w / 256 ^ 3 % 256) in
    let third : List ℕ = hex_byte (w / 256 ^ 2 % 256) ++ fourth in
    let second : List ℕ = hex_byte (w / 256 % 256) ++ third in
    IsUtf8-from_ascii (four_bytes_of w)
    (byte_ascii (w % 256) second (omega arith)
    (byte_ascii (w / 256 % 256) third (omega arith)
    (byte_ascii (w / 256 ^ 2 % 256) fourth (omega arith)
    (byte_ascii (w / 256 ^ 3 % 256) [] (omega arith) IsAscii-nil))))

-- what `{:>20}` and its kin write of a number's digits
pub column : (places : ℕ) (d : List ℕ) → padded_integral (format_spec 32 3 0 places (2 ^ 64 - 1)) false [] d ≡ to_right places d
unfolding padded_integral to_right char_count encode
column places d =
    let p : places - length d - 0 - 0 ≡ places - length d = omega arith in
    let fill : List ℕ = repeat (places - length d) (32 ∷ []) in
    rw (p, append-nil {A = ℕ} fill, append-nil {A = ℕ} fill, append-nil {A = ℕ} fill, sub_self (places - length d), append-nil {A = ℕ} d) refl

below_zero : (places n : ℕ) → padded_integral (format_spec 32 3 0 places (2 ^ 64 - 1)) true [] (decimal (suc n)) ≡ to_right places (45 ∷ decimal (suc n))
unfolding padded_integral to_right char_count encode
below_zero places n =
    let d = decimal (suc n) in
    let p : places - length d - 1 - 0 ≡ places - suc (length d) = omega arith in
    let fill : List ℕ = repeat (places - suc (length d)) (32 ∷ []) in
    let signed : List ℕ = fill ++ (45 ∷ []) in
    rw (p, append-nil {A = ℕ} signed, append-nil {A = ℕ} signed, sub_self (places - suc (length d)), append-nil {A = ℕ} d, append_assoc {A = ℕ} fill (45 ∷ []) d) refl

-- and of a signed one
pub signed_column : (places : ℕ) (z : ℤ)
    → padded_integral (format_spec 32 3 0 places (2 ^ 64 - 1)) (is_negative z) [] (decimal (unsigned_abs z)) ≡ to_right places (signed_decimal z)
signed_column places (pos n) = let e : is_negative (pos n) ≡ false = le-ltb n 0 (omega arith) in rw e (column places (decimal n))
signed_column places (negsuc n) = below_zero places n
