-- Document 01's paragraph 'A caps message is bytes', and refusal 3. Assumes nothing.
use Rattle.std.specs.Prelude.{Bool, ◌&&◌, List, ℕ, zero, suc, ◌+◌, ◌-◌, ◌*◌, ◌≤◌, ◌<◌, leb, ltb, length}
use Rattle.types.specs.Base.{half, all_below}
use Rattle.publisher_caps.specs.declared.PublisherCap.{PublisherCap}
use Rattle.publisher_caps.specs.Key.{big_endian, little_endian}

-- '1 to 8 publish time (signed)': the word as read, and whether it stands for a negative time
unfoldable pub time_of : List ℕ → ℕ
time_of m = big_endian m 1 8

abbrev pub negative_time : List ℕ → Bool
negative_time m = leb half (time_of m)

-- '9 to 10 the row count'
unfoldable pub rows_of : List ℕ → ℕ
rows_of m = big_endian m 9 2

-- 'from 11 rows of a 32-byte key and an 8-byte cap': the key of row i as a number, and its cap
abbrev pub key_at : List ℕ → ℕ → ℕ
key_at m i = big_endian m (11 + i * 40) 32

abbrev pub cap_at : List ℕ → ℕ → ℕ
cap_at m i = big_endian m (11 + i * 40 + 32) 8

-- the key before row i, 0 before the first
abbrev pub key_before : List ℕ → ℕ → ℕ
key_before m zero = 0
key_before m (suc i) = key_at m i

-- word c of row i's key as the image holds it: the little-endian memory of the same bytes
unfoldable pub key_word : List ℕ → (i c : ℕ) → ℕ
key_word m i c = little_endian m (11 + i * 40 + c * 8) 8

-- row i as the Rust's get_cap gives it
unfoldable pub row_of : List ℕ → ℕ → PublisherCap
row_of m i = record {
  pubkey = record { 0 = key_word m i 0; 1 = key_word m i 1; 2 = key_word m i 2; 3 = key_word m i 3 };
  cap = cap_at m i;
}

-- 'keys strictly ascending by bytes from the first': each is below the next one
unfoldable pub ascends : List ℕ → (rows : ℕ) → Bool
ascends m rows = all_below (rows - 1) (λ i. ltb (key_at m i) (key_at m (i + 1)))

-- 'none zero'
unfoldable pub none_zero : List ℕ → (rows : ℕ) → Bool
none_zero m rows = all_below rows (λ i. ltb 0 (key_at m i))

-- refusal 3 is not given: 'Length 11 to 40,971 and at least 11 + 40 times the row count, at most 1,024 rows', and the keys
unfoldable pub message_holds : List ℕ → Bool
message_holds m =
    leb 11 (length m) && leb (length m) 40_971 && leb (11 + 40 * rows_of m) (length m) && leb (rows_of m) 1_024
    && (ascends m (rows_of m) && none_zero m (rows_of m))

-- what a message is to which refusal 3 is not given
pub record Whole (m : List ℕ) : Type 0 where
  pub low : 11 ≤ length m
  pub high : length m ≤ 40_971
  pub room : 11 + 40 * rows_of m ≤ length m
  pub few : rows_of m ≤ 1_024
  pub ordered : (i j : ℕ) → i < j → j < rows_of m → key_at m i < key_at m j
  pub nonzero : (i : ℕ) → i < rows_of m → 0 < key_at m i
