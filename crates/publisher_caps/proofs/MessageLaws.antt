-- Laws of a message: one for each way out of its check, what the check says, and its rows' words. Assumes nothing.
use mathlib.Core.Path.{◌≡◌, refl, sym, ap, ◌∙◌}
use mathlib.Core.Bool.{Bool, true, false, ◌&&◌}
use mathlib.Core.List.{List}
use Prim.Native.Nat.{ℕ, ◌+◌, ◌*◌, ◌≤◌, ◌<◌}
use native.Mathlib.Omega.{arith}
use lib.Dec.{leb}
use lib.ListN.{length, get_or}
use borrow.Author.Tests.{le-leb, lt-leb, leb-true}
use Rattle.std.specs.Prelude.{take, drop}
use Rattle.std.specs.Int.{w16, from_be_bytes}
use Rattle.types.proofs.Below.{and_both}
use Rattle.publisher_caps.specs.Key.{big_endian, swapped, number, number_of}
use Rattle.publisher_caps.specs.Message.{rows_of, key_at, key_word, row_of, ascends, none_zero, message_holds, Whole}
use Rattle.publisher_caps.proofs.KeyLaws.{big_half, swap_little, four, number_same, key_zero}
use Rattle.publisher_caps.proofs.RowLaws.{ordered_holds, ascends_pairs, none_zero_each}

-- ---- time and row count

pub count_bytes : (m : List ℕ) → from_be_bytes w16 (take 2 (drop 9 m)) ≡ rows_of m
unfolding rows_of
count_bytes m = big_half m 9

-- ---- the check

module _ (m : List ℕ) where
  pub too_short : length m < 11 → false ≡ message_holds m
  unfolding message_holds
  too_short h = simp (lt-leb 11 (length m) h)

  pub too_long : 11 ≤ length m → 40_971 < length m → false ≡ message_holds m
  unfolding message_holds
  too_long a h = simp (le-leb 11 (length m) a, lt-leb (length m) 40_971 h)

  module _ (rows : ℕ) (counted : rows ≡ rows_of m) (a : 11 ≤ length m) (b : length m ≤ 40_971) where
    pub no_room : length m < 11 + 40 * rows → false ≡ message_holds m
    unfolding message_holds
    no_room h = simp (le-leb 11 (length m) a, le-leb (length m) 40_971 b, lt-leb (11 + 40 * rows_of m) (length m) (rw counted at h))

    pub too_many : 1_024 < rows → false ≡ message_holds m
    unfolding message_holds
    too_many h =
        last (leb 11 (length m) && leb (length m) 40_971 && leb (11 + 40 * rows_of m) (length m)) (leb (rows_of m) 1_024)
        (ascends m (rows_of m) && none_zero m (rows_of m))
        (lt-leb (rows_of m) 1_024 (rw counted at h))
      where
        last : (x y z : Bool) → y ≡ false → false ≡ (x && y && z)
        last true y z e = rw e
        last false y z e = refl

    pub by_keys : (r : Bool) → rows ≤ 1_024 → 11 + 40 * rows ≤ length m → r ≡ (ascends m rows && none_zero m rows) → r ≡ message_holds m
    unfolding message_holds
    by_keys r c d h =
        simp (
          le-leb 11 (length m) a,
          le-leb (length m) 40_971 b,
          le-leb (rows_of m) 1_024 (rw counted at c),
          le-leb (11 + 40 * rows_of m) (length m) (rw counted at d),
        ) (rw counted at h)

  -- a message is whole just if refusal 3 is not given to it
  pub holds_whole : message_holds m ≡ true → Whole m
  unfolding message_holds
  holds_whole h =
      let t4 = and_both _ _ h in
      let t3 = and_both _ _ t4.0 in
      let t2 = and_both _ _ t3.0 in
      let t1 = and_both _ _ t2.0 in
      let keys = and_both (ascends m (rows_of m)) (none_zero m (rows_of m)) t4.1 in
      record {
        low = leb-true 11 (length m) t1.0;
        high = leb-true (length m) 40_971 t1.1;
        room = leb-true (11 + 40 * rows_of m) (length m) t2.1;
        few = leb-true (rows_of m) 1_024 t3.1;
        ordered = ascends_pairs m (rows_of m) keys.0;
        nonzero = none_zero_each m (rows_of m) keys.1;
      }

  pub whole_holds : Whole m → message_holds m ≡ true
  whole_holds w =
      sym (by_keys (rows_of m) refl w.low w.high true w.few w.room (ordered_holds m (rows_of m) w.ordered w.nonzero))

-- the ways out of the check
pub ruleset checks = (too_short, too_long, no_room, too_many, by_keys)

-- ---- a row's words

module _ (m : List ℕ) (i : ℕ) where
  module _ (small : (k : ℕ) → get_or m k 0 < 256) where
    word_swapped : (c n : ℕ) → n ≡ 11 + i * 40 + c * 8 → swapped (key_word m i c) ≡ big_endian m n 8
    unfolding key_word
    word_swapped c n e = swap_little m small (11 + i * 40 + c * 8) ∙ ap (λ (k : ℕ). big_endian m k 8) (sym e)

    -- the words of a row's key are its number
    pub row_number : number (swapped (key_word m i 0)) (swapped (key_word m i 1)) (swapped (key_word m i 2)) (swapped (key_word m i 3)) ≡ key_at m i
    row_number =
        four m (11 + i * 40) _ _ _ _
        (word_swapped 0 (11 + i * 40) (omega arith))
        (word_swapped 1 (11 + i * 40 + 8) (omega arith))
        (word_swapped 2 (11 + i * 40 + 16) (omega arith))
        (word_swapped 3 (11 + i * 40 + 24) (omega arith))

    pub row_key : number_of (row_of m i).pubkey ≡ key_at m i
    unfolding row_of
    row_key = row_number

    -- a row's key is not the zero key
    pub row_not_zero : Whole m → i < rows_of m → key_word m i 0 ≡ 0 → key_word m i 1 ≡ 0 → key_word m i 2 ≡ 0 → key_word m i 3 ≡ 0 → ⊥
    row_not_zero whole h e0 e1 e2 e3 =
        omega (arith, whole.nonzero i h, sym row_number ∙ number_same (ap swapped e0) (ap swapped e1) (ap swapped e2) (ap swapped e3) ∙ key_zero)
