-- Laws of keys as numbers: bytes to words to a number, the order, and the words of the image. Assumes nothing.
use mathlib.Core.Path.{◌≡◌, refl, sym, ap, ◌∙◌}
use mathlib.Core.Bool.{Bool, true, false, ◌&&◌}
use mathlib.Core.List.{List, [], ◌∷◌}
use Prim.Native.Nat.{ℕ, zero, suc, ◌+◌, ◌*◌, ◌/◌, ◌%◌, ◌^◌, ◌≤◌, ◌<◌}
use native.Mathlib.Nat.{add-zero, add-suc, mul-le-mul_right, mul_assoc, pow-suc, add_assoc, mod-eq_of_lt}
use native.Mathlib.Omega.{arith}
use Rattle.std.proofs.Common.{lit<}
use lib.ListN.{get_or}
use Rattle.std.specs.Prelude.{Some, take, drop}
use Rattle.std.specs.Int.{w16, w64, from_be_bytes, from_le_bytes, to_le_bytes, swap_bytes}
use Rattle.std.specs.Ordering.{MatchOrdering, nat_cmp, ordering_then, partial_ordering_then, is_some_and, is_lt}
use Rattle.std.specs.Cmp.{nat_cmp_is, Some-then}
use Rattle.std.proofs.lemmas.Cmp.{ranked}
use lib.Dec.{ltb, eqb}
use borrow.Author.Tests.{lt-ltb, le-ltb, eq-eqb, eqb-true, ltb-true, ltb-false}
use Rattle.std.proofs.lemmas.List.{get_or-take, get_or-drop}
use Rattle.types.specs.Base.{word}
use Rattle.types.proofs.Below.{and_both}
use Rattle.std.specs.declared.cmp.Ordering.{Ordering}
use Rattle.std.specs.declared.cmp.Ordering.TheVariants.{Less, Equal, Greater}
use Rattle.publisher_caps.specs.Key.{big_endian, little_endian, swapped, pair, number, number_by}
use Rattle.publisher_caps.specs.declared.key.KeyNumber.{KeyNumber}

-- ---- bytes

-- a number of more bytes, from the numbers of its two parts
split : (m : List ℕ) (at j k : ℕ) → big_endian m at (j + k) ≡ big_endian m at j * 256 ^ k + big_endian m (at + j) k
unfolding big_endian
split m at j zero = rw (add-zero j) (omega arith)
split m at j (suc k) =
    rw (add-suc j k)
    (omega (
      arith,
      split m at j k,
      pow-suc 256 k,
      ap (λ (n : ℕ). big_endian m at j * n) (pow-suc 256 k),
      mul_assoc (big_endian m at j) (256 ^ k) 256,
      ap (λ (n : ℕ). get_or m n 0) (add_assoc at j k),
    ))

-- a number of n bytes is below 256 ^ n
pub bytes_below : (m : List ℕ) → ((i : ℕ) → get_or m i 0 < 256) → (at n : ℕ) → big_endian m at n < 256 ^ n
unfolding big_endian
bytes_below m small at zero = omega arith
bytes_below m small at (suc n) = rw (pow-suc 256 n) (let r = bytes_below m small at n in let b = small (at + n) in omega arith)

-- of two lists of 32 bytes the first eight decide, where they differ
pub first_above : (a b : List ℕ) → ((i : ℕ) → get_or a i 0 < 256) → big_endian a 0 8 < big_endian b 0 8 → big_endian a 0 32 < big_endian b 0 32
first_above a b small h =
    rw (split a 0 8 24, split b 0 8 24) (let r = bytes_below a small 8 24 in let s = mul-le-mul_right (256 ^ 24) h in omega arith)

-- eight bytes, the first the highest
pub eight : (m : List ℕ) (at : ℕ)
    → get_or m at 0 * 2 ^ 56 + get_or m (at + 1) 0 * 2 ^ 48 + get_or m (at + 2) 0 * 2 ^ 40 + get_or m (at + 3) 0 * 2 ^ 32
    + get_or m (at + 4) 0 * 2 ^ 24 + get_or m (at + 5) 0 * 2 ^ 16 + get_or m (at + 6) 0 * 2 ^ 8 + get_or m (at + 7) 0
    ≡ big_endian m at 8
unfolding big_endian
eight m at = omega (arith, ap (λ (n : ℕ). get_or m n 0) (add-zero at))

-- eight bytes, the first the lowest
eight_little : (m : List ℕ) (at : ℕ)
    → get_or m (at + 7) 0 * 2 ^ 56 + get_or m (at + 6) 0 * 2 ^ 48 + get_or m (at + 5) 0 * 2 ^ 40 + get_or m (at + 4) 0 * 2 ^ 32
    + get_or m (at + 3) 0 * 2 ^ 24 + get_or m (at + 2) 0 * 2 ^ 16 + get_or m (at + 1) 0 * 2 ^ 8 + get_or m at 0
    ≡ little_endian m at 8
unfolding little_endian
eight_little m at =
    let b : (i j : ℕ) → i ≡ j → get_or m i 0 ≡ get_or m j 0 = λ i j e. ap (λ (n : ℕ). get_or m n 0) e in
    omega (
      arith,
      b (at + 2) (at + 1 + 1) (omega arith),
      b (at + 3) (at + 1 + 1 + 1) (omega arith),
      b (at + 4) (at + 1 + 1 + 1 + 1) (omega arith),
      b (at + 5) (at + 1 + 1 + 1 + 1 + 1) (omega arith),
      b (at + 6) (at + 1 + 1 + 1 + 1 + 1 + 1) (omega arith),
      b (at + 7) (at + 1 + 1 + 1 + 1 + 1 + 1 + 1) (omega arith),
    )

-- ---- words of the image

-- the code's sum
pub swap_sum : (x : ℕ)
    → x % 256 * 2 ^ 56 + x / 256 % 256 * 2 ^ 48 + x / 2 ^ 16 % 256 * 2 ^ 40 + x / 2 ^ 24 % 256 * 2 ^ 32
    + x / 2 ^ 32 % 256 * 2 ^ 24 + x / 2 ^ 40 % 256 * 2 ^ 16 + x / 2 ^ 48 % 256 * 2 ^ 8 + x / 2 ^ 56 % 256
    ≡ swapped x
unfolding swapped big_endian
swap_sum x =
    sums (x % 256) (x / 256 % 256) (x / 2 ^ 16 % 256) (x / 2 ^ 24 % 256)
    (x / 2 ^ 32 % 256) (x / 2 ^ 40 % 256) (x / 2 ^ 48 % 256) (x / 2 ^ 56 % 256)
  where
    sums : (a b c d e f g h : ℕ)
        → a * 2 ^ 56 + b * 2 ^ 48 + c * 2 ^ 40 + d * 2 ^ 32 + e * 2 ^ 24 + f * 2 ^ 16 + g * 2 ^ 8 + h
        ≡ big_endian (a ∷ b ∷ c ∷ d ∷ e ∷ f ∷ g ∷ h ∷ []) 0 8
    sums a b c d e f g h = omega arith

-- swapping turns eight bytes around
module _ (a b c d e f g h : ℕ)
    (ha : a < 256) (hb : b < 256) (hc : c < 256) (hd : d < 256) (he : e < 256) (hf : f < 256) (hg : g < 256) (hh : h < 256)
  where
    pub turned : (x : ℕ) → x ≡ h * 2 ^ 56 + g * 2 ^ 48 + f * 2 ^ 40 + e * 2 ^ 32 + d * 2 ^ 24 + c * 2 ^ 16 + b * 2 ^ 8 + a
        → swapped x ≡ a * 2 ^ 56 + b * 2 ^ 48 + c * 2 ^ 40 + d * 2 ^ 32 + e * 2 ^ 24 + f * 2 ^ 16 + g * 2 ^ 8 + h
    turned x q =
        let ea : x % 256 ≡ a = omega arith in
        let qb : x / 256 ≡ h * 2 ^ 48 + g * 2 ^ 40 + f * 2 ^ 32 + e * 2 ^ 24 + d * 2 ^ 16 + c * 2 ^ 8 + b = omega arith in
        let eb : x / 256 % 256 ≡ b = rw qb (omega arith) in
        let qc : x / 2 ^ 16 ≡ h * 2 ^ 40 + g * 2 ^ 32 + f * 2 ^ 24 + e * 2 ^ 16 + d * 2 ^ 8 + c = omega arith in
        let ec : x / 2 ^ 16 % 256 ≡ c = rw qc (omega arith) in
        let qd : x / 2 ^ 24 ≡ h * 2 ^ 32 + g * 2 ^ 24 + f * 2 ^ 16 + e * 2 ^ 8 + d = omega arith in
        let ed : x / 2 ^ 24 % 256 ≡ d = rw qd (omega arith) in
        let qe : x / 2 ^ 32 ≡ h * 2 ^ 24 + g * 2 ^ 16 + f * 2 ^ 8 + e = omega arith in
        let ee : x / 2 ^ 32 % 256 ≡ e = rw qe (omega arith) in
        let qf : x / 2 ^ 40 ≡ h * 2 ^ 16 + g * 2 ^ 8 + f = omega arith in
        let ef : x / 2 ^ 40 % 256 ≡ f = rw qf (omega arith) in
        let qg : x / 2 ^ 48 ≡ h * 2 ^ 8 + g = omega arith in
        let eg : x / 2 ^ 48 % 256 ≡ g = rw qg (omega arith) in
        let qh : x / 2 ^ 56 ≡ h = omega arith in
        let eh : x / 2 ^ 56 % 256 ≡ h = rw qh (mod-eq_of_lt hh) in
        sym (swap_sum x) ∙ rw (ea, eb, ec, ed, ee, ef, eg, eh)

module _ (m : List ℕ) (small : (i : ℕ) → get_or m i 0 < 256) (at : ℕ) where
  -- eight bytes read in one order and swapped are read in the other
  pub swap_little : swapped (little_endian m at 8) ≡ big_endian m at 8
  swap_little =
      turned _ _ _ _ _ _ _ _
      (small at) (small (at + 1)) (small (at + 2)) (small (at + 3)) (small (at + 4)) (small (at + 5)) (small (at + 6)) (small (at + 7))
      (little_endian m at 8) (sym (eight_little m at))
      ∙ eight m at

-- ---- four words

-- the zero key
pub key_zero : number (swapped 0) (swapped 0) (swapped 0) (swapped 0) ≡ 0
unfolding swapped big_endian pair
key_zero = refl

pub number_same : {a b c d a' b' c' d' : ℕ} → a ≡ a' → b ≡ b' → c ≡ c' → d ≡ d' → number a b c d ≡ number a' b' c' d'
number_same ea eb ec ed = cc

-- the four words of 32 bytes
pub four : (m : List ℕ) (at a b c d : ℕ) → a ≡ big_endian m at 8 → b ≡ big_endian m (at + 8) 8 → c ≡ big_endian m (at + 16) 8
    → d ≡ big_endian m (at + 24) 8 → number a b c d ≡ big_endian m at 32
unfolding pair
four m at a b c d ea eb ec ed = rw (ea, eb, ec, ed, split m at 24 8, split m at 16 8, split m at 8 8)

pair_high : {x y b : ℕ} (d : ℕ) → x < y → b < word → pair x b < pair y d
unfolding pair
pair_high d h small = omega arith

pub pair_same : (x y b d : ℕ) → b < word → d < word → pair x b ≡ pair y d → (x ≡ y) × (b ≡ d)
unfolding pair
pair_same x y b d hb hd e = (omega arith, omega arith)

-- the first word decides
module _ (a b c d a' b' c' d' : ℕ) where
  pub less_0 : a < a' → b < word → c < word → d < word → number a b c d < number a' b' c' d'
  less_0 h fb fc fd = pair_high _ (pair_high _ (pair_high _ h fb) fc) fd

-- ---- the order

-- the higher words decide, and where they are the same the lower ones
pair_order : (x y b d : ℕ) → b < word → d < word → ordering_then (nat_cmp x y) (nat_cmp b d) ≡ nat_cmp (pair x b) (pair y d)
unfolding pair
pair_order x y b d fb fd = nat_cmp_is _ _ _ (go (nat_cmp x y) (nat_cmp b d) (ranked x y _ refl) (ranked b d _ refl))
  where
    go : (r s : Ordering) → MatchOrdering r (x < y) (x ≡ y) (y < x) → MatchOrdering s (b < d) (b ≡ d) (d < b)
        → MatchOrdering (ordering_then r s) (pair x b < pair y d) (pair x b ≡ pair y d) (pair y d < pair x b)
    go Less s h k = omega arith
    go Greater s h k = omega arith
    go Equal Less h k = omega arith
    go Equal Equal h k = omega arith
    go Equal Greater h k = omega arith

then_assoc : (a b c : Ordering) → ordering_then a (ordering_then b c) ≡ ordering_then (ordering_then a b) c
then_assoc Less b c = refl
then_assoc Equal b c = refl
then_assoc Greater b c = refl

-- keys in the order of their words are in that of their numbers
pub order_number : (k l : KeyNumber) → k.1 < word → k.2 < word → k.3 < word → l.1 < word → l.2 < word → l.3 < word
    → ordering_then (nat_cmp k.0 l.0) (ordering_then (nat_cmp k.1 l.1) (ordering_then (nat_cmp k.2 l.2) (nat_cmp k.3 l.3)))
    ≡ nat_cmp (number_by k) (number_by l)
order_number k l k1 k2 k3 l1 l2 l3 =
    rw (
      then_assoc (nat_cmp k.0 l.0) (nat_cmp k.1 l.1) (ordering_then (nat_cmp k.2 l.2) (nat_cmp k.3 l.3)),
      then_assoc (ordering_then (nat_cmp k.0 l.0) (nat_cmp k.1 l.1)) (nat_cmp k.2 l.2) (nat_cmp k.3 l.3),
      pair_order k.0 l.0 k.1 l.1 k1 l1,
      pair_order (pair k.0 k.1) (pair l.0 l.1) k.2 l.2 k2 l2,
    ) (pair_order _ _ _ _ k3 l3)

-- the lower words of a key are words
abbrev pub Small : KeyNumber → Type 0
Small k = (k.1 < word) × (k.2 < word) × (k.3 < word)

-- what `k < l` answers
abbrev pub lt_of : (k l : KeyNumber) → Bool
lt_of k l =
    is_some_and is_lt (partial_ordering_then (Some (nat_cmp k.0 l.0)) (partial_ordering_then (Some (nat_cmp k.1 l.1))
    (partial_ordering_then (Some (nat_cmp k.2 l.2)) (Some (nat_cmp k.3 l.3)))))

below : (x y : ℕ) → is_lt (nat_cmp x y) ≡ ltb x y
below x y = go (nat_cmp x y) (ranked x y _ refl)
  where
    go : (o : Ordering) → MatchOrdering o (x < y) (x ≡ y) (y < x) → is_lt o ≡ ltb x y
    go Less h = sym (lt-ltb x y h)
    go Equal h = sym (le-ltb x y (omega arith))
    go Greater h = sym (le-ltb x y (omega arith))

pub lt_number : (k l : KeyNumber) → Small k → Small l → lt_of k l ≡ ltb (number_by k) (number_by l)
lt_number k l small_k small_l =
    rw (
      Some-then (nat_cmp k.2 l.2) (nat_cmp k.3 l.3),
      Some-then (nat_cmp k.1 l.1) (ordering_then (nat_cmp k.2 l.2) (nat_cmp k.3 l.3)),
      Some-then (nat_cmp k.0 l.0) (ordering_then (nat_cmp k.1 l.1) (ordering_then (nat_cmp k.2 l.2) (nat_cmp k.3 l.3))),
    )
    (ap is_lt (order_number k l small_k.0 small_k.1 small_k.2 small_l.0 small_l.1 small_l.2) ∙ below (number_by k) (number_by l))

-- what `k == l` answers
abbrev pub eq_of : (k l : KeyNumber) → Bool
eq_of k l = eqb k.0 l.0 && (eqb k.1 l.1 && (eqb k.2 l.2 && eqb k.3 l.3))

module _ (k l : KeyNumber) where
  pub eq_true : eq_of k l ≡ true → number_by k ≡ number_by l
  eq_true e =
      let d0 = and_both (eqb k.0 l.0) (eqb k.1 l.1 && (eqb k.2 l.2 && eqb k.3 l.3)) e in
      let d1 = and_both (eqb k.1 l.1) (eqb k.2 l.2 && eqb k.3 l.3) d0.1 in
      let d2 = and_both (eqb k.2 l.2) (eqb k.3 l.3) d1.1 in
      number_same (eqb-true k.0 l.0 d0.0) (eqb-true k.1 l.1 d1.0) (eqb-true k.2 l.2 d2.0) (eqb-true k.3 l.3 d2.1)

  pub eq_false : eq_of k l ≡ false → number_by k ≡ number_by l → Small k → Small l → ⊥
  eq_false e q small_k small_l =
      let t3 = pair_same _ _ _ _ small_k.2 small_l.2 q in
      let t2 = pair_same _ _ _ _ small_k.1 small_l.1 t3.0 in
      let t1 = pair_same _ _ _ _ small_k.0 small_l.0 t2.0 in
      let same : eq_of k l ≡ true = simp (eq-eqb k.0 l.0 t1.0, eq-eqb k.1 l.1 t1.1, eq-eqb k.2 l.2 t2.1, eq-eqb k.3 l.3 t3.1) in
      absurd cc

-- what their answers say of the numbers
module _ (k l : KeyNumber) (small_k : Small k) (small_l : Small l) (t : Bool) where
  pub less_says : t ≡ lt_of k l → t ≡ true → number_by k < number_by l
  less_says e h = ltb-true _ _ (sym (lt_number k l small_k small_l) ∙ sym e ∙ h)

  pub not_less_says : t ≡ lt_of k l → t ≡ false → number_by l ≤ number_by k
  not_less_says e h = ltb-false _ _ (sym (lt_number k l small_k small_l) ∙ sym e ∙ h)

  pub other_says : t ≡ eq_of k l → t ≡ false → number_by k ≡ number_by l → ⊥
  other_says e h q = eq_false k l (sym e ∙ h) q small_k small_l

-- ---- the library's reading

big_sum : (xs : List ℕ)
    → from_be_bytes w64 xs
    ≡ get_or xs 0 0 * 2 ^ 56 + get_or xs 1 0 * 2 ^ 48 + get_or xs 2 0 * 2 ^ 40 + get_or xs 3 0 * 2 ^ 32
    + get_or xs 4 0 * 2 ^ 24 + get_or xs 5 0 * 2 ^ 16 + get_or xs 6 0 * 2 ^ 8 + get_or xs 7 0
big_sum xs = refl

little_sum : (xs : List ℕ)
    → from_le_bytes w64 xs
    ≡ get_or xs 0 0 + get_or xs 1 0 * 2 ^ 8 + get_or xs 2 0 * 2 ^ 16 + get_or xs 3 0 * 2 ^ 24
    + get_or xs 4 0 * 2 ^ 32 + get_or xs 5 0 * 2 ^ 40 + get_or xs 6 0 * 2 ^ 48 + get_or xs 7 0 * 2 ^ 56
little_sum xs = refl

module _ (m : List ℕ) (at : ℕ) where
  byte : (n i : ℕ) → i < n → get_or (take n (drop at m)) i 0 ≡ get_or m (at + i) 0
  byte n i h = get_or-take n (drop at m) i 0 h ∙ get_or-drop at m i 0

  first : (n : ℕ) → 0 < n → get_or (take n (drop at m)) 0 0 ≡ get_or m at 0
  first n h = byte n 0 h ∙ ap (λ (k : ℕ). get_or m k 0) (add-zero at)

  pub big_word : from_be_bytes w64 (take 8 (drop at m)) ≡ big_endian m at 8
  big_word =
      big_sum (take 8 (drop at m))
      ∙ rw (
        first 8 (lit< tt),
        byte 8 1 (lit< tt),
        byte 8 2 (lit< tt),
        byte 8 3 (lit< tt),
        byte 8 4 (lit< tt),
        byte 8 5 (lit< tt),
        byte 8 6 (lit< tt),
        byte 8 7 (lit< tt),
      ) (eight m at)

  pub big_half : from_be_bytes w16 (take 2 (drop at m)) ≡ big_endian m at 2
  unfolding big_endian
  big_half = omega (arith, first 2 (lit< tt), byte 2 1 (lit< tt), ap (λ (k : ℕ). get_or m k 0) (add-zero at))

  pub little_word : from_le_bytes w64 (take 8 (drop at m)) ≡ little_endian m at 8
  little_word =
      little_sum (take 8 (drop at m))
      ∙ rw (
        first 8 (lit< tt),
        byte 8 1 (lit< tt),
        byte 8 2 (lit< tt),
        byte 8 3 (lit< tt),
        byte 8 4 (lit< tt),
        byte 8 5 (lit< tt),
        byte 8 6 (lit< tt),
        byte 8 7 (lit< tt),
      ) (omega (arith, eight_little m at))

pub swapped_word : (x : ℕ) → swap_bytes w64 x ≡ swapped x
swapped_word x = big_sum (to_le_bytes w64 x) ∙ swap_sum x

-- four bytes, the first the highest
pub four_bytes : (m : List ℕ) (at : ℕ)
    → get_or m at 0 * 2 ^ 24 + get_or m (at + 1) 0 * 2 ^ 16 + get_or m (at + 2) 0 * 2 ^ 8 + get_or m (at + 3) 0 ≡ big_endian m at 4
unfolding big_endian
four_bytes m at = omega (arith, ap (λ (n : ℕ). get_or m n 0) (add-zero at))
