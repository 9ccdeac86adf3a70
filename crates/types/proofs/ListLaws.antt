-- What a chain over a list's elements asks or counts, as a test of the numbers below the list's length; a list cut into parts of one length; and
-- one given by its elements. Assumes nothing.
use mathlib.Core.Path.{◌≡◌, refl, sym, ap, ◌∙◌}
use mathlib.Core.Bool.{Bool, true, false}
use mathlib.Core.List.{List, [], ◌∷◌}
use Prim.Native.Nat.{ℕ, zero, suc, ◌+◌, ◌*◌, ◌<◌, ◌≤◌, zero-le}
use native.Mathlib.Nat.{zero-mul}
use native.Mathlib.Omega.{arith}
use lib.ListN.{length, get_or}
use lib.Seq.{ext_get_or, get_or-take, length-take-le}
use Rattle.std.specs.Prelude.{IsTrue, ◌↔◌, All, Any, cond, take, drop}
use Rattle.std.specs.List.{count_by}
use Rattle.std.proofs.lemmas.List.Sums.{sum_by-cons}
use Rattle.std.specs.Simd.{first_chunks}
use Rattle.std.proofs.lemmas.List.{get_or_default, drop-drop}
use Rattle.types.specs.Base.{all_below, any_below, count_below, to_nat, tabulate}
use Rattle.types.proofs.Below.{all_each, all_at, any_at, any_found, count_front, count_same, count_skips, count_none, count_each}

-- two answers that are true where the other is are the same
pub same_answer : (a b : Bool) → (IsTrue a ↔ IsTrue b) → a ≡ b
same_answer true b h = sym (h.0 refl)
same_answer false true h = h.1 refl
same_answer false false h = refl

-- the answer of `all`, and that of `any`, over a list's elements; d stands for one past the last
module _ {X : Type 0} (test : X → Bool) (xs : List X) (d : X) (answer : Bool) where
  abbrev at : ℕ → Bool
  at i = test (get_or xs i d)

  pub all_list : (IsTrue answer ↔ All (λ (x : X). IsTrue (test x)) xs) → answer ≡ all_below (length xs) at
  all_list h =
      same_answer answer (all_below (length xs) at)
      (λ t. all_each at (length xs) (λ i l. h.0 t i d l), λ t. h.1 (λ k e l. ap test (get_or_default xs k e d l) ∙ all_at at (length xs) k l t))

  pub any_list : (IsTrue answer ↔ Any (λ (x : X). IsTrue (test x)) xs) → answer ≡ any_below (length xs) at
  any_list h =
      same_answer answer (any_below (length xs) at) (
        λ t. let r = h.0 t in any_at at (length xs) r.0 r.2 (ap test (get_or_default xs r.0 d r.1 r.2 ∙ r.3) ∙ r.4),
        λ t. let r = any_found at (length xs) t in h.1 (r.0, get_or xs r.0 d, r.1, get_or_default xs r.0 (get_or xs r.0 d) d r.1, r.2),
      )

-- part i of n parts of k elements each
pub chunk_at : {X : Type 0} (k n i : ℕ) (xs : List X) (d : List X) → i < n → get_or (first_chunks k n xs) i d ≡ take k (drop (i * k) xs)
chunk_at k zero i xs d h = absurd (omega arith)
chunk_at k (suc n) zero xs d h = ap (λ (j : ℕ). take k (drop j xs)) (sym (zero-mul k))
chunk_at k (suc n) (suc i) xs d h =
    let e : k + i * k ≡ suc i * k = omega arith in
    chunk_at k n i (drop k xs) d (omega arith) ∙ ap (take k) (drop-drop (i * k) k xs ∙ ap (λ (j : ℕ). drop j xs) e)

-- ---- how many of a list's elements pass a test

cond_nat : (t : Bool) → cond t 1 0 ≡ to_nat t
cond_nat true = refl
cond_nat false = refl

pub count_list : (p : ℕ → Bool) (xs : List ℕ) → count_below (length xs) (λ k. p (get_or xs k 0)) ≡ count_by p xs
unfolding count_below
count_list p [] = refl
count_list p (x ∷ xs) =
    count_front (λ k. p (get_or (x ∷ xs) k 0)) (length xs)
    ∙ omega (arith, count_list p xs, cond_nat (p x), sum_by-cons (λ (y : ℕ). cond (p y) 1 0) x xs)

-- of the first n
pub count_taken : (p : ℕ → Bool) (n : ℕ) (xs : List ℕ) → n ≤ length xs → count_below n (λ k. p (get_or xs k 0)) ≡ count_by p (take n xs)
count_taken p n xs h =
    count_same (λ k. p (get_or xs k 0)) (λ k. p (get_or (take n xs) k 0)) n (λ k l. ap p (sym (get_or-take n xs k 0 l)))
    ∙ ap (λ (m : ℕ). count_below m (λ k. p (get_or (take n xs) k 0))) (sym (length-take-le n xs h))
    ∙ count_list p (take n xs)

-- none of them, and all
pub count_no : (p : ℕ → Bool) (xs : List ℕ) → ((k : ℕ) → k < length xs → p (get_or xs k 0) ≡ false) → count_by p xs ≡ 0
count_no p xs h =
    sym (count_list p xs) ∙ count_skips (λ k. p (get_or xs k 0)) 0 (length xs) zero-le (λ k a l. h k l) ∙ count_none (λ k. p (get_or xs k 0))

pub count_all : (p : ℕ → Bool) (xs : List ℕ) → ((k : ℕ) → k < length xs → p (get_or xs k 0) ≡ true) → count_by p xs ≡ length xs
count_all p xs h = sym (count_list p xs) ∙ count_each (λ k. p (get_or xs k 0)) (length xs) h

-- ---- a list of f 0, f 1, ..

pub get_or_tabulate : (n : ℕ) (f : ℕ → ℕ) (i : ℕ) → i < n → get_or (tabulate n f) i 0 ≡ f i
unfolding tabulate
get_or_tabulate zero f i h = absurd (omega arith)
get_or_tabulate (suc n) f zero h = refl
get_or_tabulate (suc n) f (suc i) h = get_or_tabulate n (λ j. f (suc j)) i (omega arith)

pub length_tabulate : (n : ℕ) (f : ℕ → ℕ) → length (tabulate n f) ≡ n
unfolding tabulate
length_tabulate zero f = refl
length_tabulate (suc n) f = ap suc (length_tabulate n (λ j. f (suc j)))

-- the list that has these words
pub tabulated : (n : ℕ) (f : ℕ → ℕ) (l : List ℕ) → length l ≡ n → ((k : ℕ) → k < n → get_or l k 0 ≡ f k) → l ≡ tabulate n f
tabulated n f l e h =
    ext_get_or 0 l (tabulate n f) (e ∙ sym (length_tabulate n f)) (λ k b. let b' : k < n = rw (← e) b in h k b' ∙ sym (get_or_tabulate n f k b'))
