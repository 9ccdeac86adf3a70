-- A part of a list of words, lent and given back. Assumes nothing.
use mathlib.Core.Path.{◌≡◌, ◌∙◌, ap, subst}
use mathlib.Core.List.{List, ◌++◌}
use Prim.Native.Nat.{ℕ, ◌+◌, ◌-◌, ◌≤◌, ◌<◌}
use native.Mathlib.Nat.{add-sub_of_le}
use native.Mathlib.Omega.{arith}
use lib.ListN.{length, get_or, take, drop, get_or-append}
use lib.Seq.{length-take-le, get_or-take, get_or-drop, get_or-append-add, drop-drop}

-- a part of w words from a on, put back as ys: what the borrow checker says of a slice whose part was lent
module _ (l ys : List ℕ) (a w : ℕ) (fits : a + w ≤ length l) (many : length ys ≡ w) where
  pub put_before : (i : ℕ) → i < a → get_or (take a l ++ (ys ++ drop w (drop a l))) i 0 ≡ get_or l i 0
  put_before i h =
      let t : length (take a l) ≡ a = length-take-le a l (omega arith) in
      get_or-append (take a l) (ys ++ drop w (drop a l)) 0 i (omega arith) ∙ get_or-take a l i 0 h

  pub put_in : (j : ℕ) → j < w → get_or (take a l ++ (ys ++ drop w (drop a l))) (a + j) 0 ≡ get_or ys j 0
  put_in j h =
      let t : length (take a l) ≡ a = length-take-le a l (omega arith) in
      subst (λ (k : ℕ). get_or (take a l ++ (ys ++ drop w (drop a l))) (k + j) 0 ≡ get_or ys j 0) t
      (get_or-append-add (take a l) (ys ++ drop w (drop a l)) j 0 ∙ get_or-append ys (drop w (drop a l)) 0 j (omega arith))

  pub put_after : (i : ℕ) → a + w ≤ i → get_or (take a l ++ (ys ++ drop w (drop a l))) i 0 ≡ get_or l i 0
  put_after i h =
      let t : length (take a l) ≡ a = length-take-le a l (omega arith) in
      let k : ℕ = i - (a + w) in
      let e : length (take a l) + (length ys + k) ≡ i = omega (arith, add-sub_of_le h) in
      let e' : a + w + k ≡ i = add-sub_of_le h in
      subst (λ (m : ℕ). get_or (take a l ++ (ys ++ drop w (drop a l))) m 0 ≡ get_or l i 0) e
      (get_or-append-add (take a l) (ys ++ drop w (drop a l)) (length ys + k) 0
      ∙ get_or-append-add ys (drop w (drop a l)) k 0
      ∙ ap (λ (r : List ℕ). get_or r k 0) (drop-drop w a l)
      ∙ get_or-drop (a + w) l k 0
      ∙ ap (λ (m : ℕ). get_or l m 0) e')
