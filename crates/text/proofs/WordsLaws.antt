-- Laws of a list's words: one for each way out of a reader. Assumes nothing.
use Rattle.std.proofs.Common.{◌≡◌, ℕ, ◌+◌, ◌-◌, ◌<◌, ◌≤◌, List, [], ◌∷◌, ◌++◌, length, take, drop, get_or, set, lt-ltb, ap, sym, ◌∙◌}
use Rattle.std.proofs.Common.{add-one, drop-cons, length-drop, length-take, append-nil, append_assoc}
use Rattle.std.proofs.Common.{min, refl, arith, Bool, true, false, cond, ltb, eqb, Option, None, Some, Result, Ok, Err}
use Rattle.std.proofs.lemmas.Grind.{common_steps}
use Rattle.std.proofs.lemmas.List.{take_all, take-append-drop}
use Rattle.std.proofs.Math.ListN.{drop_of_length-le}
use Rattle.std.proofs.Math.Seq.{take-length, take-append-add, drop-append-add}
use borrow.Rule.Slice.PartMut.{put_mid}
use denote.Ref.{Bor}
use denote.Param.Members.{Mut}
use Rattle.std.specs.Fn.{CalledAt}
use Rattle.std.specs.Iterator.{Yields}
use Rattle.std.specs.Slice.Iter as slice
use Rattle.std.proofs.lemmas.Iterator.{YieldsList}
use Rattle.std.proofs.lemmas.Iterator.Consumers.{YieldsList-at, YieldsList-turn, YieldsList-end}
use Rattle.std.proofs.lemmas.Iterator.Splits.{YieldsList-from_slice_split}
use Rattle.text.specs.declared.items.WordError.{WordError}
use Rattle.text.specs.declared.items.WordError.TheVariants.{NotWord}
use Rattle.std.specs.Str.{bytes_eq}
use Rattle.text.specs.Items.{items}
use Rattle.std.proofs.lemmas.List.Splits.{length-slice_split}
use Rattle.text.specs.declared.NumberError.{NumberError}
use Rattle.text.specs.declared.NumberError.TheVariants.{NoDigits}
use Rattle.text.specs.Decimal.{number_of}
use Rattle.text.specs.Hex.{all_hex}
use Rattle.text.specs.Key.{key_of}
use Rattle.text.proofs.LaidLaws.{laid_more, laid_nowhere}
use Rattle.text.specs.Words.{dash, comma, mark, key_words, number_words, item_of, behind, before, words_of, numbers, laid, list_of, listed}

-- what a slice that is cut at each comma comes to as an iterator, by what `split` and `into_iter` ensure
pub items_road : {F : Type 0} {s t : _} (g : Mut F (Bor ℕ × Unit {0}) Bool) {f : F} (words : List ℕ)
    → t ≡ s → slice.split_rest s ≡ words → slice.split_done s ≡ false → slice.split_callee s ≡ f
    → ((x : ℕ) (b : Bool) (q : F) → CalledAt g f x b q → (q ≡ f) × (b ≡ eqb x comma)) → YieldsList (slice.split_steps g) (λ x. x.now) t (items comma words)
items_road g words e rest done callee calls = YieldsList-at e (YieldsList-from_slice_split g (λ b. eqb b comma) words rest done callee calls)

-- behind n of the list comes r, read by v, or the list ends
abbrev pub Next : {A B : Type 0} → (A → B) → List B → ℕ → Option A → Type 0
Next {A} v all n r = (r ≡ None → n ≡ length all) × ((x : A) → r ≡ Some x → (n < length all) × (v x ≡ get_or all n (v x)))

-- what a `for` that has gone over xs goes over next
pub for_next :
    {S A B : Type 0} {steps : S → Option A → S → Type 0} {v : A → B} {s : S} {all : List B} → YieldsList steps v s all → (xs : List A) (t : S) →
    Yields steps s xs t → (r : Option A) (u : S) → steps t r u → Next v all (length xs) r
for_next e xs t y r u p = (λ is. (YieldsList-end e xs t y r u is p).1, λ x is. YieldsList-turn e xs t y r u x is p)

-- a full room
pub words_full : (xs : List (List ℕ)) (room k : ℕ) → room ≤ k → words_of xs room k ≡ Ok room
unfolding words_of
words_full [] room k h = grind (arith, common_steps)
words_full (x ∷ xs) room k h = grind (arith, common_steps)

-- an item that is words, with others behind it
module _ (x : List ℕ) (xs : List (List ℕ)) (room k n : ℕ) (h : k < room) (one : words_of (x ∷ []) (room - k) 0 ≡ Ok n) where
  pub item_counts : (k + n ≤ room) × (words_of (x ∷ xs) room k ≡ words_of xs room (k + n))
  unfolding words_of
  item_counts = go (item_of x) one
    where
      go :
          (r : Result (List ℕ) WordError) → cond (ltb 0 (room - k)) (behind r (λ m. Ok (min (0 + m) (room - k)))) (Ok (room - k)) ≡ Ok n →
          (k + n ≤ room) × (cond (ltb k room) (behind r (λ m. words_of xs room (k + m))) (Ok room) ≡ words_of xs room (k + n))
      go (Ok ws) e = grind (arith, common_steps, words_full xs room (k + length ws), words_full xs room (k + n))
      go (Err d) e = grind (arith, common_steps)

  pub item_goes : (n ≡ min (length (numbers (x ∷ []))) (room - k)) × (numbers (x ∷ xs) ≡ numbers (x ∷ []) ++ numbers xs)
  unfolding words_of numbers
  item_goes = go (item_of x) one
    where
      go :
          (r : Result (List ℕ) WordError) → cond (ltb 0 (room - k)) (behind r (λ m. Ok (min (0 + m) (room - k)))) (Ok (room - k)) ≡ Ok n →
          (n ≡ min (length (before r [])) (room - k)) × (before r (numbers xs) ≡ before r [] ++ numbers xs)
      go (Ok ws) e = grind (arith, common_steps)
      go (Err d) e = grind (arith, common_steps)

-- an item that is no word
module _ (x : List ℕ) (xs : List (List ℕ)) (room k : ℕ) (e : WordError) (h : k < room) (one : words_of (x ∷ []) (room - k) 0 ≡ Err e) where
  pub item_wrong : (words_of (x ∷ xs) room k ≡ Err e) × (numbers (x ∷ xs) ≡ []) × (numbers (x ∷ []) ≡ [])
  unfolding words_of numbers
  item_wrong = go (item_of x) one
    where
      go :
          (r : Result (List ℕ) WordError) → cond (ltb 0 (room - k)) (behind r (λ m. Ok (min (0 + m) (room - k)))) (Ok (room - k)) ≡ Err e →
          (cond (ltb k room) (behind r (λ m. words_of xs room (k + m))) (Ok room) ≡ Err e) × (before r (numbers xs) ≡ []) × (before r [] ≡ [])
      go (Ok ws) f = grind (arith, common_steps)
      go (Err d) f = grind (arith, common_steps)

-- item t of all is x, which is put behind k words
module _
    (all : List (List ℕ)) (t k : ℕ) (x out new : List ℕ) (r : Result ℕ WordError) (there : (t < length all) × (x ≡ get_or all t x)) (fits : k < length out)
    (read : r ≡ words_of (x ∷ []) (length (take (length out - k) (drop k out))) 0)
    (image : new ≡ laid (numbers (x ∷ [])) (take (length out - k) (drop k out)))
  where
    left : drop t all ≡ x ∷ drop (t + 1) all
    left = rw add-one (rw (← there.1) at (drop-cons all t x there.0))

    part : take (length out - k) (drop k out) ≡ drop k out
    part = take_all (length out - k) (drop k out) (omega (arith, length-drop k out))

    one : r ≡ words_of (x ∷ []) (length out - k) 0
    one = rw (part, length-drop k out) at read

    put : new ≡ laid (numbers (x ∷ [])) (drop k out)
    put = rw part at image

    whole : put_mid k (length out - k) out new ≡ take k out ++ new
    whole = rw (drop_of_length-le (drop k out) {i = length out - k} (omega (arith, length-drop k out)), append-nil new)

    k-long : length (take k out) ≡ k
    k-long = omega (arith, length-take k out)

    pub turn_goes :
        (n : ℕ) → r ≡ Ok n →
        (k + n ≤ length out) × (words_of (drop (t + 1) all) (length out) (k + n) ≡ words_of (drop t all) (length out) k)
        × (take (k + n) (put_mid k (length out - k) out new) ++ laid (numbers (drop (t + 1) all)) (drop (k + n) (put_mid k (length out - k) out new))
        ≡ take k out ++ laid (numbers (drop t all)) (drop k out))
    turn_goes n e =
        let c = item_counts x (drop (t + 1) all) (length out) k n fits (sym one ∙ e) in
        let g = item_goes x (drop (t + 1) all) (length out) k n fits (sym one ∙ e) in
        let front : take (k + n) (take k out ++ new) ≡ take k out ++ take n new = rw k-long at (take-append-add (take k out) new n) in
        let back : drop (k + n) (take k out ++ new) ≡ drop n new = rw k-long at (drop-append-add (take k out) new n) in
        let more = laid_more (numbers (x ∷ [])) (drop k out) (numbers (drop (t + 1) all)) n (rw length-drop g.0) in
        let image : laid (numbers (x ∷ drop (t + 1) all)) (drop k out) ≡ take n new ++ laid (numbers (drop (t + 1) all)) (drop n new) = rw (g.1, put) more in
        (c.0, rw left (sym c.1), rw (whole, front, back, left, image, append_assoc))

    pub turn_ends :
        (d : WordError) → r ≡ Err d →
        (words_of (drop t all) (length out) k ≡ Err d) × (put_mid k (length out - k) out new ≡ take k out ++ laid (numbers (drop t all)) (drop k out))
    turn_ends d e =
        let w = item_wrong x (drop (t + 1) all) (length out) k d fits (sym one ∙ e) in (rw left w.0, rw (whole, put, left, w.1, w.2))

-- no item is left, or no room
module _ (xs : List (List ℕ)) (k : ℕ) (out : List ℕ) where
  pub turn_none : xs ≡ [] → k ≤ length out → (words_of xs (length out) k ≡ Ok k) × (take k out ++ laid (numbers xs) (drop k out) ≡ out)
  unfolding words_of numbers laid
  turn_none e h = rw e (grind (arith, common_steps), take-append-drop k out)

  pub turn_full : k ≡ length out → (words_of xs (length out) k ≡ Ok k) × (take k out ++ laid (numbers xs) (drop k out) ≡ out)
  turn_full e =
      rw e (
        words_full xs (length out) (length out) (omega arith),
        rw (drop_of_length-le out {i = length out} (omega arith), take-length out, laid_nowhere (numbers xs), append-nil out),
      )

-- no more words are counted than there is room for
words_counted : (xs : List (List ℕ)) (room k n : ℕ) → words_of xs room k ≡ Ok n → (min k room ≤ n) × (n ≤ room)
unfolding words_of
words_counted [] room k n e = grind (arith, common_steps)
words_counted (x ∷ xs) room k n e = go (item_of x) (λ m q. words_counted xs room m n q) e
  where
    go :
        (r : Result (List ℕ) WordError) → ((m : ℕ) → words_of xs room m ≡ Ok n → (min m room ≤ n) × (n ≤ room)) →
        cond (ltb k room) (behind r (λ m. words_of xs room (k + m))) (Ok room) ≡ Ok n → (min k room ≤ n) × (n ≤ room)
    go (Ok ws) more f = grind (arith, common_steps, more (k + length ws))
    go (Err d) more f = grind (arith, common_steps)

pub words_fit : (xs : List (List ℕ)) (room k n : ℕ) → words_of xs room k ≡ Ok n → n ≤ room
words_fit xs room k n e = (words_counted xs room k n e).1

-- an item has a word
item_some : (x ws : List ℕ) → item_of x ≡ Ok ws → 0 < length ws
unfolding item_of key_of
item_some x ws e = go (bytes_eq (take 2 x) mark) (eqb (length (drop 2 x)) 64) (all_hex (drop 2 x)) (number_of x) _ _ e
  where
    go :
        (t a b : Bool) (r : Result ℕ NumberError) (w : ℕ) (key : List ℕ) →
        cond t (key_words (cond a (cond b (Some (w ∷ key)) None) None)) (number_words r) ≡ Ok ws → 0 < length ws
    go true true true r w key f = grind (arith, common_steps)
    go true true false r w key f = grind (arith, common_steps)
    go true false b r w key f = grind (arith, common_steps)
    go false a b (Ok n) w key f = grind (arith, common_steps)
    go false a b (Err d) w key f = grind (arith, common_steps)

-- where there is room, a list has a word
some_word : (xs : List (List ℕ)) (room n : ℕ) → 0 < room → 0 < length xs → words_of xs room 0 ≡ Ok n → 0 < n
unfolding words_of
some_word [] room n h l e = absurd (omega arith)
some_word (x ∷ xs) room n h l e = go (item_of x) (λ ws f. item_some x ws f) e
  where
    go :
        (r : Result (List ℕ) WordError) → ((ws : List ℕ) → r ≡ Ok ws → 0 < length ws) →
        cond (ltb 0 room) (behind r (λ m. words_of xs room (0 + m))) (Ok room) ≡ Ok n → 0 < n
    go (Ok ws) f g = grind (arith, common_steps, f ws refl, words_counted xs room (0 + length ws) n)
    go (Err d) f g = grind (arith, common_steps)

pub words_within : (b : ℕ) (s : List ℕ) (room n : ℕ) → 0 < room → words_of (items b s) room 0 ≡ Ok n → (0 < n) × (n ≤ room)
words_within b s room n h e =
    (some_word (items b s) room n h (omega (arith, length-slice_split (λ x. eqb x b) s)) e, words_fit (items b s) room 0 n e)

pub list_within : (s : List ℕ) (room n : ℕ) → list_of s room ≡ Ok n → n ≤ room
unfolding list_of
list_within s room n e = go (bytes_eq s dash) e
  where
    go : (t : Bool) → cond t (Ok 0) (words_of (items comma s) room 0) ≡ Ok n → n ≤ room
    go true q = grind arith
    go false q = words_fit (items comma s) room 0 n q

-- an item x is read as i, and put at the start of out
module _ (x out : List ℕ) (fits : 0 < length out) (i : Result (List ℕ) WordError) (is : i ≡ item_of x) where
  abbrev Put : Result ℕ WordError → List ℕ → Type 0
  Put a new = (a ≡ words_of (x ∷ []) (length out) 0) × (new ≡ laid (numbers (x ∷ [])) out)

  pub put_none : i ≡ number_words (Err NoDigits) → Put (Err NotWord) out
  unfolding words_of laid numbers
  put_none e = (rw (lt-ltb _ _ fits, ← is, e), rw (← is, e))

  pub put_value_law : (n : ℕ) → i ≡ number_words (Ok n) → Put (Ok 1) (set out 0 n)
  unfolding words_of laid numbers
  put_value_law n e = (let m : min 1 (length out) ≡ 1 = omega arith in rw (lt-ltb _ _ fits, ← is, e, m), rw (← is, e) (first out fits))
    where
      first : (l : List ℕ) → 0 < length l → set l 0 n ≡ laid (n ∷ []) l
      first [] h = absurd (omega arith)
      first (o ∷ l) h = refl

  pub put_key_law : (ws : List ℕ) (n : ℕ) (new : List ℕ) → i ≡ key_words (Some ws) → n ≡ min (length ws) (length out) → new ≡ laid ws out → Put (Ok n) new
  unfolding words_of numbers
  put_key_law ws n new e m l =
      let z : length ws ≡ 0 + length ws = omega arith in
      (rw (lt-ltb _ _ fits, ← is, e, m) (ap (λ k. Ok (min k (length out))) z), rw (← is, e, append-nil ws) l)

-- `-` is the list without words
pub list_dash : (s out : List ℕ) (d : Bool) → d ≡ bytes_eq s dash → (room : ℕ) → d ≡ true → (Ok 0 ≡ list_of s room) × (out ≡ listed s out)
unfolding list_of listed
list_dash s out d is room t = let e : bytes_eq s dash ≡ true = sym is ∙ t in (rw e, rw e)
