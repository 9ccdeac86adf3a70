-- A list that holds given words by name: what loops and stores keep. Assumes nothing.
use Prim.Native.Nat.{ℕ, ◌-◌}
use mathlib.Core.Path.{◌≡◌, refl, ap, sym, ◌∙◌}
use mathlib.Core.Bool.{cond}
use mathlib.Core.List.{List}
use native.Mathlib.Omega.{arith}
use native.Mathlib.Decide.{ℕ_discrete}
use lib.Dec.{eqb}
use lib.ListN.{length, set, length-set}
use lib.Seq.{get_or-set_same, get_or-set_other}
use borrow.Author.Tests.{eq-eqb, ne_eqb}
use Rattle.image.specs.Layout.{last_updated_epoch, claimable_rewards, num_events, Field, head, seat, slot, share, Words, size, addr, InRange, field_of, read, image}
use Rattle.image.specs.Seats.{Cleared, with_head, fresh_words}
use Rattle.image.proofs.LayoutLaws.{field_of_addr, addr_lt, read_image, length_image}
use Rattle.image.proofs.ImageLaws.{image_ext}

pub record Holds (P E : ℕ) (w : Words) (img : List ℕ) : Type 0 where
  pub long : length img ≡ size P E
  pub has : (f : Field) → InRange P E f → read P E img f ≡ w f

module _ (P E : ℕ) where
  pub holds_itself : (img : List ℕ) → length img ≡ size P E → Holds P E (read P E img) img
  holds_itself img l = record { long = l; has = λ f r. refl }

  pub holds_is : (w : Words) (img : List ℕ) → Holds P E w img → img ≡ image P E w
  holds_is w img h = image_ext P E img (image P E w) h.long (length_image P E w) (λ f r. h.has f r ∙ sym (read_image P E w f r))

  pub image_holds : (w : Words) (img : List ℕ) → img ≡ image P E w → Holds P E w img
  image_holds w img e = record { long = ap length e ∙ length_image P E w; has = λ f r. ap (λ (x : List ℕ). read P E x f) e ∙ read_image P E w f r }

  pub holds_ext : (w v : Words) (img : List ℕ) → Holds P E w img → ((f : Field) → InRange P E f → w f ≡ v f) → Holds P E v img
  holds_ext w v img h e = record { long = h.long; has = λ f r. h.has f r ∙ e f r }

  -- words that are the same are one image
  pub same_image : (w v : Words) → ((f : Field) → InRange P E f → w f ≡ v f) → image P E w ≡ image P E v
  same_image w v e = holds_is v (image P E w) (holds_ext w v (image P E w) (image_holds w (image P E w) refl) e)

  -- an image that holds these words already
  pub stays : (w : Words) (img : List ℕ) → length img ≡ size P E → ((f : Field) → InRange P E f → read P E img f ≡ w f) → img ≡ image P E w
  stays w img l e = holds_is w img (record { long = l; has = e })

-- ---- a fresh pool: a cleared one, with its last epoch

pub fresh_image_law : (P E : ℕ) (old l : List ℕ) (given : ℕ) → length old ≡ size P E → Cleared old l
    → image P E (with_head (read P E l) last_updated_epoch (given - 1)) ≡ image P E (fresh_words given)
unfolding with_head read
fresh_image_law P E old l given long z = same_image P E (with_head (read P E l) last_updated_epoch (given - 1)) (fresh_words given) words
  where
    zero_at : (f : Field) → InRange P E f → read P E l f ≡ 0
    zero_at f r = z.zeros (addr P E f) (rw long (addr_lt P E f r))

    words : (f : Field) → InRange P E f → with_head (read P E l) last_updated_epoch (given - 1) f ≡ fresh_words given f
    words (head last_updated_epoch) r = refl
    words (head claimable_rewards) r = zero_at (head claimable_rewards) r
    words (head num_events) r = zero_at (head num_events) r
    words (seat s x) r = zero_at (seat s x) r
    words (slot t x) r = zero_at (slot t x) r
    words (share t s x) r = zero_at (share t s x) r

-- ---- a store

-- one word changed
unfoldable pub put : ℕ → ℕ → Words → Field → ℕ → Words
put P E w f v g = cond (eqb (addr P E g) (addr P E f)) v (w g)

module _ (P E : ℕ) where
  pub put_here : (w : Words) (f g : Field) (v : ℕ) → addr P E g ≡ addr P E f → put P E w f v g ≡ v
  unfolding put
  put_here w f g v e = rw (eq-eqb (addr P E g) (addr P E f) e)

  pub put_else : (w : Words) (f g : Field) (v : ℕ) → (addr P E g ≡ addr P E f → ⊥) → put P E w f v g ≡ w g
  unfolding put
  put_else w f g v n = rw (ne_eqb (addr P E g) (addr P E f) n)

  -- a store to the place of a word
  pub holds_set : (w : Words) (img : List ℕ) (f : Field) (v at : ℕ) → Holds P E w img → InRange P E f → at ≡ addr P E f
      → Holds P E (put P E w f v) (set img at v)
  unfolding read
  holds_set w img f v at h r q = record { long = length-set img at v ∙ h.long; has = λ g rg. go g rg (ℕ_discrete (addr P E g) (addr P E f)) }
    where
      go : (g : Field) → InRange P E g → Dec (addr P E g ≡ addr P E f) → read P E (set img at v) g ≡ put P E w f v g
      go g rg (yes e) =
          let lt = addr_lt P E f r in
          let l = h.long in
          rw (q, e) (get_or-set_same img (addr P E f) v 0 (omega arith)) ∙ sym (put_here w f g v e)
      go g rg (no ne) = rw q (get_or-set_other img (addr P E f) (addr P E g) v 0 ne) ∙ h.has g rg ∙ sym (put_else w f g v ne)

  -- which changes the word and, as words with different names do not share a place, no other
  pub put_at : (w : Words) (f : Field) (v : ℕ) → put P E w f v f ≡ v
  put_at w f v = put_here w f f v refl

  pub put_apart : (w : Words) (f g : Field) (v : ℕ) → InRange P E f → InRange P E g → (g ≡ f → ⊥) → put P E w f v g ≡ w g
  put_apart w f g v rf rg ne = put_else w f g v (λ e. ne (sym (field_of_addr P E g rg) ∙ ap (field_of P E) e ∙ field_of_addr P E f rf))
