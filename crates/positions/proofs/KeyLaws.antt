-- Laws of equal keys, by `same_key` and by the derived `==`. Assumes nothing.
use mathlib.Core.Path.{◌≡◌, refl, sym, subst, ◌∙◌}
use mathlib.Core.Logic.{◌≢◌}
use mathlib.Core.Bool.{Bool, true, false, ◌&&◌}
use lib.Dec.{eqb}
use borrow.Author.Tests.{eq-eqb, eqb-true}
use Rattle.std.specs.Prelude.{IsTrue, ◌↔◌}
use Rattle.types.proofs.Below.{and_both}
use Rattle.positions.specs.declared.Key.{Key}
use Rattle.positions.specs.Key.{same_key}

-- keys with the same words are the same
pub by_words : (a b : Key) → a.0 ≡ b.0 → a.1 ≡ b.1 → a.2 ≡ b.2 → a.3 ≡ b.3 → a ≡ b
by_words a b p q r s = λ i. record { 0 = p i; 1 = q i; 2 = r i; 3 = s i }

-- keys that are the same have the same words, and a key is the same as itself
pub same_says : (a b : Key) → same_key a b ≡ true → a ≡ b
unfolding same_key
same_says a b e =
    let d0 = and_both (eqb a.0 b.0) (eqb a.1 b.1 && (eqb a.2 b.2 && eqb a.3 b.3)) e in
    let d1 = and_both (eqb a.1 b.1) (eqb a.2 b.2 && eqb a.3 b.3) d0.1 in
    let d2 = and_both (eqb a.2 b.2) (eqb a.3 b.3) d1.1 in
    by_words a b (eqb-true a.0 b.0 d0.0) (eqb-true a.1 b.1 d1.0) (eqb-true a.2 b.2 d2.0) (eqb-true a.3 b.3 d2.1)

pub same_itself : (a : Key) → same_key a a ≡ true
unfolding same_key
same_itself a = simp (eq-eqb a.0 a.0 refl, eq-eqb a.1 a.1 refl, eq-eqb a.2 a.2 refl, eq-eqb a.3 a.3 refl)

pub same : (a b : Key) → a ≡ b → same_key a b ≡ true
same a b e = subst (λ (k : Key). same_key a k ≡ true) e (same_itself a)

pub differ_says : (a b : Key) → same_key a b ≡ false → a ≢ b
differ_says a b e q = let h = same a b q in absurd cc

pub differ : (a b : Key) → a ≢ b → same_key a b ≡ false
differ a b n = go (same_key a b) refl
  where
    go : (t : Bool) → same_key a b ≡ t → t ≡ false
    go true e = absurd (n (same_says a b e))
    go false e = refl

-- what the derived comparison `==` of two keys answers
abbrev pub eq_of : Key → Key → Bool
eq_of a b = eqb a.0 b.0 && (eqb a.1 b.1 && (eqb a.2 b.2 && eqb a.3 b.3))

pub eq_is : (a b : Key) → eq_of a b ≡ same_key a b
unfolding same_key
eq_is a b = refl

-- the keys of `a == b`, where it is true and where it is false
pub eq_true : (a b : Key) → eq_of a b ≡ true → a ≡ b
eq_true a b e = same_says a b (sym (eq_is a b) ∙ e)

pub eq_false : (a b : Key) → eq_of a b ≡ false → a ≢ b
eq_false a b e = differ_says a b (sym (eq_is a b) ∙ e)

-- what it answers is what `same_key` says
pub same_eq : (a b : Key) → eq_of a b ≡ true → same_key a b ≡ true
same_eq a b e = sym (eq_is a b) ∙ e

pub differ_eq : (a b : Key) → eq_of a b ≡ false → same_key a b ≡ false
differ_eq a b e = sym (eq_is a b) ∙ e

pub same_iff : (a b : Key) → IsTrue (same_key a b) ↔ (a ≡ b)
same_iff a b = (same_says a b, same a b)
