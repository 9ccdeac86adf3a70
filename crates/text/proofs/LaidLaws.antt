-- Laws of words that are put into a room. Assumes nothing.
use Rattle.std.proofs.Common.{◌≡◌, ℕ, List, zero, suc, [], ◌∷◌, ◌++◌, length, take, drop, min, refl, arith}
use Rattle.std.proofs.lemmas.Grind.{common_steps}
use Rattle.text.specs.Words.{laid}

-- numbers that are put at the start, by what is put and what stays
pub laid_cut : (ns out : List ℕ) (n : ℕ) → n ≡ min (length out) (length ns) → take n ns ++ drop n out ≡ laid (ns ++ []) out
unfolding laid
laid_cut [] out n e = grind (arith, common_steps)
laid_cut (x ∷ ns) [] n e = grind (arith, common_steps)
laid_cut (x ∷ ns) (o ∷ out) zero e = absurd (omega arith)
laid_cut (x ∷ ns) (o ∷ out) (suc n) e = grind (arith, common_steps, laid_cut ns out n (omega arith))

-- and then more of them
pub laid_more :
    (ns out more : List ℕ) (n : ℕ) → n ≡ min (length ns) (length out) → laid (ns ++ more) out ≡ take n (laid ns out) ++ laid more (drop n (laid ns out))
unfolding laid
laid_more [] out more n e = grind (arith, common_steps)
laid_more (x ∷ ns) [] [] n e = grind (arith, common_steps)
laid_more (x ∷ ns) [] (y ∷ more) n e = grind (arith, common_steps)
laid_more (x ∷ ns) (o ∷ out) more zero e = absurd (omega arith)
laid_more (x ∷ ns) (o ∷ out) more (suc n) e = grind (arith, common_steps, laid_more ns out more n (omega arith))

pub length-laid : (ns out : List ℕ) → length (laid ns out) ≡ length out
unfolding laid
length-laid [] out = refl
length-laid (n ∷ ns) [] = refl
length-laid (n ∷ ns) (o ∷ out) = grind (arith, length-laid ns out)

pub laid_nowhere : (ns : List ℕ) → laid ns [] ≡ []
unfolding laid
laid_nowhere [] = refl
laid_nowhere (n ∷ ns) = refl
