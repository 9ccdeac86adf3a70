-- What is read of a message or a path is fixed by its bytes and by what stood in the buffer; a list of fields by what is read of it, and one of
-- limited room by its items. Assumes nothing.
use Rattle.std.proofs.Common.{◌≡◌, ℕ, List, [], ◌∷◌, Result, sym, ap, ◌∙◌}
use Rattle.std.specs.Borrow.{Bor}
use Rattle.arrayvec.specs.ArrayVec.{ArrayVec}
use Rattle.journal.specs.declared.calls.Kind.{Kind}
use Rattle.journal.specs.declared.fault.Fault.{Fault}
use Rattle.journal.specs.Calls.{fields_as}
use Rattle.journal.specs.Fields.{MessageRead, PathRead}

-- the buffer, and how much of it is filled or what is wrong
pub record SameRead (new new' : List ℕ) (result result' : Result ℕ Fault) : Type 0 where
  pub buffer : new ≡ new'
  pub told : result ≡ result'

pub message_read_fixes : (s old new new' : List ℕ) (result result' : Result ℕ Fault) → MessageRead s old new result → MessageRead s old new' result'
    → SameRead new new' result result'
message_read_fixes s old new new' result result' x y = record { buffer = x.kept ∙ sym y.kept; told = x.told ∙ sym y.told }

pub path_read_fixes : (s old new new' : List ℕ) (result result' : Result ℕ Fault) → PathRead s old new result → PathRead s old new' result'
    → SameRead new new' result result'
path_read_fixes s old new new' result result' x y = record { buffer = x.kept ∙ sym y.kept; told = x.told ∙ sym y.told }

-- the same names and kinds, one after the other
abbrev pub SameFields : List (Bor (List ℕ) × Kind) → List (Bor (List ℕ) × Kind) → Type 0
SameFields [] [] = Unit {0}
SameFields [] (y ∷ b) = ⊥
SameFields (x ∷ a) [] = ⊥
SameFields (x ∷ a) (y ∷ b) = (x.0.now ≡ y.0.now) × ((x.1 ≡ y.1) × SameFields a b)

pub fields_as_fixes : (a b : List (Bor (List ℕ) × Kind)) → fields_as a ≡ fields_as b → SameFields a b
fields_as_fixes [] [] e = tt
fields_as_fixes [] (y ∷ b) e = cc
fields_as_fixes (x ∷ a) [] e = cc
fields_as_fixes (x ∷ a) (y ∷ b) e =
    let first : (x.0.now, x.1) ≡ (y.0.now, y.1) = cc in
    (ap (λ (f : List ℕ × Kind). f.0) first, (ap (λ (f : List ℕ × Kind). f.1) first, fields_as_fixes a b cc))

-- two lists of limited room with the same items are the same
pub items_fix : {T : Type 0} (a b : ArrayVec T) → a.items ≡ b.items → a ≡ b
items_fix a b e = λ i. record { items = e i }
