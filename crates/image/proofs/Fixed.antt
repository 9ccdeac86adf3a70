-- A cleared list is one list, a pool that is lent or written is one pool, and a side has one name. Assumes nothing.
use mathlib.Core.Path.{◌≡◌, sym, ◌∙◌}
use mathlib.Core.List.{List}
use Prim.Native.Nat.{ℕ}
use native.Mathlib.Omega.{arith}
use lib.Seq.{ext_get_or}
use Rattle.std.specs.Prelude.{Result, Ok, Err}
use Rattle.std.specs.Borrow.{MutBor}
use Rattle.types.specs.declared.refusals.Refusal.{Refusal}
use Rattle.image.specs.declared.pool_data.PoolData.{PoolData}
use Rattle.image.specs.declared.pool_data.PoolDataMut.{PoolDataMut}
use Rattle.image.specs.declared.seats.SeatSide.{SeatSide}
use Rattle.image.specs.declared.seats.SeatSide.TheVariants.{Own, Other}
use Rattle.image.specs.Layout.{Words}
use Rattle.image.specs.Seats.{Cleared}
use Rattle.image.specs.Changes.{side_named}
use Rattle.image.specs.Pool.{Lent, LentMut, Becomes}

-- two lists that are cleared of the same list are the same
pub cleared_fixes : (old a b : List ℕ) → Cleared old a → Cleared old b → a ≡ b
cleared_fixes old a b x y =
    ext_get_or 0 a b (x.long ∙ sym y.long) (λ i l. x.zeros i (omega arith) ∙ sym (y.zeros i (omega arith)))

-- two sides with the same name are the same
pub side_named_fixes : (a b : SeatSide) → side_named a ≡ side_named b → a ≡ b
side_named_fixes Own Own e = cc
side_named_fixes Own Other e = cc
side_named_fixes Other Own e = cc
side_named_fixes Other Other e = cc

-- a pool's list, seats and events
abbrev pub figures : Result PoolData Refusal → Result (List ℕ × (ℕ × ℕ)) Refusal
figures (Ok pool) = Ok (pool.words.now, (pool.p, pool.e))
figures (Err r) = Err r

-- two pools that are lent of the same list, or two refusals, are the same
pub lent_fixes : (p e : ℕ) (words : List ℕ) (a b : Result PoolData Refusal) → Lent p e words a → Lent p e words b → figures a ≡ figures b
lent_fixes p e words (Ok a) (Ok b) x y = cc
lent_fixes p e words (Ok a) (Err s) x y = cc
lent_fixes p e words (Err r) (Ok b) x y = cc
lent_fixes p e words (Err r) (Err s) x y = cc

-- two pools that are lent to be written have the same list, on the same loan, seats and events
pub lent_mut_fixes : (p e : ℕ) (lent : MutBor (List ℕ)) (a b : PoolDataMut) → LentMut p e lent a → LentMut p e lent b
    → (a.words.now ≡ b.words.now) × ((a.words.ghost_name ≡ b.words.ghost_name) × ((a.p ≡ b.p) × (a.e ≡ b.e)))
lent_mut_fixes p e lent a b x y = (x.words ∙ sym y.words, (x.same_loan ∙ sym y.same_loan, (x.p ∙ sym y.p, x.e ∙ sym y.e)))

-- and so have two that one becomes with the same words
pub becomes_fixes : (old a b : PoolDataMut) (w : Words) → Becomes old a w → Becomes old b w
    → (a.words.now ≡ b.words.now) × ((a.words.ghost_name ≡ b.words.ghost_name) × ((a.p ≡ b.p) × (a.e ≡ b.e)))
becomes_fixes old a b w x y = (x.words ∙ sym y.words, (x.same_loan ∙ sym y.same_loan, (x.p ∙ sym y.p, x.e ∙ sym y.e)))
