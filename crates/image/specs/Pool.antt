-- A pool's words as they are lent: what is read of them, and what they become. Assumes nothing.
use Rattle.std.specs.Prelude.{◌≡◌, List, ℕ, Result, Ok, Err, true, false}
use Rattle.std.specs.Borrow.{MutBor}
use Rattle.types.specs.declared.refusals.Refusal.{Refusal}
use Rattle.types.specs.declared.refusals.Refusal.TheVariants.{InvalidImage}
use Rattle.image.specs.declared.pool_data.PoolData.{PoolData}
use Rattle.image.specs.declared.pool_data.PoolDataMut.{PoolDataMut}
use Rattle.image.specs.Layout.{Words, read, image}
use Rattle.image.specs.Seats.{checked_image}

-- a pool's words by name
abbrev pub words_of : PoolData → Words
words_of pool = read pool.p pool.e pool.words.now

-- the same of a pool that is written
abbrev pub words_in : PoolDataMut → Words
words_in pool = read pool.p pool.e pool.words.now

-- refusal 1, or the pool as it was lent
abbrev pub Lent : (p e : ℕ) → List ℕ → Result PoolData Refusal → Type 0
Lent p e words (Ok pool) = (checked_image p e words ≡ true) × ((pool.words.now ≡ words) × ((pool.p ≡ p) × (pool.e ≡ e)))
Lent p e words (Err r) = (checked_image p e words ≡ false) × (r ≡ InvalidImage)

-- a pool that is written becomes these words; it stays the one that was lent
pub record Becomes (old new : PoolDataMut) (w : Words) : Type 0 where
  pub same_loan : new.words.ghost_name ≡ old.words.ghost_name
  pub p : new.p ≡ old.p
  pub e : new.e ≡ old.e
  pub words : new.words.now ≡ image old.p old.e w

-- a pool that is written is left with this image; it stays the one that was lent
pub record Leaves (old new : PoolDataMut) (img : List ℕ) : Type 0 where
  pub same_loan : new.words.ghost_name ≡ old.words.ghost_name
  pub p : new.p ≡ old.p
  pub e : new.e ≡ old.e
  pub words : new.words.now ≡ img

-- the pool as it was lent to be written
pub record LentMut (P E : ℕ) (lent : MutBor (List ℕ)) (pool : PoolDataMut) : Type 0 where
  pub same_loan : pool.words.ghost_name ≡ lent.ghost_name
  pub words : pool.words.now ≡ lent.now
  pub p : pool.p ≡ P
  pub e : pool.e ≡ E
