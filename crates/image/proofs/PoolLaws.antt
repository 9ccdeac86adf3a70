-- What a lent pool becomes: by nothing, word by word, and by one writer after another. Assumes nothing.
use mathlib.Core.Path.{◌≡◌, refl, ap₂, ◌∙◌}
use Prim.Native.Nat.{ℕ}
use Rattle.image.specs.declared.pool_data.PoolData.{PoolData}
use Rattle.image.specs.declared.pool_data.PoolDataMut.{PoolDataMut}
use Rattle.image.specs.Layout.{Head, Field, head, seat, slot, share, Words, InRange, image}
use Rattle.image.specs.Seats.{with_head}
use Rattle.image.specs.Pool.{words_of, words_in, Becomes}
use Rattle.image.proofs.LayoutLaws.{read_image}
use Rattle.image.proofs.HoldsLaws.{holds_itself, holds_is, same_image}

-- a pool that nothing was written to
pub becomes_itself : (pool : PoolDataMut) → Becomes pool pool (words_in pool)
becomes_itself pool = record {
  same_loan = refl;
  p = refl;
  e = refl;
  words = holds_is pool.p pool.e (words_in pool) pool.words.now (holds_itself pool.p pool.e pool.words.now pool.sized.size);
}

module _ (old new : PoolDataMut) (w : Words) (b : Becomes old new w) where
  -- its words by name
  pub becomes_reads : (f : Field) → InRange old.p old.e f → words_in new f ≡ w f
  becomes_reads f r = rw (b.p, b.e, b.words) (read_image old.p old.e w f r)

  -- the same words said otherwise
  pub becomes_as : (v : Words) → ((f : Field) → InRange old.p old.e f → w f ≡ v f) → Becomes old new v
  becomes_as v e = record { same_loan = b.same_loan; p = b.p; e = b.e; words = b.words ∙ same_image old.p old.e w v e }

-- nothing was written, and its words are said otherwise
pub becomes_same : (a : PoolDataMut) (u : Words) → ((f : Field) → InRange a.p a.e f → words_in a f ≡ u f) → Becomes a a u
becomes_same a u e = becomes_as a a (words_in a) (becomes_itself a) u e

-- what a second write makes of the words, said by what the first found
pub becomes_next : (a b c : PoolDataMut) (w v u : Words) → Becomes a b w → Becomes b c v → ((f : Field) → InRange a.p a.e f → v f ≡ u f) → Becomes a c u
becomes_next a b c w v u x y e = record {
  same_loan = y.same_loan ∙ x.same_loan;
  p = y.p ∙ x.p;
  e = y.e ∙ x.e;
  words = y.words ∙ ap₂ (λ (p q : ℕ). image p q v) x.p x.e ∙ same_image a.p a.e v u e;
}

-- a pool that is written, lent to be read, has the same words
pub read_same : (r : PoolData) (pool : PoolDataMut) → r.words.now ≡ pool.words.now → r.p ≡ pool.p → r.e ≡ pool.e → words_of r ≡ words_in pool
read_same r pool w p e = rw (w, p, e)

-- a word of the head that is written leaves the others as they are found
pub head_same : (x : Head) (value : ℕ) (w v : Words) (f : Field) → w f ≡ v f → with_head w x value f ≡ with_head v x value f
unfolding with_head
head_same x value w v (head h) e = rw e
head_same x value w v (seat q y) e = e
head_same x value w v (slot t y) e = e
head_same x value w v (share t q y) e = e
