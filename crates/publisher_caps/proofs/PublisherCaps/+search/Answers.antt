use mathlib.Core.Path.{◌≡◌, sym, ap, ◌∙◌}
use mathlib.Core.Bool.{Bool, true, false}
use Prim.Native.Nat.{ℕ, ◌<◌}
use native.Mathlib.Omega.{arith}
use Rattle.publisher_caps.specs.Key.{number_by}
use Rattle.publisher_caps.specs.declared.key.KeyNumber.{KeyNumber}
use Rattle.publisher_caps.proofs.KeyLaws.{Small, lt_of, eq_of, eq_true, less_says, not_less_says, other_says}
use Rattle.publisher_caps.proofs.LookupLaws.{or_none, search_none, search_low, search_here, search_high}
use Rattle.publisher_caps.proofs.PublisherCaps.+search.Goals as goal

pub returns-then-rows-eq0 : goal.returns-then-rows-eq0
returns-then-rows-eq0 t c =
    let caps = c.args.self.now in
    ap or_none (search_none _ caps.whole _ _ _ (omega (arith, caps.counted)) c.if-rows-eq0.true)

pub returns-then-eq : goal.returns-then-eq
returns-then-eq t c =
    let caps = c.args.self.now in
    ap or_none (search_here _ caps.whole _ _ _ (omega (arith, caps.counted)) _ (omega arith) c.if-rows-eq0.false
    (eq_true c.args.wanted.now c.key-found.result (sym c.eq.ensures ∙ c.if-eq.true) ∙ c.key-found.ensures))

-- of the key and of the row in the middle: that the first is below the other, or above it, is so of their numbers
module _ (k l : KeyNumber) (small_k : Small k) (small_l : Small l) (n : ℕ) (is : number_by l ≡ n) (t : Bool) where
  low : t ≡ lt_of k l → t ≡ true → number_by k < n
  low e h = omega (arith, less_says k l small_k small_l t e h)

  high : (u : Bool) → t ≡ lt_of k l → t ≡ false → u ≡ eq_of k l → u ≡ false → n < number_by k
  high u e h d g = omega (arith, not_less_says k l small_k small_l t e h, other_says k l small_k small_l u d g)

pub returns-then-lt : goal.returns-then-lt
returns-then-lt t c =
    let caps = c.args.self.now in
    c.search.ensures
    ∙ ap or_none (search_low _ caps.whole _ _ _ (omega (arith, caps.counted)) c.if-rows-eq0.false
    (low _ _ (omega arith, omega arith, omega arith) (omega arith, omega arith, omega arith) _ c.key-found.ensures _ c.lt.ensures c.if-lt.true))

pub returns : goal.returns
returns t c =
    let caps = c.args.self.now in
    c.search-2.ensures
    ∙ ap or_none (search_high _ caps.whole _ _ _ (omega (arith, caps.counted)) c.if-rows-eq0.false
    (high _ _ (omega arith, omega arith, omega arith) (omega arith, omega arith, omega arith) _ c.key-found.ensures _ _ c.lt.ensures c.if-lt.false
    c.eq.ensures c.if-eq.false))
