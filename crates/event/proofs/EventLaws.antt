-- Laws of item 7's definitions: what each answer tells. Assumes nothing.
use mathlib.Core.Path.{◌≡◌, refl, sym, subst}
use mathlib.Core.Logic.{◌⊎◌, inl, inr}
use mathlib.Core.Bool.{Bool, true, false}
use Prim.Native.Nat.{ℕ, ◌+◌, ◌-◌, ◌*◌, ◌/◌, ◌≤◌, ◌<◌}
use native.Mathlib.Nat.{add-zero, zero-mul, mul-zero, zero-div, mul-le-mul_right, le-div_iff_mul-le, div-mul-le_self}
use native.Mathlib.Omega.{arith}
use lib.Dec.{eqb, leb, ltb}
use borrow.Author.Tests.{le-ltb, eq-eqb, leb-true, ltb-true, ltb-false, eqb-true, eqb-false}
use Rattle.std.specs.Prelude.{if◌then◌else◌}
use Rattle.types.specs.Base.{M, word, Outcome, refused, accepted}
use Rattle.types.specs.Refusals.{does_not_fit}
use Rattle.event.specs.declared.event.Event.{Event}
use Rattle.event.specs.Event.{Parts, rate_of, total_of, shared, reward_of, event_reward}

module _ (a y ratio fee : ℕ) (self_side : Bool) where
  pub reward_none : a ≡ 0 → reward_of a y ratio fee self_side ≡ accepted (record { delegator = 0; publisher = 0 })
  unfolding reward_of
  reward_none z = rw (eq-eqb a 0 z)

-- ---- what an answer tells: the parts add up to the total, and 13 has one of its conditions

abbrev Shares : (total fee : ℕ) (self_side : Bool) → Outcome Parts → Type 0
Shares total fee self_side (refused k) = (k ≡ does_not_fit) × ((self_side ≡ false) × (total < total * fee / M))
Shares total fee self_side (accepted p) = p.delegator + p.publisher ≡ total

shared_tells : (total fee : ℕ) (self_side : Bool) → Shares total fee self_side (shared total fee self_side)
unfolding shared
shared_tells total fee true = add-zero total
shared_tells total fee false = go (ltb total (total * fee / M)) refl
  where
    go : (t : Bool) → ltb total (total * fee / M) ≡ t
        → Shares total fee false (if t then refused does_not_fit else accepted (record { delegator = total - total * fee / M; publisher = total * fee / M }))
    go true h = (refl, (refl, ltb-true total (total * fee / M) h))
    go false h = let l = ltb-false total (total * fee / M) h in omega arith

-- a rate past a word, a total past a word, or a publisher's part above the total
abbrev pub Unfit : (a y ratio fee : ℕ) (self_side : Bool) → Type 0
Unfit a y ratio fee self_side =
    (word ≤ rate_of y ratio)
    ⊎ ((word ≤ total_of a (rate_of y ratio))
    ⊎ ((self_side ≡ false) × (total_of a (rate_of y ratio) < total_of a (rate_of y ratio) * fee / M)))

-- amount 0 earns nothing
pub total_none : (a rate : ℕ) → a ≡ 0 → total_of a rate ≡ 0
unfolding total_of
total_none a rate z = rw (z, zero-mul rate, zero-div M)

abbrev Tells : (a y ratio fee : ℕ) (self_side : Bool) → Outcome Parts → Type 0
Tells a y ratio fee self_side (refused k) = (k ≡ does_not_fit) × ((a ≡ 0 → ⊥) × Unfit a y ratio fee self_side)
Tells a y ratio fee self_side (accepted p) = p.delegator + p.publisher ≡ total_of a (rate_of y ratio)

module _ (a y ratio fee : ℕ) (self_side : Bool) where
  -- from the total's shares to the reward
  from_shares : (a ≡ 0 → ⊥) → (o : Outcome Parts) → Shares (total_of a (rate_of y ratio)) fee self_side o → Tells a y ratio fee self_side o
  from_shares n (refused k) s = (s.0, (n, inr (inr s.1)))
  from_shares n (accepted p) s = s

  reward_tells : Tells a y ratio fee self_side (reward_of a y ratio fee self_side)
  unfolding reward_of
  reward_tells = go (eqb a 0) refl (leb word (rate_of y ratio)) refl (leb word (total_of a (rate_of y ratio))) refl
    where
      go : (t₁ : Bool) → eqb a 0 ≡ t₁ → (t₂ : Bool) → leb word (rate_of y ratio) ≡ t₂ → (t₃ : Bool) → leb word (total_of a (rate_of y ratio)) ≡ t₃
          → Tells a y ratio fee self_side (
          if t₁ then accepted (record { delegator = 0; publisher = 0 })
          else if t₂ then refused does_not_fit
          else if t₃ then refused does_not_fit
          else shared (total_of a (rate_of y ratio)) fee self_side)
      go true h₁ t₂ h₂ t₃ h₃ = sym (total_none a (rate_of y ratio) (eqb-true a 0 h₁))
      go false h₁ true h₂ t₃ h₃ = (refl, (eqb-false a 0 h₁, inl (leb-true word (rate_of y ratio) h₂)))
      go false h₁ false h₂ true h₃ = (refl, (eqb-false a 0 h₁, inr (inl (leb-true word (total_of a (rate_of y ratio)) h₃))))
      go false h₁ false h₂ false h₃ =
          from_shares (eqb-false a 0 h₁) (shared (total_of a (rate_of y ratio)) fee self_side) (shared_tells (total_of a (rate_of y ratio)) fee self_side)

  -- the parts add up to the total
  pub reward_adds : (p : Parts) → reward_of a y ratio fee self_side ≡ accepted p → p.delegator + p.publisher ≡ total_of a (rate_of y ratio)
  reward_adds p e = subst (Tells a y ratio fee self_side) e reward_tells

  -- only 13 is given
  pub reward_refused : (k : ℕ) → reward_of a y ratio fee self_side ≡ refused k → k ≡ does_not_fit
  reward_refused k e = (subst (Tells a y ratio fee self_side) e reward_tells).0

  -- 13 only by one of its conditions
  pub reward_13_only : reward_of a y ratio fee self_side ≡ refused does_not_fit → (a ≡ 0 → ⊥) × Unfit a y ratio fee self_side
  reward_13_only e = (subst (Tells a y ratio fee self_side) e reward_tells).1

-- an event's parts add up to what the amount earns at the side's ratio
pub event_adds : (e : Event) (a : ℕ) (self_side : Bool) (p : Parts) → event_reward e a self_side ≡ accepted p
    → p.delegator + p.publisher ≡ total_of a (rate_of e.y.0 (if self_side then e.event_data.self_reward_ratio.0 else e.event_data.other_reward_ratio.0))
unfolding event_reward
event_adds e a self_side p q = reward_adds a _ _ _ self_side p q

-- an event refuses with 13 alone
pub event_refused : (e : Event) (a : ℕ) (self_side : Bool) (k : ℕ) → event_reward e a self_side ≡ refused k → k ≡ does_not_fit
unfolding event_reward
event_refused e a self_side k q = reward_refused a _ _ _ self_side k q

-- amount 0 earns nothing in any event
pub event_none : (e : Event) (a : ℕ) (self_side : Bool) → a ≡ 0 → accepted (record { delegator = 0; publisher = 0 }) ≡ event_reward e a self_side
unfolding event_reward
event_none e a self_side z = sym (reward_none a _ _ _ self_side z)

-- at rate 0 nothing is earned, and ratio 0 gives that rate
pub total_no_rate : (a rate : ℕ) → rate ≡ 0 → total_of a rate ≡ 0
unfolding total_of
total_no_rate a rate z = rw (z, mul-zero a, zero-div M)

pub rate_no_ratio : (y ratio : ℕ) → ratio ≡ 0 → rate_of y ratio ≡ 0
unfolding rate_of
rate_no_ratio y ratio z = rw (z, mul-zero y, zero-div M)

-- a larger amount earns no less
pub total_le : (a b rate : ℕ) → a ≤ b → total_of a rate ≤ total_of b rate
unfolding total_of
total_le a b rate l = omega (arith, mul-le-mul_right rate l)

-- ---- what amounts earn apart is at most what they earn together

pub total_split : (a b rate : ℕ) → total_of a rate + total_of b rate ≤ total_of (a + b) rate
unfolding total_of
total_split a b rate =
    (le-div_iff_mul-le {k = M} {x = a * rate / M + b * rate / M} {y = (a + b) * rate} (omega arith)).1
    (omega (arith, div-mul-le_self (a * rate) M, div-mul-le_self (b * rate) M))

-- the self side keeps all, the other side gives the publisher its part
module _ (total fee : ℕ) where
  pub shared_self : shared total fee true ≡ accepted (record { delegator = total; publisher = 0 })
  unfolding shared
  shared_self = refl

  pub shared_parts : total * fee / M ≤ total → shared total fee false ≡ accepted (record { delegator = total - total * fee / M; publisher = total * fee / M })
  unfolding shared
  shared_parts h = rw (le-ltb total (total * fee / M) h)

-- an event's reward on the self side is by the self side's ratio
pub self_side_law : (e : Event) (amount : ℕ)
    → event_reward e amount true ≡ reward_of amount e.y.0 e.event_data.self_reward_ratio.0 e.event_data.delegation_fee.0 true
unfolding event_reward
self_side_law e amount = refl
