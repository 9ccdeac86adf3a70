-- A key's words are fixed by its number, and a message that is lent by its bytes. Assumes nothing.
use mathlib.Core.Path.{◌≡◌, sym, ap, ◌∙◌}
use mathlib.Core.List.{List}
use Prim.Native.Nat.{ℕ, ◌<◌}
use native.Mathlib.Omega.{arith}
use Rattle.std.specs.Prelude.{Result, Ok, Err}
use Rattle.types.specs.Base.{word}
use Rattle.types.specs.declared.refusals.Refusal.{Refusal}
use Rattle.publisher_caps.specs.declared.PublisherCaps.{PublisherCaps}
use Rattle.publisher_caps.specs.declared.key.KeyNumber.{KeyNumber}
use Rattle.publisher_caps.specs.Key.{pair, number_by}
use Rattle.publisher_caps.specs.Message.{rows_of}
use Rattle.publisher_caps.specs.Caps.{Checked}

pair_high : (h l k m : ℕ) → l < word → m < word → pair h l ≡ pair k m → h ≡ k
unfolding pair
pair_high h l k m x y e = omega arith

pair_low : (h l k m : ℕ) → l < word → m < word → pair h l ≡ pair k m → l ≡ m
unfolding pair
pair_low h l k m x y e = omega arith

-- words below the first, each a word
pub record LowWords (k : KeyNumber) : Type 0 where
  pub second : k.1 < word
  pub third : k.2 < word
  pub fourth : k.3 < word

-- two keys with the same number are the same
pub number_by_fixes : (a b : KeyNumber) → LowWords a → LowWords b → number_by a ≡ number_by b → a ≡ b
number_by_fixes a b x y e =
    let three = pair_high (pair (pair a.0 a.1) a.2) a.3 (pair (pair b.0 b.1) b.2) b.3 x.fourth y.fourth e in
    let two = pair_high (pair a.0 a.1) a.2 (pair b.0 b.1) b.2 x.third y.third three in
    let fourth = pair_low (pair (pair a.0 a.1) a.2) a.3 (pair (pair b.0 b.1) b.2) b.3 x.fourth y.fourth e in
    let third = pair_low (pair a.0 a.1) a.2 (pair b.0 b.1) b.2 x.third y.third three in
    let second = pair_low a.0 a.1 b.0 b.1 x.second y.second two in
    let first = pair_high a.0 a.1 b.0 b.1 x.second y.second two in
    λ i. record { 0 = first i; 1 = second i; 2 = third i; 3 = fourth i }

-- a message's bytes, and how many rows it has
abbrev pub figures : Result PublisherCaps Refusal → Result (List ℕ × ℕ) Refusal
figures (Ok caps) = Ok (caps.message.now, caps.rows)
figures (Err r) = Err r

-- two messages that are lent of the same bytes, or two refusals, are the same
pub checked_fixes : (m : List ℕ) (a b : Result PublisherCaps Refusal) → Checked m a → Checked m b → figures a ≡ figures b
checked_fixes m (Ok a) (Ok b) x y =
    let bytes : a.message.now ≡ b.message.now = x.1 ∙ sym y.1 in
    let rows : a.rows ≡ b.rows = a.counted ∙ (ap rows_of bytes ∙ sym b.counted) in
    λ i. Ok (bytes i, rows i)
checked_fixes m (Ok a) (Err s) x y = cc
checked_fixes m (Err r) (Ok b) x y = cc
checked_fixes m (Err r) (Err s) x y = cc
