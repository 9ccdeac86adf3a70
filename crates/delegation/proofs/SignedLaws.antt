-- The definitions on signed words are signed arithmetic: by the place of a word among the signed words, 0 for -2^63 and `half` for 0,
-- each answer is the sum or the difference, and each 13 has its number out of range. Assumes nothing.
use Rattle.std.proofs.Common.{◌≡◌, ℕ, ◌+◌, ◌-◌, ◌%◌, ◌<◌, ◌≤◌, Bool, true, false, ◌&&◌, ltb, leb, ◌⊎◌}
use Rattle.std.proofs.Common.{refl, subst, inl, inr, arith, ltb-false, ltb-true, leb-false, leb-true}
use Rattle.std.specs.Prelude.{if◌then◌else◌}
use Rattle.types.specs.Base.{word, half, Outcome, refused, accepted}
use Rattle.types.specs.Refusals.{does_not_fit}
use Rattle.delegation.specs.Side.{raised_of, lowered_of, rolled, roll_fits}

abbrev pub place : ℕ → ℕ
place c = (c + half) % word

-- what an answer tells of a change and an amount
module _ (change amount : ℕ) where
  abbrev Raised : Outcome ℕ → Type 0
  Raised (refused k) = (k ≡ does_not_fit) × ((half ≤ amount) ⊎ (word ≤ place change + amount))
  Raised (accepted v) = (v < word) × (place v ≡ place change + amount)

  abbrev Lowered : Outcome ℕ → Type 0
  Lowered (refused k) = (k ≡ does_not_fit) × ((half ≤ amount) ⊎ (place change < amount))
  Lowered (accepted v) = (v < word) × (place v + amount ≡ place change)

module _ (change amount : ℕ) (w : change < word) where
  raise_tells : Raised change amount (raised_of change amount)
  unfolding raised_of
  raise_tells = go (leb half amount) refl (ltb change half) refl (leb half (change + amount)) refl
    where
      go : (t₁ : Bool) → leb half amount ≡ t₁ → (t₂ : Bool) → ltb change half ≡ t₂ → (t₃ : Bool) → leb half (change + amount) ≡ t₃
          → Raised change amount (if t₁ then refused does_not_fit else if t₂ && t₃ then refused does_not_fit else accepted ((change + amount) % word))
      go true h₁ t₂ h₂ t₃ h₃ = (refl, inl (leb-true half amount h₁))
      go false h₁ true h₂ true h₃ = (refl, inr (omega (arith, ltb-true change half h₂, leb-true half (change + amount) h₃)))
      go false h₁ true h₂ false h₃ = (omega arith, omega (arith, leb-false half amount h₁, leb-false half (change + amount) h₃))
      go false h₁ false h₂ t₃ h₃ = (omega arith, omega (arith, leb-false half amount h₁, ltb-false change half h₂))

  pub raise_is : (v : ℕ) → raised_of change amount ≡ accepted v → (v < word) × (place v ≡ place change + amount)
  raise_is v e = subst (Raised change amount) e raise_tells

  pub raise_13 : raised_of change amount ≡ refused does_not_fit → (half ≤ amount) ⊎ (word ≤ place change + amount)
  raise_13 e = (subst (Raised change amount) e raise_tells).1

  lower_tells : Lowered change amount (lowered_of change amount)
  unfolding lowered_of
  lower_tells = go (leb half amount) refl (leb half change) refl (ltb change (half + amount)) refl
    where
      go : (t₁ : Bool) → leb half amount ≡ t₁ → (t₂ : Bool) → leb half change ≡ t₂ → (t₃ : Bool) → ltb change (half + amount) ≡ t₃
          → Lowered change amount (if t₁ then refused does_not_fit else if t₂ && t₃ then refused does_not_fit else accepted ((change + word - amount) % word))
      go true h₁ t₂ h₂ t₃ h₃ = (refl, inl (leb-true half amount h₁))
      go false h₁ true h₂ true h₃ = (refl, inr (omega (arith, leb-true half change h₂, ltb-true change (half + amount) h₃)))
      go false h₁ true h₂ false h₃ =
          (omega arith, omega (arith, leb-false half amount h₁, leb-true half change h₂, ltb-false change (half + amount) h₃))
      go false h₁ false h₂ t₃ h₃ = (omega arith, omega (arith, leb-false half amount h₁, leb-false half change h₂))

  pub lower_is : (v : ℕ) → lowered_of change amount ≡ accepted v → (v < word) × (place v + amount ≡ place change)
  lower_is v e = subst (Lowered change amount) e lower_tells

  pub lower_13 : lowered_of change amount ≡ refused does_not_fit → (half ≤ amount) ⊎ (place change < amount)
  lower_13 e = (subst (Lowered change amount) e lower_tells).1

-- a roll, by whether it fits: 13 for a total past 2^63 - 1, or a sum outside 0 to 2^63 - 1
module _ (total change : ℕ) where
  abbrev Rolls : Bool → ℕ → Type 0
  Rolls true v = (v < half) × (v + half ≡ total + place change)
  Rolls false v = (half ≤ total) ⊎ ((total + place change < half) ⊎ (word ≤ total + place change))

module _ (total change : ℕ) (w : change < word) where
  roll_tells : Rolls total change (roll_fits total change) (rolled total change)
  unfolding rolled roll_fits
  roll_tells = go (ltb total half) refl (ltb change half) refl (ltb (total + change) half) refl (leb (word - change) total) refl
    where
      go : (t₁ : Bool) → ltb total half ≡ t₁ → (t₂ : Bool) → ltb change half ≡ t₂ → (t₃ : Bool) → ltb (total + change) half ≡ t₃
          → (t₄ : Bool) → leb (word - change) total ≡ t₄
          → Rolls total change (t₁ && (if t₂ then t₃ else t₄)) (if t₂ then total + change else total - (word - change))
      go true h₁ true h₂ true h₃ t₄ h₄ = (ltb-true (total + change) half h₃, omega (arith, ltb-true change half h₂))
      go true h₁ true h₂ false h₃ t₄ h₄ = inr (inr (omega (arith, ltb-true change half h₂, ltb-false (total + change) half h₃)))
      go true h₁ false h₂ t₃ h₃ true h₄ =
          let l = ltb-true total half h₁ in
          let m = leb-true (word - change) total h₄ in
          (omega arith, omega (arith, ltb-false change half h₂))
      go true h₁ false h₂ t₃ h₃ false h₄ = inr (inl (omega (arith, ltb-false change half h₂, leb-false (word - change) total h₄)))
      go false h₁ t₂ h₂ t₃ h₃ t₄ h₄ = inl (ltb-false total half h₁)

  pub roll_is : roll_fits total change ≡ true → (rolled total change < half) × (rolled total change + half ≡ total + place change)
  roll_is e = subst (λ (t : Bool). Rolls total change t (rolled total change)) e roll_tells

  pub roll_13 : roll_fits total change ≡ false → (half ≤ total) ⊎ ((total + place change < half) ⊎ (word ≤ total + place change))
  roll_13 e = subst (λ (t : Bool). Rolls total change t (rolled total change)) e roll_tells
