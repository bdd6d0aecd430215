-- A number that is none of 1 to 7 is no release. Assumes nothing.
use Rattle.std.specs.Prelude.{◌≡◌, refl, ℕ, zero, suc, None}
use Rattle.text.specs.Releases.{version_of}

pub unknown : (n : ℕ) → (n ≡ 1 → ⊥) → (n ≡ 2 → ⊥) → (n ≡ 3 → ⊥) → (n ≡ 4 → ⊥) → (n ≡ 5 → ⊥) → (n ≡ 6 → ⊥) → (n ≡ 7 → ⊥) → version_of n ≡ None
unknown zero h₁ h₂ h₃ h₄ h₅ h₆ h₇ = refl
unknown (suc zero) h₁ h₂ h₃ h₄ h₅ h₆ h₇ = absurd (h₁ refl)
unknown (suc (suc zero)) h₁ h₂ h₃ h₄ h₅ h₆ h₇ = absurd (h₂ refl)
unknown (suc (suc (suc zero))) h₁ h₂ h₃ h₄ h₅ h₆ h₇ = absurd (h₃ refl)
unknown (suc (suc (suc (suc zero)))) h₁ h₂ h₃ h₄ h₅ h₆ h₇ = absurd (h₄ refl)
unknown (suc (suc (suc (suc (suc zero))))) h₁ h₂ h₃ h₄ h₅ h₆ h₇ = absurd (h₅ refl)
unknown (suc (suc (suc (suc (suc (suc zero)))))) h₁ h₂ h₃ h₄ h₅ h₆ h₇ = absurd (h₆ refl)
unknown (suc (suc (suc (suc (suc (suc (suc zero))))))) h₁ h₂ h₃ h₄ h₅ h₆ h₇ = absurd (h₇ refl)
unknown (suc (suc (suc (suc (suc (suc (suc (suc n)))))))) h₁ h₂ h₃ h₄ h₅ h₆ h₇ = refl
