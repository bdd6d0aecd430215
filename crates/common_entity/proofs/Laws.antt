-- A mode's number that is none of 0, 1 and 2 is a reserved one. Assumes nothing.
use Rattle.std.specs.Prelude.{◌≡◌, refl, ℕ, zero, suc}
use Rattle.prefix_format.specs.declared.EntityMode.TheVariants.{Reserved}
use Rattle.prefix_format.specs.Modes.{mode_of}

pub mode_other : (v : ℕ) → (v ≡ 0 → ⊥) → (v ≡ 1 → ⊥) → (v ≡ 2 → ⊥) → mode_of v ≡ Reserved
mode_other zero a b c = absurd (a refl)
mode_other (suc zero) a b c = absurd (b refl)
mode_other (suc (suc zero)) a b c = absurd (c refl)
mode_other (suc (suc (suc v))) a b c = refl
