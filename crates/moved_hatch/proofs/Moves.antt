-- Where a call moves, record and lists are whole, and origin and coordinates are in range. Assumes nothing.
use Rattle.std.proofs.Math.Path.{◌≡◌, refl, ap}
use Rattle.std.proofs.Common.{◌∙◌, arith}
use Rattle.std.specs.Prelude.{Bool, ◌&&◌, List, ℕ}
use Rattle.std.proofs.Math.Bool.{true, false, and-eq-true_iff}
use Rattle.hatch_lists.specs.declared.HatchCounts.{HatchCounts}
use Rattle.hatch_lists.specs.Whole.{Held, whole, not_whole, held}
use Rattle.hatch_lists.specs.Coordinates.{Role, held_roles}
use Rattle.hatch_lists.specs.WholeLaws.{held_whole}
use Rattle.moved_hatch.specs.Moving.{all_in_range, moves, Arithmetic, patterns, judged, outcome_of, outcome}
use Rattle.moved_hatch.specs.Moves.{Moves}

module _ {A : Type 0} (m : Arithmetic A) (c : HatchCounts) (upright : Bool) (ws : List ℕ) (ns : List A) (x₀ y₀ : A) where
  pub moves_only : (rs : List Role) → outcome m c upright ws ns x₀ y₀ ≡ moves rs → Moves m c upright ws ns x₀ y₀ rs
  unfolding outcome
  moves_only rs e = go (held c ws (patterns m.pattern ns)) upright refl refl e
    where
      go : (o : Held) (u : Bool) → held c ws (patterns m.pattern ns) ≡ o → upright ≡ u → outcome_of m o u ns x₀ y₀ ≡ moves rs → Moves m c upright ws ns x₀ y₀ rs
      go not_whole u h k e = absurd (let z : ◌≡◌ {A = ℕ} 0 1 = cc in omega arith)
      go (whole a) false h k e = absurd (let z : ◌≡◌ {A = ℕ} 0 1 = cc in omega arith)
      go (whole a) true h k e = tested (m.in_range x₀ && (m.in_range y₀ && all_in_range m.in_range (held_roles a) ns)) refl e
        where
          tested : (t : Bool) → m.in_range x₀ && (m.in_range y₀ && all_in_range m.in_range (held_roles a) ns) ≡ t → judged (held_roles a) true t ≡ moves rs
              → Moves m c upright ws ns x₀ y₀ rs
          tested false i e = absurd (let z : ◌≡◌ {A = ℕ} 0 1 = cc in omega arith)
          tested true i e =
              let f : rs ≡ held_roles a = cc in
              let i₁ = (and-eq-true_iff (m.in_range x₀) _).0 i in
              let i₂ = (and-eq-true_iff (m.in_range y₀) _).0 i₁.1 in
              record {
                hatch = a;
                is_whole = held_whole c ws (patterns m.pattern ns) a h;
                roles = f;
                is_upright = k;
                x_in_range = i₁.0;
                y_in_range = i₂.0;
                all_are_in_range = ap (λ l. all_in_range m.in_range l ns) f ∙ i₂.1;
              }
