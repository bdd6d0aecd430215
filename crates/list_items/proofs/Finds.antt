-- What is found one word further on is found here, and an edge by its kind. Assumes nothing.
use mathlib.Core.Path.{◌≡◌, refl, sym, ap, ◌∙◌}
use mathlib.Core.List.{List}
use Prim.Native.Nat.{ℕ, zero, suc, ◌+◌, ◌<◌}
use native.Mathlib.Omega.{arith}
use lib.ListN.{length, get_or, drop}
use Rattle.std.specs.Prelude.{Option, Some, None}
use Rattle.hatch_format.specs.Caps.{document_caps}
use Rattle.hatch_lists.specs.declared.Item.{Item}
use Rattle.hatch_lists.specs.Steps.{Step, broken, edge_by, edge_step}
use Rattle.list_items.specs.Found.{Small, Finds}
use Rattle.list_items.proofs.Words.{first_word}

pub found_behind : {A : Type 0} (P : A → Type 0) (ws : List ℕ) (at : ℕ) (step behind : List ℕ → Step (List ℕ) A)
    → step (drop at ws) ≡ behind (drop (at + 1) ws) → (r : Option (A × ℕ)) → Finds P ws (at + 1) r behind → Finds P ws at r step
found_behind P ws at step behind e (Some f) k = (e ∙ k.0, record { further = omega (arith, k.1.further); within = k.1.within }, k.2)
found_behind P ws at step behind e None k = e ∙ k

-- an edge by its kind
module _ (ws : List ℕ) (at : ℕ) (h : at < length ws) {w : ℕ} (ew : w ≡ get_or ws at 0) where
  pub edge_of : edge_step document_caps (drop at ws) ≡ edge_by document_caps w (drop (at + 1) ws)
  edge_of = ap (edge_step document_caps) (first_word ws at h) ∙ ap (λ (n : ℕ). edge_by document_caps n (drop (at + 1) ws)) (sym ew)

  pub edge_behind : (kind : ℕ) → w ≡ kind → (r : Option (Item × ℕ)) → Finds Small ws (at + 1) r (edge_by document_caps kind)
      → Finds Small ws at r (edge_step document_caps)
  edge_behind kind e r k =
      found_behind Small ws at (edge_step document_caps) (edge_by document_caps kind)
      (edge_of ∙ ap (λ (n : ℕ). edge_by document_caps n (drop (at + 1) ws)) e) r k

  pub edge_none : (w ≡ 1 → ⊥) → (w ≡ 2 → ⊥) → (w ≡ 3 → ⊥) → (w ≡ 4 → ⊥) → edge_step document_caps (drop at ws) ≡ broken
  edge_none n₁ n₂ n₃ n₄ = edge_of ∙ none w n₁ n₂ n₃ n₄
    where
      none : (n : ℕ) → (n ≡ 1 → ⊥) → (n ≡ 2 → ⊥) → (n ≡ 3 → ⊥) → (n ≡ 4 → ⊥) → edge_by document_caps n (drop (at + 1) ws) ≡ broken
      none zero a b c d = refl
      none (suc zero) a b c d = absurd (a refl)
      none (suc (suc zero)) a b c d = absurd (b refl)
      none (suc (suc (suc zero))) a b c d = absurd (c refl)
      none (suc (suc (suc (suc zero)))) a b c d = absurd (d refl)
      none (suc (suc (suc (suc (suc n))))) a b c d = refl
