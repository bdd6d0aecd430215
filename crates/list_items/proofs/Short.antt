-- Too few words for a polyline or for a spline are not whole. Assumes nothing.
use mathlib.Core.Path.{◌≡◌, refl}
use mathlib.Core.Bool.{Bool, true, false}
use mathlib.Core.List.{List, [], ◌∷◌}
use Prim.Native.Nat.{ℕ, zero, suc, ◌-◌, ◌<◌}
use native.Mathlib.Omega.{arith}
use lib.Dec.{leb}
use lib.ListN.{length, drop, length-drop}
use Rattle.hatch_format.specs.Caps.{document_caps}
use Rattle.hatch_lists.specs.Steps.{Step, next, broken, and_next, switch_by, count_if, spline_step, polyline_step}

-- ---- steps in a row break off, however they are grouped; a switch or a count does, before what breaks off
module _ {A B : Type 0} (f : A → List ℕ → Step (List ℕ) B) where
  joined : {C : Type 0} (o : Step (List ℕ) A) (g : B → List ℕ → Step (List ℕ) C) → and_next o (λ a vs. and_next (f a vs) g) ≡ broken
      → and_next (and_next o f) g ≡ broken
  joined (next a vs) g e = e
  joined broken g e = refl

switch_short : {A : Type 0} (n : ℕ) (ws : List ℕ) (f : Bool → List ℕ → Step (List ℕ) A) → ((b : Bool) → f b ws ≡ broken)
    → and_next (switch_by n ws) f ≡ broken
switch_short zero ws f e = e false
switch_short (suc zero) ws f e = e true
switch_short (suc (suc n)) ws f e = refl

count_short : {A : Type 0} (b : Bool) (n : ℕ) (ws : List ℕ) (f : ℕ → List ℕ → Step (List ℕ) A) → f n ws ≡ broken → and_next (count_if b n ws) f ≡ broken
count_short true n ws f e = e
count_short false n ws f e = refl

-- ---- the words of a spline behind its kind, and those of a polyline behind its flags
six : (ws : List ℕ) → length ws < 6 → spline_step document_caps ws ≡ broken
six [] h = refl
six (d ∷ []) h = refl
six (d ∷ (r ∷ [])) h = switch_short r [] _ (λ x. refl)
six (d ∷ (r ∷ (p ∷ []))) h = switch_short r _ _ (λ x. switch_short p [] _ (λ y. refl))
six (d ∷ (r ∷ (p ∷ (k ∷ [])))) h = switch_short r _ _ (λ x. switch_short p _ _ (λ y. count_short (leb k 100_000) k [] _ refl))
six (d ∷ (r ∷ (p ∷ (k ∷ (c ∷ []))))) h =
    switch_short r _ _ (λ x. switch_short p _ _ (λ y. count_short (leb k 100_000) k _ _ (count_short (leb c 100_000) c [] _ refl)))
six (d ∷ (r ∷ (p ∷ (k ∷ (c ∷ (f ∷ ws)))))) h = absurd (omega arith)

four : (ws : List ℕ) → length ws < 4 → polyline_step document_caps ws ≡ broken
four [] h = refl
four (b ∷ []) h = joined _ (switch_by b []) _ (switch_short b [] _ (λ x. refl))
four (b ∷ (c ∷ [])) h = joined _ (switch_by b (c ∷ [])) _ (switch_short b _ _ (λ x. joined _ (switch_by c []) _ (switch_short c [] _ (λ y. refl))))
four (b ∷ (c ∷ (n ∷ []))) h =
    joined _ (switch_by b (c ∷ (n ∷ []))) _ (switch_short b _ _ (λ x.
    joined _ (switch_by c (n ∷ [])) _ (switch_short c _ _ (λ y.
    joined _ (count_if (leb n 100_000) n []) _ (count_short (leb n 100_000) n [] _ refl)))))
four (b ∷ (c ∷ (n ∷ (h ∷ ws)))) e = absurd (omega arith)

pub spline_short : (ws : List ℕ) (at : ℕ) → length ws - at < 6 → spline_step document_caps (drop at ws) ≡ broken
spline_short ws at h = six (drop at ws) (omega (arith, h, length-drop at ws))

pub polyline_short : (ws : List ℕ) (at : ℕ) → length ws - at < 4 → polyline_step document_caps (drop at ws) ≡ broken
polyline_short ws at h = four (drop at ws) (omega (arith, h, length-drop at ws))
