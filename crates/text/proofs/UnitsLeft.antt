-- The units at a place, and what is left of them without a closing zero: one fewer where the last is a zero, and always the first ones.
-- Assumes nothing.
use Rattle.std.specs.Prelude.{◌≡◌, refl, Bool, true, false, List, [], ◌∷◌, ℕ, zero, suc, ◌+◌, ◌*◌, ◌≤◌, eqb, length, take}
use Rattle.std.proofs.Common.{ap, ◌∙◌, arith}
use Rattle.loads.specs.Bits.{bit}
use Rattle.loads.specs.Bytes.{low_number, bytes_at}
use Rattle.text.specs.Units.{units_at}
use Rattle.text.specs.Texts.{unclosed, ends_in_zero}

pub length_units : (xs : List ℕ) (p k n : ℕ) → length (units_at xs p k n) ≡ n
unfolding units_at
length_units xs p k zero = refl
length_units xs p k (suc n) = ap suc (length_units xs (p + 8 * k) k n)

-- what is left of one unit
abbrev pick : ℕ → Bool → List ℕ
pick u b = elim b [ true ↦ [] | false ↦ u ∷ [] ]

left : (us : List ℕ) → length (unclosed us) + bit (ends_in_zero us) ≡ length us
left [] = refl
left (u ∷ []) = go (eqb u 0)
  where
    go : (b : Bool) → length (pick u b) + bit b ≡ 1
    go true = refl
    go false = refl
left (u ∷ (v ∷ us)) = omega (arith, left (v ∷ us))

pub units_left : (xs : List ℕ) (p k n : ℕ) → length (unclosed (units_at xs p k n)) + bit (ends_in_zero (units_at xs p k n)) ≡ n
units_left xs p k n = left (units_at xs p k n) ∙ length_units xs p k n

-- what is left are the first units
front : (us : List ℕ) → unclosed us ≡ take (length (unclosed us)) us
front [] = refl
front (u ∷ []) = go (eqb u 0)
  where
    go : (b : Bool) → pick u b ≡ take (length (pick u b)) (u ∷ [])
    go true = refl
    go false = refl
front (u ∷ (v ∷ us)) = ap (λ (l : List ℕ). u ∷ l) (front (v ∷ us))

first_units : (xs : List ℕ) (p k n m : ℕ) → m ≤ n → take m (units_at xs p k n) ≡ units_at xs p k m
unfolding units_at
first_units xs p k n zero h = refl
first_units xs p k zero (suc m) h = absurd (omega arith)
first_units xs p k (suc n) (suc m) h = ap (λ (l : List ℕ). low_number (bytes_at xs p k) ∷ l) (first_units xs (p + 8 * k) k n m (omega arith))

count_most : (xs : List ℕ) (p k n : ℕ) → length (unclosed (units_at xs p k n)) ≤ n
count_most xs p k n = omega (arith, units_left xs p k n)

pub unclosed_units : (xs : List ℕ) (p k n : ℕ) → unclosed (units_at xs p k n) ≡ units_at xs p k (length (unclosed (units_at xs p k n)))
unclosed_units xs p k n = front (units_at xs p k n) ∙ first_units xs p k n (length (unclosed (units_at xs p k n))) (count_most xs p k n)
