-- A rule of a table, proved at all of its entries by one test that is computed, entry by entry. Assumes nothing.
use Rattle.std.specs.Prelude.{◌≡◌, Bool, true, false, not, ◌&&◌, ◌||◌, List, [], ◌∷◌, ℕ, zero, suc, ◌+◌, ◌<◌, T, eqb, length, get_or}
use Rattle.std.proofs.Common.{◌∙◌, subst, sym, add-zero, zero-add, add-suc, suc-add, le_of_suc-le-suc, not-suc-le-zero, arith, eq-eqb, ne_eqb}

pub unlike : true ≡ false → ⊥
unlike e = let w : ◌≡◌ {A = ℕ} 0 1 = cc in omega arith

pub first_holds : (a b : Bool) → T (a && b) → T a
first_holds true b t = tt
first_holds false b t = t

pub second_holds : (a b : Bool) → T (a && b) → T b
second_holds true b t = t
second_holds false b t = absurd t

-- ---- a test of each entry and its place, counted from i
abbrev pub every : (ℕ → ℕ → Bool) → ℕ → List ℕ → Bool
every f i [] = true
every f i (x ∷ xs) = f i x && every f (suc i) xs

from : (f : ℕ → ℕ → Bool) (d : ℕ) (xs : List ℕ) (i : ℕ) → T (every f i xs) → (k : ℕ) → k < length xs → T (f (i + k) (get_or xs k d))
from f d [] i t k h = absurd (not-suc-le-zero h)
from f d (x ∷ xs) i t zero h = subst (λ (m : ℕ). T (f m x)) (sym (add-zero i)) (first_holds (f i x) (every f (suc i) xs) t)
from f d (x ∷ xs) i t (suc k) h =
    subst (λ (m : ℕ). T (f m (get_or xs k d))) (suc-add i k ∙ sym (add-suc i k))
    (from f d xs (suc i) (second_holds (f i x) (every f (suc i) xs) t) k (le_of_suc-le-suc h))

pub everywhere : (f : ℕ → ℕ → Bool) (d : ℕ) (xs : List ℕ) → T (every f 0 xs) → (k : ℕ) → k < length xs → T (f k (get_or xs k d))
everywhere f d xs t k h = subst (λ (m : ℕ). T (f m (get_or xs k d))) (zero-add k) (from f d xs 0 t k h)

-- ---- a test of each entry beside all that follow it: none stands twice, but for d, which may
abbrev pub absent : ℕ → List ℕ → Bool
absent x [] = true
absent x (y ∷ ys) = not (eqb x y) && absent x ys

abbrev pub distinct : ℕ → List ℕ → Bool
distinct d [] = true
distinct d (x ∷ xs) = (eqb x d || absent x xs) && distinct d xs

absent_at : (d x : ℕ) (ys : List ℕ) → T (absent x ys) → (j : ℕ) → j < length ys → x ≡ get_or ys j d → ⊥
absent_at d x [] t j h e = not-suc-le-zero h
absent_at d x (y ∷ ys) t zero h e = subst (λ (w : Bool). T (not w)) (eq-eqb x y e) (first_holds (not (eqb x y)) (absent x ys) t)
absent_at d x (y ∷ ys) t (suc j) h e = absent_at d x ys (second_holds (not (eqb x y)) (absent x ys) t) j (le_of_suc-le-suc h) e

pub not_twice : (d : ℕ) (xs : List ℕ) → T (distinct d xs) → (i j : ℕ) → i < j → j < length xs → (get_or xs i d ≡ d → ⊥) → get_or xs i d ≡ get_or xs j d → ⊥
not_twice d [] t i j l h n e = not-suc-le-zero h
not_twice d (x ∷ xs) t i zero l h n e = not-suc-le-zero l
not_twice d (x ∷ xs) t zero (suc j) l h n e =
    let here = first_holds (eqb x d || absent x xs) (distinct d xs) t in
    absent_at d x xs (subst (λ (w : Bool). T (w || absent x xs)) (ne_eqb x d n) here) j (le_of_suc-le-suc h) e
not_twice d (x ∷ xs) t (suc i) (suc j) l h n e =
    not_twice d xs (second_holds (eqb x d || absent x xs) (distinct d xs) t) i j (le_of_suc-le-suc l) (le_of_suc-le-suc h) n e
