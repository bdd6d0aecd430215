-- Laws of moved lists: a moved list is as long as before, moves part by part, and keeps every entry past those that have a role. Assumes nothing.
use Rattle.std.specs.Prelude.{◌≡◌, refl, List, [], ◌∷◌, ◌++◌, ℕ, zero, suc, ◌≤◌, length, take, drop}
use Rattle.std.proofs.Common.{ap, arith}
use Rattle.hatch_lists.specs.Coordinates.{Role, others}
use Rattle.moved_hatch.specs.Moving.{moved_one, moved, patterns}

module _ {A : Type 0} (difference : A → A → A) (x₀ y₀ : A) where
  pub moved_length : (rs : List Role) (l : List A) → length (moved difference x₀ y₀ rs l) ≡ length l
  moved_length [] l = refl
  moved_length (r ∷ rs) [] = refl
  moved_length (r ∷ rs) (a ∷ l) = ap suc (moved_length rs l)

  -- one part behind another: a role for each entry of the first
  pub moved_append : (rs ss : List Role) (l m : List A) → length rs ≡ length l
      → moved difference x₀ y₀ (rs ++ ss) (l ++ m) ≡ moved difference x₀ y₀ rs l ++ moved difference x₀ y₀ ss m
  moved_append [] ss [] m e = refl
  moved_append [] ss (a ∷ l) m e = absurd (omega arith)
  moved_append (r ∷ rs) ss [] m e = absurd (omega arith)
  moved_append (r ∷ rs) ss (a ∷ l) m e = ap (λ k. moved_one difference x₀ y₀ r a ∷ k) (moved_append rs ss l m (omega arith))

  -- what is no coordinate stays
  pub moved_others : (n : ℕ) (l : List A) → moved difference x₀ y₀ (others n) l ≡ l
  moved_others zero l = refl
  moved_others (suc n) [] = refl
  moved_others (suc n) (a ∷ l) = ap (λ k. a ∷ k) (moved_others n l)

  pub moved_take : (n : ℕ) (rs : List Role) (l : List A) → take n (moved difference x₀ y₀ rs l) ≡ moved difference x₀ y₀ rs (take n l)
  moved_take zero [] l = refl
  moved_take zero (r ∷ rs) l = refl
  moved_take (suc n) [] l = refl
  moved_take (suc n) (r ∷ rs) [] = refl
  moved_take (suc n) (r ∷ rs) (a ∷ l) = ap (λ k. moved_one difference x₀ y₀ r a ∷ k) (moved_take n rs l)

  -- past the roles every entry stays
  pub moved_past : (n : ℕ) (rs : List Role) (l : List A) → length rs ≤ n → drop n (moved difference x₀ y₀ rs l) ≡ drop n l
  moved_past n [] l h = refl
  moved_past zero (r ∷ rs) l h = absurd (omega arith)
  moved_past (suc n) (r ∷ rs) [] h = refl
  moved_past (suc n) (r ∷ rs) (a ∷ l) h = moved_past n rs l (omega arith)

pub patterns_length : {A : Type 0} (f : A → ℕ) (l : List A) → length (patterns f l) ≡ length l
patterns_length f [] = refl
patterns_length f (a ∷ l) = ap suc (patterns_length f l)

pub same_patterns : (l : List ℕ) → patterns (λ n. n) l ≡ l
same_patterns [] = refl
same_patterns (n ∷ l) = ap (λ k. n ∷ k) (same_patterns l)
