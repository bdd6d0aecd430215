-- Part of a list moved, or judged, from an index on: what the walk does item by item. Assumes nothing.
use Rattle.std.specs.Prelude.{◌≡◌, refl, Bool, true, ◌&&◌, List, [], ◌∷◌, ◌++◌, ℕ, take, drop}
use Rattle.std.proofs.Math.Bool.{and-eq-true_iff}
use Rattle.hatch_lists.specs.Coordinates.{Role, x, y, other}
use Rattle.moved_hatch.specs.Moving.{moved, one_in_range, all_in_range}

-- the entries from an index on are moved by their roles; those before it stay
abbrev pub moved_from : {A : Type 0} → (A → A → A) → A → A → ℕ → List Role → List A → List A
moved_from difference x₀ y₀ from rs l = take from l ++ moved difference x₀ y₀ rs (drop from l)

-- whether the coordinates from an index on are in range
abbrev pub in_range_from : {A : Type 0} → (A → Bool) → ℕ → List Role → List A → Bool
in_range_from in_range from rs l = all_in_range in_range rs (drop from l)

-- the origin and the coordinates from an index on are in range: what the tests found before anything is moved. Or the same of what may be subtracted
pub record Movable {A : Type 0} (in_range : A → Bool) (x₀ y₀ : A) (from : ℕ) (rs : List Role) (l : List A) : Type 0 where
  pub origin : in_range x₀ && in_range y₀ ≡ true
  pub coordinates : in_range_from in_range from rs l ≡ true

-- where every entry may be subtracted, as every double may, nothing is asked
pub always_movable : {A : Type 0} (x₀ y₀ : A) (from : ℕ) (rs : List Role) (l : List A) → Movable (λ a. true) x₀ y₀ from rs l
always_movable {A} x₀ y₀ from rs l = record { origin = refl; coordinates = all rs (drop from l) }
  where
    one : (r : Role) (a : A) → one_in_range (λ a. true) r a ≡ true
    one x a = refl
    one y a = refl
    one other a = refl

    all : (rs : List Role) (l : List A) → all_in_range (λ a. true) rs l ≡ true
    all [] l = refl
    all (r ∷ rs) [] = refl
    all (r ∷ rs) (a ∷ l) = rw (one r a) (all rs l)

-- what is in range may be subtracted: then so may what was found to be in range
module _ {A : Type 0} {within may : A → Bool} (lets : (a : A) → within a ≡ true → may a ≡ true) where
  all_may : (rs : List Role) (l : List A) → all_in_range within rs l ≡ true → all_in_range may rs l ≡ true
  all_may [] l e = refl
  all_may (r ∷ rs) [] e = refl
  all_may (r ∷ rs) (a ∷ l) e =
      let k = (and-eq-true_iff (one_in_range within r a) (all_in_range within rs l)).0 e in
      (and-eq-true_iff (one_in_range may r a) (all_in_range may rs l)).1 (one r k.0, all_may rs l k.1)
    where
      one : (r : Role) → one_in_range within r a ≡ true → one_in_range may r a ≡ true
      one x e = lets a e
      one y e = lets a e
      one other e = refl

  pub movable_within : {x₀ y₀ : A} {from : ℕ} {rs : List Role} {l : List A} → Movable within x₀ y₀ from rs l → Movable may x₀ y₀ from rs l
  movable_within {x₀} {y₀} {from} {rs} {l} h =
      let k = (and-eq-true_iff (within x₀) (within y₀)).0 h.origin in
      record {
        origin = (and-eq-true_iff (may x₀) (may y₀)).1 (lets x₀ k.0, lets y₀ k.1);
        coordinates = all_may rs (drop from l) h.coordinates;
      }
