-- The seed points of a list that holds a body's numbers in any way that keeps their order and their count. Assumes nothing.
use Rattle.std.specs.Prelude.{◌≡◌, refl, List, [], ◌∷◌, ◌++◌, ℕ, ◌*◌, length}
use Rattle.std.proofs.Common.{sym, ap, ◌∙◌, append_assoc, arith}
use Rattle.hatch_format.specs.Values.{Point, Rest}
use Rattle.hatch_format.specs.Entries.{every, point_numbers, path_numbers, line_numbers, numbers}
use Rattle.hatch.specs.Seeds.{seeds_of, seeds_last}

points_length : (points : List Point) → length (every point_numbers points) ≡ 2 * length points
points_length [] = refl
points_length (a ∷ points) = let h = points_length points in omega (arith, h)

-- `listed` is how the numbers stand in the list: as their 64 bits, or as doubles
module _ {A : Type 0} (listed : List ℕ → List A) (joins : (xs ys : List ℕ) → listed (xs ++ ys) ≡ listed xs ++ listed ys)
    (keeps : (xs : List ℕ) → length (listed xs) ≡ length xs) where
  pub seeds_listed : (a : Rest) (behind : List A)
      → seeds_of (listed (numbers a) ++ behind) (length (numbers a)) (length a.tail.ending.seed_points)
      ≡ listed (every point_numbers a.tail.ending.seed_points)
  seeds_listed a behind =
      let front = every path_numbers a.paths ++ every line_numbers a.tail.pattern.lines in
      let seeds = every point_numbers a.tail.ending.seed_points in
      let n = length a.tail.ending.seed_points in
      let e : front ++ seeds ≡ numbers a = append_assoc (every path_numbers a.paths) (every line_numbers a.tail.pattern.lines) seeds in
      let i : listed (numbers a) ≡ listed front ++ listed seeds = ap listed (sym e) ∙ joins front seeds in
      let used : length (numbers a) ≡ length (listed front ++ listed seeds) = sym (keeps (numbers a)) ∙ ap length i in
      ap (λ (l : List A). seeds_of (l ++ behind) (length (numbers a)) n) i
      ∙ seeds_last (listed front) (listed seeds) behind n (length (numbers a)) (keeps seeds ∙ points_length a.tail.ending.seed_points) used
