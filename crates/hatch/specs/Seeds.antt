-- The seed points are the last numbers that a call used. Assumes nothing.
use Rattle.std.specs.Prelude.{◌≡◌, refl, Bool, true, false, List, [], ◌∷◌, ◌++◌, ℕ, ◌-◌, ◌*◌, ◌≤◌, length, take, drop, leb, map}
use Rattle.std.proofs.Common.{sym, ap, ◌∙◌, append_assoc, arith, length-append, take_at, drop_at, le-leb}
use Rattle.std.proofs.lemmas.List.{map-append, map-id, length-map}
use Rattle.hatch_format.specs.Values.{Point, Rest}
use Rattle.hatch_format.specs.Entries.{every, point_numbers, path_numbers, line_numbers, numbers}

module _ {A : Type 0} where
  abbrev pub if_all : Bool → List A → List A
  if_all true l = l
  if_all false l = []

  -- the last 2 n of the first `used` entries, and none where there are not so many
  abbrev pub seeds_of : List A → ℕ → ℕ → List A
  seeds_of l used n = if_all (leb used (length l)) (if_all (leb (2 * n) used) (take (2 * n) (drop (used - 2 * n) l)))

  -- where the list begins with a front and those 2 n entries, and `used` ends there, they are the part
  pub seeds_last : (front seeds behind : List A) (n used : ℕ) → length seeds ≡ 2 * n → used ≡ length (front ++ seeds)
      → seeds_of ((front ++ seeds) ++ behind) used n ≡ seeds
  seeds_last front seeds behind n used h e =
      let l = length-append front seeds in
      let m = length-append (front ++ seeds) behind in
      let fits : used ≤ length ((front ++ seeds) ++ behind) = omega (arith, e, m) in
      let many : 2 * n ≤ used = omega (arith, e, h, l) in
      let from : length front ≡ used - 2 * n = omega (arith, e, h, l) in
      rw (le-leb used (length ((front ++ seeds) ++ behind)) fits, le-leb (2 * n) used many)
      (ap (λ (k : List A). take (2 * n) (drop (used - 2 * n) k)) (append_assoc front seeds behind)
      ∙ ap (take (2 * n)) (drop_at front (seeds ++ behind) (used - 2 * n) from) ∙ take_at seeds behind (2 * n) h)

-- a list that begins with a body's numbers hands back its seed points
points_length : (points : List Point) → length (every point_numbers points) ≡ 2 * length points
points_length [] = refl
points_length (a ∷ points) = let h = points_length points in omega (arith, h)

-- `of` is how a number stands in the list: as its 64 bits, or as the double
pub seeds_handed : {N : Type 0} (of : ℕ → N) (a : Rest) (behind : List N)
    → seeds_of (map of (numbers a) ++ behind) (length (numbers a)) (length a.tail.ending.seed_points)
    ≡ map of (every point_numbers a.tail.ending.seed_points)
seeds_handed of a behind =
    let front = every path_numbers a.paths ++ every line_numbers a.tail.pattern.lines in
    let seeds = every point_numbers a.tail.ending.seed_points in
    let n = length a.tail.ending.seed_points in
    let e : front ++ seeds ≡ numbers a = append_assoc (every path_numbers a.paths) (every line_numbers a.tail.pattern.lines) seeds in
    let i : map of (numbers a) ≡ map of front ++ map of seeds = ap (map of) (sym e) ∙ map-append of front seeds in
    let used : length (numbers a) ≡ length (map of front ++ map of seeds) = sym (length-map (numbers a) of) ∙ ap length i in
    ap (λ (l : List _). seeds_of (l ++ behind) (length (numbers a)) n) i
    ∙ seeds_last (map of front) (map of seeds) behind n (length (numbers a)) (length-map seeds of ∙ points_length a.tail.ending.seed_points) used

pub seeds_handed_bits : (a : Rest) (behind : List ℕ)
    → seeds_of (numbers a ++ behind) (length (numbers a)) (length a.tail.ending.seed_points) ≡ every point_numbers a.tail.ending.seed_points
seeds_handed_bits a behind =
    ap (λ (l : List ℕ). seeds_of (l ++ behind) (length (numbers a)) (length a.tail.ending.seed_points)) (sym (map-id (numbers a)))
    ∙ seeds_handed (λ n. n) a behind ∙ map-id (every point_numbers a.tail.ending.seed_points)
