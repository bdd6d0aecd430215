-- The coordinates of an item are those of its points and of its fit points; the numbers before and behind them are none. Assumes nothing.
use mathlib.Core.Path.{◌≡◌, sym, ap, ap₂, subst, ◌∙◌}
use mathlib.Core.Bool.{Bool, true, false, ◌&&◌, and-true, and-eq-true_iff}
use mathlib.Core.List.{List, ◌++◌}
use Prim.Native.Nat.{ℕ, ◌+◌, ◌*◌, ◌≤◌}
use native.Mathlib.Omega.{arith}
use lib.ListN.{length, drop, length-replicate}
use Rattle.hatch_lists.specs.declared.Item.{Item}
use Rattle.hatch_lists.specs.Coordinates.{Role, other, others, point_run, item_roles}
use Rattle.hatch_lists.proofs.CoordinateLaws.{run_long}
use Rattle.moved_hatch.specs.Moving.{all_in_range}
use Rattle.moved_hatch.specs.Parts.{moved_from, in_range_from, Movable}
use Rattle.point_runs.proofs.PartLaws.{others_in_range, in_range_behind, others_from, moved_from_length, moved_behind, stays_behind}

-- ---- what a call answered, from the test of it
pub refused : (b : Bool) {c : Bool} → b ≡ false → b ≡ c → c ≡ false
refused b e f = sym f ∙ e

pub passed : (b : Bool) {c : Bool} → b ≡ true → b ≡ c → c ≡ true
passed b e f = sym f ∙ e

module _ (i : Item) (from : ℕ) where
  -- where its points begin, and where its fit points do
  abbrev points_at : ℕ
  points_at = from + i.before

  abbrev pub fits_at : ℕ
  fits_at = points_at + i.points * i.stride

  abbrev points : List Role
  points = point_run i.stride i.points

  abbrev pub fits : List Role
  fits = point_run 2 i.fit_points

  module _ {A : Type 0} (in_range : A → Bool) (two : 2 ≤ i.stride) (l : List A) where
    pub item_in_range : in_range_from in_range from (item_roles i) l ≡ in_range_from in_range points_at points l && in_range_from in_range fits_at fits l
    item_in_range =
        let behind = others i.behind in
        in_range_behind in_range from (others i.before) (points ++ (fits ++ behind)) l
        ∙ ap₂ (λ b n. b && in_range_from in_range (from + n) (points ++ (fits ++ behind)) l)
        (others_in_range in_range i.before _) (length-replicate i.before other)
        ∙ in_range_behind in_range points_at points (fits ++ behind) l
        ∙ ap (λ n. in_range_from in_range points_at points l && in_range_from in_range (points_at + n) (fits ++ behind) l) (run_long i.stride i.points two)
        ∙ ap (λ b. in_range_from in_range points_at points l && b) last
      where
        last : in_range_from in_range fits_at (fits ++ others i.behind) l ≡ in_range_from in_range fits_at fits l
        last =
            in_range_behind in_range fits_at fits (others i.behind) l
            ∙ ap (λ b. in_range_from in_range fits_at fits l && b) (others_in_range in_range i.behind _) ∙ and-true (in_range_from in_range fits_at fits l)

    -- the answer for the points, and what it was found to be
    module _ (b : Bool) (judged : b ≡ in_range_from in_range points_at points l) where
      pub points_beyond : b ≡ false → in_range_from in_range from (item_roles i) l ≡ false
      points_beyond t = item_in_range ∙ ap (λ c. c && in_range_from in_range fits_at fits l) (refused b t judged)

      pub fits_decide : b ≡ true → in_range_from in_range from (item_roles i) l ≡ in_range_from in_range fits_at fits l
      fits_decide t = item_in_range ∙ ap (λ c. c && in_range_from in_range fits_at fits l) (passed b t judged)

  module _ {A : Type 0} (difference : A → A → A) (x₀ y₀ : A) (two : 2 ≤ i.stride) (l : List A) (room : fits_at ≤ length l) where
    item_moved : moved_from difference x₀ y₀ from (item_roles i) l
        ≡ moved_from difference x₀ y₀ fits_at fits (moved_from difference x₀ y₀ points_at points l)
    item_moved =
        let behind = others i.behind in
        let first = moved_from difference x₀ y₀ points_at points l in
        let long = moved_from_length difference x₀ y₀ points_at points l in
        moved_behind difference x₀ y₀ from (others i.before) (points ++ (fits ++ behind)) l (omega arith)
        ∙ ap₂ (λ n m. moved_from difference x₀ y₀ (from + n) (points ++ (fits ++ behind)) m)
        (length-replicate i.before other) (others_from difference x₀ y₀ from i.before l)
        ∙ moved_behind difference x₀ y₀ points_at points (fits ++ behind) l (omega arith)
        ∙ ap (λ n. moved_from difference x₀ y₀ (points_at + n) (fits ++ behind) first) (run_long i.stride i.points two)
        ∙ moved_behind difference x₀ y₀ fits_at fits behind first (omega (arith, long))
        ∙ others_from difference x₀ y₀ (fits_at + length fits) i.behind (moved_from difference x₀ y₀ fits_at fits first)

    pub both_moved : {l₁ l₂ : List A} → l₁ ≡ moved_from difference x₀ y₀ points_at points l → l₂ ≡ moved_from difference x₀ y₀ fits_at fits l₁
        → l₂ ≡ moved_from difference x₀ y₀ from (item_roles i) l
    both_moved e f = f ∙ ap (moved_from difference x₀ y₀ fits_at fits) e ∙ sym item_moved

    -- where the item may be moved, so may its points, and then its fit points, which its points leave as they were
    module _ {in_range : A → Bool} (may : Movable in_range x₀ y₀ from (item_roles i) l) where
      two_in_range : (in_range_from in_range points_at points l ≡ true) × (in_range_from in_range fits_at fits l ≡ true)
      two_in_range =
          (and-eq-true_iff (in_range_from in_range points_at points l) (in_range_from in_range fits_at fits l)).0
          (sym (item_in_range in_range two l) ∙ may.coordinates)

      pub points_movable : Movable in_range x₀ y₀ points_at points l
      points_movable = record { origin = may.origin; coordinates = two_in_range.0 }

      pub fits_movable : {l₁ : List A} → l₁ ≡ moved_from difference x₀ y₀ points_at points l → Movable in_range x₀ y₀ fits_at fits l₁
      fits_movable {l₁} e =
          let at = run_long i.stride i.points two in
          let same : drop fits_at l₁ ≡ drop fits_at l = ap (drop fits_at) e
          ∙ subst (λ n. drop (points_at + n) (moved_from difference x₀ y₀ points_at points l) ≡ drop (points_at + n) l) at
          (stays_behind difference x₀ y₀ points_at points l (omega arith)) in
          record { origin = may.origin; coordinates = ap (all_in_range in_range fits) same ∙ two_in_range.1 }
