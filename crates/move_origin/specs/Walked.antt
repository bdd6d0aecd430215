-- The walk over whole lists, which numbers its items and the seed points have for coordinates, and what is tested before them. Assumes nothing.
use Rattle.std.specs.Prelude.{◌≡◌, Bool, true, false, List, [], ◌++◌, ℕ, ◌≤◌, Result, Ok, Err}
use Rattle.hatch_lists.specs.declared.HatchCounts.{HatchCounts}
use Rattle.hatch_lists.specs.declared.Item.{Item}
use Rattle.hatch_lists.specs.Items.{gathered, points_item}
use Rattle.hatch_lists.specs.Coordinates.{Role, item_roles}
use Rattle.hatch_lists.specs.Steps.{Step as Walked, next, broken}
use Rattle.hatch_lists.specs.Walks.{Left, finish}
use Rattle.whole_lists.specs.declared.Place.{Place}
use Rattle.whole_lists.specs.Stepped.{walk_at}
use Rattle.whole_lists.specs.Ended.{start_of}
use Rattle.moved_hatch.specs.declared.MoveRefusal.{MoveRefusal}
use Rattle.moved_hatch.specs.declared.MoveRefusal.TheVariants.{OtherPlane, CoordinateOutOfRange}

-- the words used of whole lists: the walk from their start comes to the seed points, which are the last of the numbers used
pub record Walks (c : HatchCounts) (ws : List ℕ) (numbers : ℕ) : Type 0 where
  pub room : c.numbers_used ≤ numbers
  pub few : c.num_seed_points ≤ 1_024
  pub items : List Item
  pub left : Left
  pub ends : walk_at (finish c.num_seed_points) ws c.numbers_used (start_of c) ≡ next items left

-- the roles of all numbers from a place on
abbrev pub roles_in : ℕ → Walked Left (List Item) → List Role
roles_in seeds (next items left) = gathered item_roles items ++ item_roles (points_item seeds)
roles_in seeds broken = []

abbrev pub roles_at : List ℕ → ℕ → Place → ℕ → List Role
roles_at ws used p seeds = roles_in seeds (walk_at (finish seeds) ws used p)

abbrev pub roles_of : HatchCounts → List ℕ → List Role
roles_of c ws = roles_at ws c.numbers_used (start_of c) c.num_seed_points

-- by whether its extrusion is upright, and the origin in range: whether a hatch may be moved, before its coordinates are looked at
abbrev pub may_move : Bool → Bool → Result (Unit {0}) MoveRefusal
may_move false origin = Err OtherPlane
may_move true false = Err CoordinateOutOfRange
may_move true true = Ok tt
