-- The first points are moved, one more with each turn; those ahead are as they were.
use mathlib.Core.Path.{◌≡◌}
use Rattle.hatch_lists.specs.Coordinates.{point_run}
use Rattle.moved_hatch.specs.Parts.{moved_from}
use Rattle.point_runs.proofs.move_points.Given as goal

abbrev pub invariant-loop-i : goal.invariant-loop-i
invariant-loop-i g l = l.numbers ≡ moved_from g.C.Coordinate.minus l.x l.y l.from (point_run l.stride.numbers l.i) l.initial.numbers
