-- The points so far are in range, four more with each turn; the last decide.
use mathlib.Core.Path.{◌≡◌}
use mathlib.Core.Bool.{true}
use Prim.Native.Nat.{◌*◌}
use Rattle.hatch_lists.specs.Coordinates.{point_run}
use Rattle.moved_hatch.specs.Parts.{in_range_from}
use Rattle.point_runs.proofs.points_within.Given as goal

abbrev pub invariant-loop-turn : goal.invariant-loop-turn
invariant-loop-turn g l = in_range_from g.C.Coordinate.within l.from (point_run l.stride.numbers (4 * l.turn)) l.numbers ≡ true
