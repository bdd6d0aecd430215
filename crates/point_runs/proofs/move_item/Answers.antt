-- An item is moved where its points are, and then its fit points, which may be subtracted from still.
use native.Mathlib.Omega.{arith}
use Rattle.point_runs.proofs.ItemLaws.{both_moved, points_movable, fits_movable}
use borrow.Author.Rules.{rules}
use Rattle.point_runs.proofs.move_item.Goals as goal

pub move_points-requires : goal.move_points-requires
move_points-requires g c =
    let a = c.args in (
      omega arith,
      points_movable a.i a.from g.C.Coordinate.minus a.x a.y c.requires.0.from_two a.numbers.now (omega arith) c.requires.2,
    )

pub move_points-requires-2 : goal.move_points-requires-2
move_points-requires-2 g c =
    let a = c.args in (
      search rules,
      fits_movable a.i a.from g.C.Coordinate.minus a.x a.y c.requires.0.from_two a.numbers.now (omega arith) c.requires.2 c.move_points.ensures,
    )

pub returns : goal.returns
returns g c =
    let a = c.args in
    both_moved a.i a.from g.C.Coordinate.minus a.x a.y c.requires.0.from_two a.numbers.now (omega arith)
    c.move_points.ensures c.move_points-2.ensures
