-- The two stores are the two roles of a point; both numbers may be subtracted from, and the origin's subtracted.
use native.Mathlib.Omega.{arith}
use Rattle.point_runs.proofs.PointLaws.{both_may, stored}
use Rattle.point_runs.proofs.move_point.Goals as goal

pub minus-requires : goal.minus-requires
minus-requires g c =
    let a = c.args in
    (both_may g.C.Coordinate.can_minus a.stride.numbers a.stride.two a.numbers.now
    (record { there = omega arith; is_x = c.index-numbers-at.is; is_y = c.index-numbers-at-2.is }) c.requires.1).0

pub minus-requires-2 : goal.minus-requires-2
minus-requires-2 g c =
    let a = c.args in
    let may = both_may g.C.Coordinate.can_minus a.stride.numbers a.stride.two a.numbers.now
    (record { there = omega arith; is_x = c.index-numbers-at.is; is_y = c.index-numbers-at-2.is }) c.requires.1 in
    let of_x = may.0.1 in
    let of_y = may.1.1 in
    (may.1.0, cc)

pub returns : goal.returns
returns g c =
    let a = c.args in
    stored g.C.Coordinate.minus a.x a.y a.stride.numbers a.numbers.now
    (record { there = omega arith; is_x = c.index-numbers-at.is; is_y = c.index-numbers-at-2.is }) c.minus.ensures c.minus-2.ensures
