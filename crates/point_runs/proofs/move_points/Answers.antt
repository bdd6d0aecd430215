-- The first points are moved, one more with each turn; those ahead are as they were, and may be subtracted from.
use mathlib.Core.Path.{◌∙◌}
use Prim.Native.Nat.{◌+◌, ◌*◌, ◌≤◌}
use native.Mathlib.Omega.{arith}
use lib.ListN.{length}
use Rattle.point_runs.proofs.PointLaws.{fewer_there, next_there, next_moved, next_movable}
use Rattle.point_runs.proofs.move_points.Goals as goal

pub move_point-requires : goal.move_point-requires
move_point-requires g c =
    let a = c.args in
    let l = c.loop-i in
    let minus = g.C.Coordinate.minus in
    let more : l.i + 1 ≤ a.n = omega arith in
    let there = fewer_there a.stride.numbers a.from more in
    let room : a.from + (l.i + 1) * a.stride.numbers ≤ length a.numbers.now = omega (arith, there, c.requires.0) in (
      next_there minus a.x a.y a.stride.numbers a.stride.two a.numbers.now a.from l.i room l.invariant,
      next_movable minus a.x a.y a.stride.numbers a.stride.two a.numbers.now a.from l.i room l.invariant more c.requires.1,
    )

pub loop-i-preserved : goal.loop-i-preserved
loop-i-preserved g c =
    let a = c.args in
    let l = c.loop-i in
    let more : l.i + 1 ≤ a.n = omega arith in
    let there = fewer_there a.stride.numbers a.from more in
    let room : a.from + (l.i + 1) * a.stride.numbers ≤ length a.numbers.now = omega (arith, there, c.requires.0) in
    c.move_point.ensures ∙ next_moved g.C.Coordinate.minus a.x a.y a.stride.numbers a.stride.two a.numbers.now a.from l.i room l.invariant
