-- The x and the y, each by its own test.
use mathlib.Core.Path.{sym, ap₂, ◌∙◌}
use mathlib.Core.Bool.{◌&&◌}
use native.Mathlib.Omega.{arith}
use Rattle.point_runs.proofs.PointLaws.{run_one}
use Rattle.point_runs.proofs.point_within.Goals as goal

pub returns : goal.returns
returns g c =
    let a = c.args in
    c.and.ensures ∙ ap₂ (λ b d. b && d) c.within.ensures c.within-2.ensures
    ∙ sym (run_one g.C.Coordinate.within a.stride.numbers a.stride.two a.numbers.now
    (record { there = omega arith; is_x = c.index-numbers-at.is; is_y = c.index-numbers-at-2.is }))
