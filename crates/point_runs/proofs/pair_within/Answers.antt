-- A run of two points is the one and then the other.
use mathlib.Core.Path.{sym, ap₂, ◌∙◌}
use mathlib.Core.Bool.{◌&&◌}
use Rattle.point_runs.proofs.PointLaws.{run_two}
use Rattle.point_runs.proofs.pair_within.Goals as goal

pub returns : goal.returns
returns g c =
    let a = c.args in
    c.and.ensures ∙ ap₂ (λ b d. b && d) c.point_within.ensures c.point_within-2.ensures
    ∙ sym (run_two g.C.Coordinate.within a.stride.numbers a.stride.two a.numbers.now a.at)
