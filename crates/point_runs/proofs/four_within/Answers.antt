-- Two points and the two behind them.
use mathlib.Core.Path.{sym, ap₂, ◌∙◌}
use mathlib.Core.Bool.{◌&&◌}
use Rattle.point_runs.proofs.PointLaws.{run_then}
use Rattle.point_runs.proofs.four_within.Goals as goal

pub returns : goal.returns
returns g c =
    let a = c.args in
    c.and.ensures ∙ ap₂ (λ b d. b && d) c.pair_within-first.ensures c.pair_within-second.ensures
    ∙ sym (run_then g.C.Coordinate.within a.stride.numbers a.stride.two a.numbers.now a.at 2 2)
