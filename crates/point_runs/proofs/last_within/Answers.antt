-- None, or one, or two, or two and then one.
use mathlib.Core.Path.{◌≡◌, sym, ap, ap₂, ◌∙◌}
use mathlib.Core.Bool.{◌&&◌}
use native.Mathlib.Omega.{arith}
use Rattle.hatch_lists.specs.Coordinates.{point_run}
use Rattle.moved_hatch.specs.Parts.{in_range_from}
use Rattle.point_runs.proofs.PointLaws.{run_then}
use Rattle.point_runs.proofs.last_within.Goals as goal

pub returns : goal.returns
returns g c =
    let a = c.args in
    let within = g.C.Coordinate.within in
    let three : 3 ≡ a.n = omega arith in
    c.and.ensures ∙ ap₂ (λ b d. b && d) c.pair_within-first.ensures c.point_within-2.ensures
    ∙ sym (run_then within a.stride.numbers a.stride.two a.numbers.now a.at 2 1)
    ∙ ap (λ n. in_range_from within a.at (point_run a.stride.numbers n) a.numbers.now) three
