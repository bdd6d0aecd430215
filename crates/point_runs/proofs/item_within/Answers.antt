-- An item's coordinates are in range where those of its points are, and those of its fit points.
use mathlib.Core.Path.{sym, ap, ap₂, ◌∙◌}
use mathlib.Core.Bool.{◌&&◌}
use Rattle.moved_hatch.specs.Parts.{in_range_from}
use Rattle.point_runs.proofs.ItemLaws.{fits_at, fits, item_in_range}
use Rattle.point_runs.proofs.item_within.Goals as goal

pub returns-then-points_within : goal.returns-then-points_within
returns-then-points_within g c =
    let a = c.args in
    sym (item_in_range a.i a.from g.C.Coordinate.within c.requires.0.from_two a.numbers.now
    ∙ ap₂ (λ b d. b && d) (sym c.points_within.ensures ∙ c.if-points_within.true) (sym c.points_within-then-points_within.ensures))

pub returns-else-points_within : goal.returns-else-points_within
returns-else-points_within g c =
    let a = c.args in
    sym (item_in_range a.i a.from g.C.Coordinate.within c.requires.0.from_two a.numbers.now
    ∙ ap (λ b. b && in_range_from g.C.Coordinate.within (fits_at a.i a.from) (fits a.i a.from) a.numbers.now)
    (sym c.points_within.ensures ∙ c.if-points_within.false) ∙ sym c.if-points_within.false)
