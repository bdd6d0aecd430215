-- What is left to read, behind what is stored, is what the whole reads; each turn is lent the two lists that the loop is.
use mathlib.Core.Path.{refl, ◌∙◌}
use Rattle.hatch_points.proofs.Laws.{leaves}
use Rattle.hatch_points.proofs.Loops.{start, walk_next, walk_refuses, loop_ends}
use Rattle.hatch_points.proofs.turns.repeat.Goals as goal

pub loop-init : goal.loop-init
loop-init g c = (start c.requires, (refl, refl))

pub loop-preserved : goal.loop-preserved
loop-preserved g c =
    let h = c.loop.invariant in
    let k = c.in_ok-used.ensures in
    (walk_next h.0 c.loop-test.true k.walk, (k.same.0 ∙ h.1.0, k.same.1 ∙ h.1.1))

pub returns : goal.returns
returns g c =
    let h = c.loop.invariant in
    record { same = h.1; walk = loop_ends h.0 c.loop-test.false }

pub returns-in_err-used : goal.returns-in_err-used
returns-in_err-used g c =
    let h = c.loop.invariant in
    let k = c.in_err-used.ensures in
    record { same = (k.same.0 ∙ h.1.0, k.same.1 ∙ h.1.1); walk = leaves _ c.from_residual.ensures (walk_refuses h.0 c.loop-test.true k.walk) }
