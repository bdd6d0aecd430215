-- What is left to read, behind the points that were passed, is what the whole reads; no list is lent.
use mathlib.Core.Path.{refl, ap, ◌∙◌}
use Prim.Native.Nat.{◌*◌}
use native.Mathlib.Omega.{arith}
use Rattle.hatch_points.specs.Lists.{with_numbers}
use Rattle.hatch_points.specs.Vertices.{vertex_at}
use Rattle.hatch_points.proofs.Laws.{numbers_again, kept_same, leaves}
use Rattle.hatch_points.proofs.Loops.{start_numbers, next, loop_refuses, loop_ends_as}
use Rattle.hatch_points.proofs.vertices.pass_vertices.Goals as goal

pub loop-init : goal.loop-init
loop-init c = start_numbers c.requires

pub loop-preserved : goal.loop-preserved
loop-preserved c =
    let l = c.loop in
    let t = c.in_ok-q.ensures in
    let v = vertex_at c.args.s.now l.p c.in_ok-q.field-0-0 in
    let h = l.invariant.ready in
    next l.invariant _ c.loop-test.true t.read
    (record { lists = refl; sizes = numbers_again c.args.used (3 * l.counter) v (omega arith) })
    (h.0, (t.inside, (omega (arith, t.onward, h.1.1.0), omega (arith, t.onward, h.1.1.1))))

pub returns-in_err-q : goal.returns-in_err-q
returns-in_err-q c = leaves _ c.from_residual.ensures (loop_refuses c.loop.invariant c.loop-test.true c.in_err-q.ensures kept_same)

pub returns : goal.returns
returns c = loop_ends_as c.loop.invariant (c.with_numbers.ensures ∙ ap (with_numbers c.args.used) (omega arith)) c.loop-test.false
