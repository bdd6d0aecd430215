-- What is left to read, behind what is stored, is what the whole reads; each turn reads and stores one vertex.
use mathlib.Core.Path.{ap, ◌∙◌}
use mathlib.Core.List.{[]}
use Prim.Native.Nat.{◌*◌}
use native.Mathlib.Omega.{arith}
use Rattle.hatch_points.specs.Gathered.{numbers}
use Rattle.hatch_points.specs.Lists.{lists, with_numbers}
use Rattle.hatch_points.specs.Vertices.{vertex_at}
use Rattle.hatch_points.proofs.Laws.{numbers_again, kept_same, leaves}
use Rattle.hatch_points.proofs.Loops.{start_numbers, next, loop_refuses, loop_ends_as}
use Rattle.hatch_points.proofs.vertices.put_vertices.Goals as goal

pub loop-i-init : goal.loop-i-init
loop-i-init g c = start_numbers c.requires

pub loop-i-preserved : goal.loop-i-preserved
loop-i-preserved g c =
    let s = c.args.s.now in
    let l = c.loop-i in
    let t = c.in_ok-extra.ensures in
    let v = vertex_at s l.p c.in_ok-extra.extra in
    let h = l.invariant.ready in
    next l.invariant (numbers v) c.loop-i-test.true t.read
    (record { lists = λ i. lists (c.put_vertex.ensures i) []; sizes = numbers_again c.args.used (3 * l.i) v (omega arith) })
    (h.0, (t.inside, (omega (arith, t.onward, h.1.1.0), omega (arith, t.onward, h.1.1.1))))

pub returns-in_err-extra : goal.returns-in_err-extra
returns-in_err-extra g c =
    leaves _ c.from_residual.ensures (loop_refuses c.loop-i.invariant c.loop-i-test.true c.in_err-extra.ensures kept_same)

pub returns : goal.returns
returns g c = loop_ends_as c.loop-i.invariant (c.with_numbers.ensures ∙ ap (with_numbers c.args.used) (omega arith)) c.loop-i-test.false
