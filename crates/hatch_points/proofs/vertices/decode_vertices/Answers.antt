-- The first points are stored, as far as there is room; the others are passed, and stores past the list's end change nothing.
use Prim.Native.Nat.{◌+◌, ◌-◌, ◌/◌}
use native.Mathlib.Omega.{arith}
use Rattle.hatch_points.specs.Walks.{vertex_walk}
use Rattle.hatch_points.proofs.Laws.{leaves}
use Rattle.hatch_points.proofs.Loops.{parts_walk, parts_refuse, past_room, used_after, many_3}
use Rattle.hatch_points.proofs.VertexLaws.{vertex_long}
use Rattle.hatch_points.proofs.vertices.decode_vertices.Goals as goal

pub returns : goal.returns
returns g c =
    let a = c.args in
    let s = a.s.now in
    let m = (c.stores.result + 2) / 3 in
    let room = c.stores.ensures in
    let put = c.in_ok-used.ensures in
    let u = used_after vertex_walk s 3 (vertex_long s) m a.at put in
    parts_walk vertex_walk a.n m a.at (omega (arith, room)) put
    (past_room vertex_walk s (a.n - m) _ _
    (λ h. omega (arith, u, many_3 m, room, h, c.put_vertices.auto.numbers)) c.pass_vertices.ensures)

pub returns-in_err-used : goal.returns-in_err-used
returns-in_err-used g c =
    let a = c.args in
    let m = (c.stores.result + 2) / 3 in
    leaves _ c.from_residual.ensures (parts_refuse vertex_walk a.n m a.at (omega (arith, c.stores.ensures)) c.in_err-used.ensures)
