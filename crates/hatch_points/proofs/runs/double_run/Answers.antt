-- The first numbers are stored, as many as there is room for; the others are passed, and stores past the list's end change nothing.
use mathlib.Core.Path.{sym}
use Prim.Native.Nat.{◌-◌}
use native.Mathlib.Omega.{arith}
use Rattle.hatch_points.specs.Walks.{single_walk}
use Rattle.hatch_points.specs.Gathers.{double_repeated}
use Rattle.hatch_points.proofs.Laws.{leaves, walks_as}
use Rattle.hatch_points.proofs.Loops.{parts_walk, parts_refuse, past_room, used_after, many_1, single_long}
use Rattle.hatch_points.proofs.runs.double_run.Goals as goal

pub returns : goal.returns
returns g c =
    let a = c.args in
    let s = a.s.now in
    let m = c.stores-m.result in
    let room = c.stores-m.ensures in
    let put = c.in_ok-used.ensures in
    let u = used_after single_walk s 1 (single_long s) m a.at put in
    walks_as
    (parts_walk single_walk a.n m a.at (omega (arith, room)) put
    (past_room single_walk s (a.n - m) _ _
    (λ h. omega (arith, u, many_1 m, room, h, c.put_doubles.auto.numbers)) c.pass_doubles.ensures))
    (sym (double_repeated s a.n a.at))

pub returns-in_err-used : goal.returns-in_err-used
returns-in_err-used g c =
    let a = c.args in
    let s = a.s.now in
    let m = c.stores-m.result in
    leaves _ c.from_residual.ensures
    (walks_as (parts_refuse single_walk a.n m a.at (omega (arith, c.stores-m.ensures)) c.in_err-used.ensures) (sym (double_repeated s a.n a.at)))
