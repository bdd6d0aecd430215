use mathlib.Core.List.{[]}
use Prim.Native.Nat.{◌*◌}
use Rattle.hatch_points.specs.Walks.{vertex_walk}
use Rattle.hatch_points.specs.Lists.{lists, with_numbers}
use Rattle.hatch_points.proofs.Loops.{Along}
use Rattle.hatch_points.proofs.vertices.pass_vertices.Given as goal

abbrev pub invariant-loop : goal.invariant-loop
invariant-loop l =
    Along (λ n. n) vertex_walk l.s l.n l.at (lists [] []) l.used l.counter l.p (lists [] []) (with_numbers l.used (3 * l.counter))
