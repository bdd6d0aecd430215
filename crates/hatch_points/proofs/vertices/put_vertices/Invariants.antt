use mathlib.Core.List.{[]}
use Prim.Native.Nat.{◌*◌}
use Rattle.hatch_points.specs.Walks.{vertex_walk}
use Rattle.hatch_points.specs.Lists.{lists, with_numbers}
use Rattle.hatch_points.proofs.Loops.{Along}
use Rattle.hatch_points.proofs.vertices.put_vertices.Given as goal

abbrev pub invariant-loop-i : goal.invariant-loop-i
invariant-loop-i g l =
    Along g.N.Number.of_bits vertex_walk l.s l.n l.at (lists l.initial.numbers []) l.used l.i l.p (lists l.numbers []) (with_numbers l.used (3 * l.i))
