use mathlib.Core.List.{[]}
use Rattle.hatch_points.specs.Walks.{single_walk}
use Rattle.hatch_points.specs.Lists.{lists, with_numbers}
use Rattle.hatch_points.proofs.Loops.{Along}
use Rattle.hatch_points.proofs.runs.put_doubles.Given as goal

abbrev pub invariant-loop-i : goal.invariant-loop-i
invariant-loop-i g l =
    Along g.N.Number.of_bits single_walk l.s l.n l.at (lists l.initial.numbers []) l.used l.i l.p (lists l.numbers []) (with_numbers l.used l.i)
