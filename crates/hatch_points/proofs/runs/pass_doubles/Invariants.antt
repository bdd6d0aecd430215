use mathlib.Core.List.{[]}
use Rattle.hatch_points.specs.Walks.{single_walk}
use Rattle.hatch_points.specs.Lists.{lists, with_numbers}
use Rattle.hatch_points.proofs.Loops.{Along}
use Rattle.hatch_points.proofs.runs.pass_doubles.Given as goal

abbrev pub invariant-loop : goal.invariant-loop
invariant-loop l =
    Along (λ n. n) single_walk l.s l.n l.at (lists [] []) l.used l.counter l.p (lists [] []) (with_numbers l.used l.counter)
