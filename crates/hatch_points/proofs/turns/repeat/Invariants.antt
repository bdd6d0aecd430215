use Rattle.hatch_points.specs.Lent.{lent, SameLists}
use Rattle.hatch_points.proofs.Loops.{Along}
use Rattle.hatch_points.proofs.turns.repeat.Given as goal

abbrev pub invariant-loop : goal.invariant-loop
invariant-loop g l =
    Along g.N.Number.of_bits (g.T.Turn.walk l.turn) l.s l.n l.at (lent l.initial.lent) l.initial.used l.counter l.p
    (lent l.lent) l.used
    × SameLists l.initial.lent l.lent
