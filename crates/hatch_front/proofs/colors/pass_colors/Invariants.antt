use Rattle.hatch_front.proofs.ColorLaws.{ReadTo}
use Rattle.hatch_front.proofs.colors.pass_colors.Given as goal

abbrev pub invariant-loop : goal.invariant-loop
invariant-loop l = ReadTo l.s l.at l.counter l.p
