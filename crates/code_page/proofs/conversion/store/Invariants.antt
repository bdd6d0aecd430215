use Rattle.code_page.proofs.PassLaws.{Laid, entries}
use Rattle.code_page.proofs.conversion.store.Given as goal

abbrev pub invariant-loop-i : goal.invariant-loop-i
invariant-loop-i g l = Laid (entries g.T.Character.mapped l.input) l.initial.output l.i l.output
