use Rattle.code_page.proofs.SearchLaws.{Searched}
use Rattle.code_page.proofs.units.byte_80_to_9f.Given as goal

abbrev pub invariant-loop-byte : goal.invariant-loop-byte
invariant-loop-byte l = Searched l.table.units l.unit l.byte l.found
