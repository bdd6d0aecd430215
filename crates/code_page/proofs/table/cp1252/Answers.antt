-- The constant is the definition's table, entry by entry.
use Rattle.std.specs.Prelude.{refl}
use Rattle.code_page.specs.Cp1252.{cp1252}
use Rattle.code_page.proofs.table.cp1252.Goals as goal

pub invariant_of-result : goal.invariant_of-result
unfolding cp1252
invariant_of-result c = record { is_cp1252 = refl }
