-- It is filled only where the measured lengths fit, and then what was measured is what is read again. No answer names the walk that measures:
-- one that wrote would be refused where the lists must be as they were (must-fail/written_too_early.edit).
use mathlib.Core.Path.{refl, sym, ◌∙◌}
use Rattle.hatch_format.specs.HandleRule.{in_payload}
use Rattle.hatch_format.specs.Patterns.{rest}
use borrow.Author.Rules.{rules}
use Rattle.hatch_body.proofs.BodyLaws.{rest_got, rest_short, rest_full, rest_refused}
use Rattle.hatch_body.proofs.fill_rest.Goals as goal

pub returns-then-not-long_enough : goal.returns-then-not-long_enough
returns-then-not-long_enough g c =
    let a = c.args in
    let o = (rest a.rules.caps in_payload a.rules.version).read a.main.now a.p.main in
    rw c.refuse.ensures
    (rest_short a.front a.room.words a.room.numbers a.p o g.N.Number.of_bits (rest_got a.p o (search rules) c.in_ok-rest.ensures)
    (sym c.long_enough.ensures ∙ search rules) refl)

pub returns : goal.returns
returns g c =
    let a = c.args in
    let o = (rest a.rules.caps in_payload a.rules.version).read a.main.now a.p.main in
    rest_full a.front a.room.words a.room.numbers a.p o g.N.Number.of_bits (rest_got a.p o (search rules) c.in_ok-rest.ensures) _ _
    (sym c.long_enough.ensures ∙ search rules) c.fill_lists.ensures

pub returns-in_err-rest : goal.returns-in_err-rest
returns-in_err-rest g c =
    let a = c.args in
    let o = (rest a.rules.caps in_payload a.rules.version).read a.main.now a.p.main in
    rest_refused a.front a.room.words a.room.numbers a.p o g.N.Number.of_bits _ _ _ c.from_residual.ensures (search rules) c.in_err-rest.ensures refl
