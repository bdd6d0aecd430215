-- Empty lists stay as they are whatever is laid over them; others are walked.
use mathlib.Core.Path.{sym, ◌∙◌}
use Rattle.hatch_format.specs.HandleRule.{in_payload}
use Rattle.hatch_format.specs.Patterns.{rest}
use Rattle.hatch_body.proofs.BodyLaws.{none_laid}
use Rattle.hatch_body.proofs.fill_lists.Goals as goal

pub returns-then-none_lent : goal.returns-then-none_lent
returns-then-none_lent g c =
    let a = c.args in
    none_laid g.N.Number.of_bits ((rest a.rules.caps in_payload a.rules.version).read a.s.now a.at) a.numbers.now a.words.now
    (sym c.none_lent.ensures ∙ c.if-none_lent.true)
