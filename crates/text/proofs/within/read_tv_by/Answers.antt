-- The length code comes first, and the units behind it.
use mathlib.Core.Path.{sym, ap, ◌∙◌}
use mathlib.Core.Bool.{Bool}
use Rattle.bitcursor.proofs.Steps.{left}
use Rattle.text.specs.declared.Source.TheVariants.{Main}
use Rattle.text.specs.Texts.{narrow, wide, TV}
use Rattle.text.specs.Fields.{width_by}
use Rattle.text.specs.Answers.{placed}
use Rattle.text.specs.Steps.{inline_got, inline_refused}
use Rattle.text.proofs.TextLaws.{length_code}
use Rattle.text.proofs.within.read_tv_by.Goals as goal

pub wide_units-requires : goal.wide_units-requires
wide_units-requires c =
    let a = c.args in
    let code = length_code a.s.now a.at c.in_ok-n.ensures in
    code.small

pub returns-then-two_bytes : goal.returns-then-two_bytes
returns-then-two_bytes c =
    let a = c.args in
    let code = length_code a.s.now a.at c.in_ok-n.ensures in
    c.wide_units.ensures ∙ sym (ap (λ (t : Bool). placed Main (width_by t) a.at ((TV (width_by t)).read a.s.now a.at))
    c.if-two_bytes.true ∙ inline_got wide a.s.now a.at code.read code.on)

pub narrow_units-requires : goal.narrow_units-requires
narrow_units-requires c =
    let a = c.args in
    let code = length_code a.s.now a.at c.in_ok-n.ensures in
    code.small

pub returns : goal.returns
returns c =
    let a = c.args in
    let code = length_code a.s.now a.at c.in_ok-n.ensures in
    c.narrow_units.ensures ∙ sym (ap (λ (t : Bool). placed Main (width_by t) a.at ((TV (width_by t)).read a.s.now a.at))
    c.if-two_bytes.false ∙ inline_got narrow a.s.now a.at code.read code.on)

pub returns-in_err-n : goal.returns-in_err-n
returns-in_err-n c =
    let a = c.args in
    left _ c.from_residual.ensures ∙ sym (inline_refused (width_by a.two_bytes) a.s.now a.at (sym c.in_err-n.ensures))
