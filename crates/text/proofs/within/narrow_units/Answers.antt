-- The units are passed by one comparison, and the last one says whether the text is padded and how many are left.
use native.Mathlib.Omega.{arith}
use mathlib.Core.Path.{refl, ◌∙◌}
use Rattle.bitcursor.proofs.Steps.{passed_there, passed_short, left}
use Rattle.text.specs.declared.Source.TheVariants.{Main}
use Rattle.text.specs.Texts.{narrow}
use Rattle.text.proofs.UnitLaws.{some_padded}
use Rattle.text.proofs.TextLaws.{units_found, units_cut}
use Rattle.text.proofs.within.narrow_units.Goals as goal

pub is_padded-padded-requires : goal.is_padded-padded-requires
is_padded-padded-requires c =
    let a = c.args in
    let t = passed_there a.s.now a.n a.at c.in_ok-p.ensures in
    omega arith

pub overflow_sub-count : goal.overflow_sub-count
overflow_sub-count c =
    let a = c.args in
    some_padded a.s.now a.at 1 a.n c.is_padded-padded.ensures

pub returns : goal.returns
returns c =
    let a = c.args in
    let t = passed_there a.s.now a.n a.at c.in_ok-p.ensures in
    units_found Main narrow a.s.now a.at a.n c.in_ok-p.p (omega arith) (omega arith) c.is_padded-padded.ensures refl

pub returns-in_err-p : goal.returns-in_err-p
returns-in_err-p c =
    let a = c.args in
    let t = passed_short a.s.now a.n a.at c.in_err-p.ensures in
    left _ c.from_residual.ensures ∙ units_cut Main narrow a.s.now a.at a.n _ (omega arith) t.why t.stop
