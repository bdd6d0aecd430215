-- The units are passed by one comparison, the last one says whether the text is padded and how many are left, and one pass over those judges them.
use mathlib.Core.Path.{sym, ap, ◌∙◌}
use Prim.Native.Nat.{◌*◌}
use native.Mathlib.Omega.{arith}
use Rattle.bitcursor.specs.Answers.{outcome}
use Rattle.bitcursor.proofs.Steps.{passed_there, passed_short, left}
use Rattle.text.specs.Texts.{wide}
use Rattle.text.proofs.UnitLaws.{some_padded}
use Rattle.text.proofs.TextLaws.{all_valid, units_found, units_bad, units_cut}
use Rattle.text.proofs.within.wide_units.Goals as goal

pub is_padded-padded-requires : goal.is_padded-padded-requires
is_padded-padded-requires c =
    let a = c.args in
    let t = passed_there a.s.now (2 * a.n) a.at c.in_ok-p.ensures in
    omega arith

pub overflow_sub-count : goal.overflow_sub-count
overflow_sub-count c =
    let a = c.args in
    some_padded a.s.now a.at 2 a.n c.is_padded-padded.ensures

pub is_utf16-requires : goal.is_utf16-requires
is_utf16-requires c =
    let a = c.args in
    let t = passed_there a.s.now (2 * a.n) a.at c.in_ok-p.ensures in
    omega arith

pub returns-then-not-is_utf16 : goal.returns-then-not-is_utf16
returns-then-not-is_utf16 c =
    let a = c.args in
    let t = passed_there a.s.now (2 * a.n) a.at c.in_ok-p.ensures in
    let valid = all_valid a.s.now a.at a.n c.is_padded-padded.ensures c.is_utf16.ensures in
    ap outcome c.refuse.ensures ∙ units_bad a.source wide a.s.now a.at a.n c.in_ok-p.p (omega arith) (omega arith) (sym valid ∙ c.if-not-is_utf16.true)

pub returns : goal.returns
returns c =
    let a = c.args in
    let t = passed_there a.s.now (2 * a.n) a.at c.in_ok-p.ensures in
    let padded = c.is_padded-padded.ensures in
    let valid = all_valid a.s.now a.at a.n padded c.is_utf16.ensures in
    units_found a.source wide a.s.now a.at a.n c.in_ok-p.p (omega arith) (omega arith) padded
    (sym valid ∙ c.if-not-is_utf16.false)

pub returns-in_err-p : goal.returns-in_err-p
returns-in_err-p c =
    let a = c.args in
    let t = passed_short a.s.now (2 * a.n) a.at c.in_err-p.ensures in
    left _ c.from_residual.ensures ∙ units_cut a.source wide a.s.now a.at a.n _ (omega arith) t.why t.stop
