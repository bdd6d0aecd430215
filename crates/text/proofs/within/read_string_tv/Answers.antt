-- The reader's rule in its order: the end bit, the length code, length 0, the room before the end bit, the units.
use mathlib.Core.Path.{sym, ap, ◌∙◌}
use native.Mathlib.Omega.{arith}
use Rattle.bitcursor.proofs.Steps.{left}
use Rattle.bitcursor.specs.Answers.{outcome}
use Rattle.text.specs.Steps.{reader_over, reader_refused, reader_past, reader_empty, reader_units}
use Rattle.text.proofs.TextLaws.{length_code}
use Rattle.text.proofs.within.read_string_tv.Goals as goal

pub returns-then-end-at : goal.returns-then-end-at
returns-then-end-at c = let a = c.args in sym (reader_over a.end a.s.now a.at c.if-end-at.true)

pub returns-then-n-eq0 : goal.returns-then-n-eq0
returns-then-n-eq0 c =
    let a = c.args in
    let code = length_code a.s.now a.at c.in_ok-n.ensures in
    c.wide_units.ensures ∙ sym (reader_empty a.end a.s.now a.at (omega arith) code.read code.on c.if-n-eq0.true)

pub overflow_mul-n : goal.overflow_mul-n
overflow_mul-n c =
    let a = c.args in
    let code = length_code a.s.now a.at c.in_ok-n.ensures in
    omega arith

pub overflow_add-p : goal.overflow_add-p
overflow_add-p c =
    let a = c.args in
    let code = length_code a.s.now a.at c.in_ok-n.ensures in
    omega arith

pub returns-then-end-p : goal.returns-then-end-p
returns-then-end-p c =
    let a = c.args in
    let code = length_code a.s.now a.at c.in_ok-n.ensures in
    ap outcome c.refuse.ensures ∙ sym (reader_past a.end a.s.now a.at (omega arith) code.read code.on c.if-n-eq0.false c.if-end-p.true)

pub wide_units-requires-2 : goal.wide_units-requires-2
wide_units-requires-2 c =
    let a = c.args in
    let code = length_code a.s.now a.at c.in_ok-n.ensures in
    code.small

pub returns : goal.returns
returns c =
    let a = c.args in
    let code = length_code a.s.now a.at c.in_ok-n.ensures in
    c.wide_units-2.ensures ∙ sym (reader_units a.end a.s.now a.at (omega arith) code.read code.on c.if-n-eq0.false
    c.if-end-p.false)

pub returns-in_err-n : goal.returns-in_err-n
returns-in_err-n c =
    let a = c.args in
    left _ c.from_residual.ensures ∙ sym (reader_refused a.end a.s.now a.at (omega arith) (sym c.in_err-n.ensures))
