-- What is left to read, behind the numbers that were passed, is what the whole reads; no list is lent.
use mathlib.Core.Path.{refl, ap, ◌∙◌}
use mathlib.Core.List.{[], ◌∷◌}
use native.Mathlib.Omega.{arith}
use Rattle.bitcursor.specs.Doubles.{BD}
use Rattle.bitcursor.specs.Fields.{coded}
use Rattle.hatch_format.specs.Takes.{takes_BD}
use Rattle.hatch_points.specs.Lists.{with_numbers}
use Rattle.hatch_points.proofs.Laws.{numbers_again, kept_same, leaves, onward}
use Rattle.hatch_points.proofs.Loops.{start_numbers, next, loop_refuses, loop_ends_as, single_read, single_refused}
use Rattle.hatch_points.proofs.runs.pass_doubles.Goals as goal

pub loop-init : goal.loop-init
loop-init c = start_numbers c.requires

pub loop-preserved : goal.loop-preserved
loop-preserved c =
    let s = c.args.s.now in
    let l = c.loop in
    let h = l.invariant.ready in
    let on = onward (coded BD) 2 takes_BD s l.p c.in_ok-q.ensures h.1.0 in
    next l.invariant _ c.loop-test.true (single_read s l.p c.in_ok-q.ensures)
    (record { lists = refl; sizes = numbers_again c.args.used l.counter (c.in_ok-q.field-0-0 ∷ []) (omega arith) })
    (h.0, (on.1, (omega (arith, on.0, h.1.1.0), omega (arith, on.0, h.1.1.1))))

pub returns-in_err-q : goal.returns-in_err-q
returns-in_err-q c =
    let l = c.loop in
    leaves _ c.from_residual.ensures
    (loop_refuses l.invariant c.loop-test.true (single_refused c.args.s.now l.p c.in_err-q.ensures) kept_same)

pub returns : goal.returns
returns c = loop_ends_as c.loop.invariant (c.with_numbers.ensures ∙ ap (with_numbers c.args.used) (omega arith)) c.loop-test.false
