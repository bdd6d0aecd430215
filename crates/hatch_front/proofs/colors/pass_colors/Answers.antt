-- Each turn passes one colour more, or refuses for the whole.
use Rattle.std.proofs.Common.{sym, ap, ◌∙◌, arith}
use Rattle.hatch_front.proofs.Steps.{passing_left}
use Rattle.hatch_front.specs.Answers.{passed_of}
use Rattle.hatch_front.proofs.ColorLaws.{none_read, one_read, one_refused, all_read}
use Rattle.hatch_front.proofs.colors.pass_colors.Goals as goal

pub loop-init : goal.loop-init
loop-init c = none_read c.args.s.now c.args.at

pub loop-preserved : goal.loop-preserved
loop-preserved c = one_read c.loop.invariant (sym c.in_ok-q.ensures)

pub returns-in_err-q : goal.returns-in_err-q
returns-in_err-q c =
    let no = one_refused c.loop.invariant c.loop-test.true (sym c.in_err-q.ensures) in
    passing_left _ c.from_residual.ensures ∙ sym (ap passed_of no)

pub returns : goal.returns
returns c =
    let l = c.loop in
    sym (ap passed_of (all_read l.invariant (omega (arith, l.auto.counter-end, c.loop-test.false))))
