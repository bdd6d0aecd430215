-- What is left to read, behind what is stored, is what the whole reads; each turn reads and stores one.
use mathlib.Core.Path.{ap, ◌∙◌}
use mathlib.Core.List.{[], ◌∷◌}
use native.Mathlib.Omega.{arith}
use Rattle.bitcursor.specs.Doubles.{BD}
use Rattle.bitcursor.specs.Fields.{coded}
use Rattle.hatch_format.specs.Takes.{takes_BD}
use Rattle.hatch_points.specs.Gathered.{numbers}
use Rattle.hatch_points.specs.Lists.{lists, with_numbers}
use Rattle.hatch_points.proofs.Laws.{numbers_again, kept_same, leaves, onward}
use Rattle.hatch_points.proofs.Loops.{start_numbers, next, loop_refuses, loop_ends_as, single_read, single_refused}
use Rattle.hatch_points.proofs.runs.put_doubles.Goals as goal

pub loop-i-init : goal.loop-i-init
loop-i-init g c = start_numbers c.requires

pub loop-i-preserved : goal.loop-i-preserved
loop-i-preserved g c =
    let s = c.args.s.now in
    let l = c.loop-i in
    let v = c.in_ok-v.v in
    let h = l.invariant.ready in
    let on = onward (coded BD) 2 takes_BD s l.p c.in_ok-v.ensures h.1.0 in
    next l.invariant (numbers (v ∷ [])) c.loop-i-test.true (single_read s l.p c.in_ok-v.ensures)
    (record { lists = λ i. lists (c.put_number.ensures i) []; sizes = numbers_again c.args.used l.i (v ∷ []) (omega arith) })
    (h.0, (on.1, (omega (arith, on.0, h.1.1.0), omega (arith, on.0, h.1.1.1))))

pub returns-in_err-v : goal.returns-in_err-v
returns-in_err-v g c =
    let l = c.loop-i in
    leaves _ c.from_residual.ensures
    (loop_refuses l.invariant c.loop-i-test.true (single_refused c.args.s.now l.p c.in_err-v.ensures) kept_same)

pub returns : goal.returns
returns g c = loop_ends_as c.loop-i.invariant (c.with_numbers.ensures ∙ ap (with_numbers c.args.used) (omega arith)) c.loop-i-test.false
