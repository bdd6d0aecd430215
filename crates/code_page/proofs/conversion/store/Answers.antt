-- All are mapped, so only the room decides; each turn stores what the next entry is mapped to.
use Rattle.std.proofs.Common.{arith}
use Rattle.code_page.proofs.PassLaws.{entries, as_many, stored_more, laid_all}
use Rattle.code_page.proofs.CallLaws.{gives_too_short, gives_written}
use Rattle.code_page.proofs.conversion.store.Goals as goal

pub returns-then-output-input : goal.returns-then-output-input
returns-then-output-input g c =
    gives_too_short g.T.Character.mapped c.args.input.now c.args.output.now c.requires.defined c.if-output-input.true

pub loop-i-preserved : goal.loop-i-preserved
loop-i-preserved g c =
    stored_more g.T.Character.mapped c.args.input.now c.requires.defined c.args.output.now c.loop-i.i c.index-input-i.result c.other.result c.loop-i.output
    c.loop-i.invariant c.loop-i-test.true c.if-output-input.false c.index-input-i.is (c.requires.is _ _ c.other.ensures)

pub returns : goal.returns
returns g c =
    let f = g.T.Character.mapped in
    let xs = c.args.input.now in
    let out = c.args.output.now in
    let all = laid_all (entries f xs) out c.loop-i.i c.loop-i.output c.loop-i.invariant (omega (arith, as_many f xs c.requires.defined)) in
    gives_written f xs out c.requires.defined c.loop-i.output c.if-output-input.false all
