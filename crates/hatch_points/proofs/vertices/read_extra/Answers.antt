-- The point is there or it is not, by one comparison; behind it the double decides, whichever way it is read.
use mathlib.Core.Path.{sym, ap₂, ◌∙◌}
use native.Mathlib.Omega.{arith}
use Rattle.bitcursor.specs.Reading.{refused}
use Rattle.bitcursor.proofs.Steps.{passed_there, passed_short}
use Rattle.hatch_points.specs.Vertices.{Extra}
use Rattle.hatch_points.proofs.Laws.{stays}
use Rattle.hatch_points.proofs.VertexLaws.{extra_on, extra_short}
use Rattle.hatch_points.proofs.vertices.read_extra.Goals as goal

pub returns-then-bytes-p : goal.returns-then-bytes-p
returns-then-bytes-p c =
    let a = c.args in
    let t = passed_there a.s.now 16 a.at c.in_ok-p.ensures in
    extra_on a.s.now a.at (omega (arith, t.fits)) _ (omega (arith, t.next)) c.read_bd_bits.ensures

pub returns : goal.returns
returns c =
    let a = c.args in
    let t = passed_there a.s.now 16 a.at c.in_ok-p.ensures in
    extra_on a.s.now a.at (omega (arith, t.fits)) _ (omega (arith, t.next)) c.read_bd_there.ensures

pub returns-in_err-p : goal.returns-in_err-p
returns-in_err-p c =
    let a = c.args in
    let t = passed_short a.s.now 16 a.at c.in_err-p.ensures in
    stays (Extra a.s.now a.at) _ c.from_residual.ensures (extra_short a.s.now a.at (omega (arith, t.misses)) ∙ ap₂ refused (sym t.why) (sym t.stop))
