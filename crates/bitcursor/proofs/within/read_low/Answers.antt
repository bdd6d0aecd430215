-- No bytes are 0 at the place; where `skip_bytes` passes them `low_at` is their number, and where it cannot they stop as it does.
use Rattle.std.specs.Prelude.{◌≡◌, ◌+◌, ◌*◌}
use Rattle.std.proofs.Common.{sym, ap, ap₂, ◌∙◌, arith}
use Rattle.loads.specs.Bytes.{low_number, bytes_at}
use Rattle.bitcursor.specs.Reading.{got, refused}
use Rattle.bitcursor.specs.Stops.{low_there, low_short}
use Rattle.bitcursor.proofs.Steps.{passed_there, passed_short, left}
use Rattle.bitcursor.proofs.within.read_low.Goals as goal

pub returns-then-n-eq0 : goal.returns-then-n-eq0
unfolding low_number bytes_at
returns-then-n-eq0 c =
    let a = c.args in
    let e : a.at + 8 * 0 ≡ a.at = omega arith in
    rw c.if-n-eq0.true (sym (low_there 0 a.s.now a.at (omega arith) ∙ ap (got 0) e))

pub low_at-requires : goal.low_at-requires
low_at-requires c =
    let a = c.args in
    let t = passed_there a.s.now a.n a.at c.in_ok-p.ensures in
    omega arith

pub returns : goal.returns
returns c =
    let a = c.args in
    let t = passed_there a.s.now a.n a.at c.in_ok-p.ensures in
    ap₂ got c.low_at.ensures t.next ∙ sym (low_there a.n a.s.now a.at t.fits)

pub returns-in_err-p : goal.returns-in_err-p
returns-in_err-p c =
    let a = c.args in
    let t = passed_short a.s.now a.n a.at c.in_err-p.ensures in
    left _ c.from_residual.ensures ∙ ap₂ refused t.why t.stop ∙ sym (low_short a.n a.s.now a.at t.misses)
