-- What is left to judge is what the whole judges: a unit of DC00 to DFFF stands just where one of D800 to DBFF stood before it.
use mathlib.Core.Path.{◌≡◌, sym, ap, ◌∙◌}
use Prim.Native.Nat.{ℕ, ◌+◌, ◌-◌, ◌*◌}
use native.Mathlib.Omega.{arith}
use Rattle.text.specs.Units.{units_at}
use Rattle.text.specs.Utf16.{paired_from}
use Rattle.text.proofs.UnitLaws.{pass_stop, pass_on}
use Rattle.text.proofs.utf16.is_utf16.Goals as goal

pub loop-i-init : goal.loop-i-init
loop-i-init c =
    let a = c.args in
    let e : a.at + 16 * 0 ≡ a.at = omega arith in
    let f : a.n - 0 ≡ a.n = omega arith in
    (omega arith, rw (e, f))

pub returns-then-l-half : goal.returns-then-l-half
returns-then-l-half c =
    let a = c.args in
    let l = c.loop-i in
    pass_stop a.s.now a.at a.n l.i (omega arith) l.half c.low_at-u.result c.is_low-l.result
    c.low_at-u.ensures c.is_low-l.ensures c.if-l-half.true
    ∙ sym l.invariant.1

pub loop-i-preserved : goal.loop-i-preserved
loop-i-preserved c =
    let a = c.args in
    let l = c.loop-i in (
      omega arith,
      l.invariant.1
          ∙ pass_on a.s.now a.at a.n l.i (omega arith) l.half c.low_at-u.result c.is_low-l.result
          c.is_high-half.result
          c.low_at-u.ensures c.is_low-l.ensures c.if-l-half.false c.is_high-half.ensures,
    )

pub returns : goal.returns
unfolding units_at
returns c =
    let a = c.args in
    let l = c.loop-i in
    let e : a.n - l.i ≡ 0 = omega arith in
    sym (l.invariant.1 ∙ ap (λ (m : ℕ). paired_from l.half (units_at a.s.now (a.at + 16 * l.i) 2 m)) e)
