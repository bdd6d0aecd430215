-- The last unit alone decides.
use mathlib.Core.Path.{ap, ◌∙◌}
use Prim.Native.Nat.{ℕ}
use native.Mathlib.Omega.{arith}
use lib.Dec.{eqb}
use Rattle.text.proofs.UnitLaws.{unit_within, none_padded, padded_units}
use Rattle.text.proofs.padding.is_padded.Goals as goal

pub returns-then-n-eq0 : goal.returns-then-n-eq0
returns-then-n-eq0 c =
    let a = c.args in
    none_padded a.s.now a.at a.k a.n (omega arith)

pub unit_at-requires : goal.unit_at-requires
unit_at-requires c =
    let a = c.args in
    let pre = c.requires in
    (pre.0, (pre.1.0, unit_within a.k a.n (omega arith) pre.1.1))

pub returns : goal.returns
returns c =
    let a = c.args in
    ap (λ (u : ℕ). eqb u 0) c.unit_at.ensures ∙ padded_units a.s.now a.at a.k a.n (omega arith)
