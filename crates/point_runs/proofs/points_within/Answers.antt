-- The points so far are in range, four more with each turn; the last decide.
use mathlib.Core.Path.{◌≡◌, sym, ap, ap₂, ◌∙◌}
use mathlib.Core.Bool.{Bool, ◌&&◌}
use Prim.Native.Nat.{◌+◌, ◌-◌, ◌*◌, ◌%◌, ◌≤◌}
use native.Mathlib.Nat.{add-mul}
use native.Mathlib.Omega.{arith}
use Rattle.point_runs.proofs.PointLaws.{in_run, fewer_there, run_then, run_fails, run_rest}
use Rattle.point_runs.proofs.points_within.Goals as goal

pub four_within-requires : goal.four_within-requires
four_within-requires g c =
    let a = c.args in
    let k = 4 * c.loop-turn.turn in
    let more : k + 4 ≤ a.n = omega arith in
    let there = fewer_there a.stride.numbers a.from more in
    let e = add-mul k 4 a.stride.numbers in
    omega (arith, there, e)

pub returns-then-not-holds : goal.returns-then-not-holds
returns-then-not-holds g c =
    let a = c.args in
    let k = 4 * c.loop-turn.turn in
    sym (run_fails g.C.Coordinate.within a.stride.numbers a.stride.two a.numbers.now a.from k a.n (omega arith)
    (sym c.four_within.ensures ∙ sym c.holds.ensures ∙ c.if-not-holds.true))

pub loop-turn-preserved : goal.loop-turn-preserved
loop-turn-preserved g c =
    let a = c.args in
    let k = 4 * c.loop-turn.turn in
    let next : 4 * (c.loop-turn.turn + 1) ≡ k + 4 = omega arith in
    let within = g.C.Coordinate.within in
    ap (in_run within a.stride.numbers a.stride.two a.numbers.now a.from) next ∙ run_then within a.stride.numbers a.stride.two a.numbers.now a.from k 4
    ∙ ap₂ (λ (b d : Bool). b && d) c.loop-turn.invariant (sym c.four_within.ensures ∙ sym c.holds.ensures ∙ c.if-not-holds.false)

pub returns : goal.returns
returns g c =
    let a = c.args in
    let k = 4 * c.loop-turn.turn in
    let first : k ≡ a.n - a.n % 4 = omega arith in
    let last : a.n - k ≡ a.n % 4 = omega arith in
    let within = g.C.Coordinate.within in
    c.holds-2.ensures ∙ c.last_within.ensures
    ∙ sym (run_rest within a.stride.numbers a.stride.two a.numbers.now a.from k a.n (omega arith) c.loop-turn.invariant
    ∙ ap₂ (λ m n. in_run within a.stride.numbers a.stride.two a.numbers.now (a.from + m * a.stride.numbers) n) first last)
