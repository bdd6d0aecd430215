-- The bytes are there or they are not, by one comparison; what the list has no room for is not stored.
use mathlib.Core.Path.{◌≡◌, refl, sym, ap, ap₂, ◌∙◌}
use mathlib.Core.List.{[]}
use Prim.Native.Nat.{ℕ, ◌+◌, ◌*◌}
use native.Mathlib.Nat.{add-zero}
use native.Mathlib.Omega.{arith}
use Rattle.bitcursor.specs.Reading.{got, refused}
use Rattle.bitcursor.proofs.Steps.{passed_there, passed_short}
use Rattle.hatch_points.specs.Gathered.{numbers}
use Rattle.hatch_points.specs.Lists.{lists, with_numbers}
use Rattle.hatch_points.specs.Stores.{raw_at}
use Rattle.hatch_points.proofs.Laws.{kept_same, more_numbers, refuses, leaves, ends}
use Rattle.hatch_points.proofs.RawRuns.{length_raw, raw_there, raw_short, raw_zero}
use Rattle.hatch_points.proofs.runs.raw_run.Goals as goal

pub returns-then-n-eq0 : goal.returns-then-n-eq0
returns-then-n-eq0 g c =
    let a = c.args in
    let z = a.used in
    ends (numbers []) (raw_zero a.s.now a.n a.at c.if-n-eq0.true)
    (record {
      lists = refl;
      sizes = ap (λ (k : ℕ). record { numbers = k; words = z.words; derived = z.derived }) (sym (add-zero z.numbers)) ∙ more_numbers z [];
    })
    (let h = c.requires.0 in (h.0, (h.1.0, (omega arith, omega arith))))

pub put_raw-requires : goal.put_raw-requires
put_raw-requires g c =
    let a = c.args in
    let t = passed_there a.s.now (8 * a.n) a.at c.in_ok-p.ensures in
    omega (arith, t.fits)

pub returns : goal.returns
returns g c =
    let a = c.args in
    let s = a.s.now in
    let z = a.used in
    let t = passed_there s (8 * a.n) a.at c.in_ok-p.ensures in
    let h = c.requires.0 in
    let e : a.at + 64 * a.n ≡ c.in_ok-p.p = omega (arith, t.next) in
    ends (numbers (raw_at s a.at a.n)) (raw_there s a.n a.at (omega (arith, t.fits)) ∙ ap (got (numbers (raw_at s a.at a.n))) e)
    (record {
      lists = λ i. lists (c.put_raw.ensures i) [];
      sizes = c.with_numbers.ensures ∙ ap (with_numbers z) (sym (length_raw s a.at a.n)) ∙ more_numbers z (raw_at s a.at a.n);
    })
    (let k = length_raw s a.at a.n in
    (h.0, (omega (arith, t.fits, t.next, h.1.0), (omega (arith, k, t.next, h.1.1.0), omega (arith, t.next, h.1.1.1)))))

pub returns-in_err-p : goal.returns-in_err-p
returns-in_err-p g c =
    let a = c.args in
    let s = a.s.now in
    let t = passed_short s (8 * a.n) a.at c.in_err-p.ensures in
    leaves _ c.from_residual.ensures
    (refuses (raw_short s a.n a.at (omega (arith, t.misses)) ∙ ap₂ refused (sym t.why) (sym t.stop)) kept_same)
