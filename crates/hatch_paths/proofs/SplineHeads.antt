-- The range of a spline's fields, and how many bits they take: so many that their words are fewer. Assumes nothing.
use mathlib.Core.Path.{◌≡◌, sym, ap}
use mathlib.Core.List.{List}
use Prim.Native.Nat.{ℕ, ◌+◌, ◌*◌, ◌^◌, ◌≤◌, ◌<◌}
use native.Mathlib.Omega.{arith}
use lib.ListN.{length}
use Rattle.bitcursor.specs.Codes.{B, BL}
use Rattle.bitcursor.specs.Fields.{coded}
use Rattle.bitcursor.specs.Format.{pure, ◌>>=◌}
use Rattle.bitcursor.specs.Reading.{got}
use Rattle.bitcursor.proofs.Smalls.{BL_small}
use Rattle.hatch_format.specs.declared.Caps.{Caps}
use Rattle.hatch_format.specs.Takes.{takes_BL}
use Rattle.hatch_format.specs.Counts.{bounded, takes_bounded}
use Rattle.hatch_points.specs.Heads.{count_capped}
use Rattle.hatch_points.proofs.Laws.{onward}
use Rattle.hatch_points.proofs.NoWords.{takes_flag}
use Rattle.hatch_paths.specs.declared.edges.SplineHead.{SplineHead}
use Rattle.hatch_paths.specs.Splines.{spline_head}

pub record HeadEnd (xs : List ℕ) (caps : Caps) (p : ℕ) (h : SplineHead) (q : ℕ) : Type 0 where
  pub degree : h.degree < 2 ^ 32
  pub knots : h.knots ≤ caps.knots
  pub controls : h.controls ≤ caps.control_points
  pub onward : p + 8 ≤ q
  pub inside : q ≤ 8 * length xs

pub head_end : (xs : List ℕ) (caps : Caps) (p : ℕ) {h : SplineHead} {q : ℕ} → got h q ≡ (spline_head caps).read xs p → p ≤ 8 * length xs
    → HeadEnd xs caps p h q
unfolding spline_head ◌>>=◌ pure
head_end xs caps p {h} {q} e le =
    let l₁ = (spline_head caps).sound xs h p q (sym e) in
    let e₁ = (coded BL).complete xs l₁.0 p l₁.1 l₁.2 in
    let o₁ = onward (coded BL) 2 takes_BL xs p (sym e₁) le in
    let l₂ = l₁.3 in
    let e₂ = (coded B).complete xs l₂.0 l₁.1 l₂.1 l₂.2 in
    let o₂ = onward (coded B) 1 takes_flag xs l₁.1 (sym e₂) o₁.1 in
    let l₃ = l₂.3 in
    let e₃ = (coded B).complete xs l₃.0 l₂.1 l₃.1 l₃.2 in
    let o₃ = onward (coded B) 1 takes_flag xs l₂.1 (sym e₃) o₂.1 in
    let l₄ = l₃.3 in
    let e₄ = (bounded caps.knots BL).complete xs l₄.0 l₃.1 l₄.1 l₄.2 in
    let o₄ = onward (bounded caps.knots BL) 2 (takes_bounded caps.knots BL 2 takes_BL) xs l₃.1 (sym e₄) o₃.1 in
    let l₅ = l₄.3 in
    let e₅ = (bounded caps.control_points BL).complete xs l₅.0 l₄.1 l₅.1 l₅.2 in
    let o₅ = onward (bounded caps.control_points BL) 2 (takes_bounded caps.control_points BL 2 takes_BL) xs l₄.1 (sym e₅) o₄.1 in
    let f = l₅.3 in
    record {
      degree = omega (arith, ap (λ (k : SplineHead). k.degree) f.0, BL_small xs p (sym e₁));
      knots = omega (arith, ap (λ (k : SplineHead). k.knots) f.0, count_capped caps.knots BL xs l₃.1 e₄);
      controls = omega (arith, ap (λ (k : SplineHead). k.controls) f.0, count_capped caps.control_points BL xs l₄.1 e₅);
      onward = omega (arith, o₁.0, o₂.0, o₃.0, o₄.0, o₅.0, f.1);
      inside = omega (arith, o₅.1, f.1);
    }
