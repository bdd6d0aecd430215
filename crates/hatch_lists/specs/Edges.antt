-- Splines and edges read back from the lists: the kind, and what the kind has; kinds other than 1 to 4 are refused. Assumes nothing.
use Rattle.std.specs.Prelude.{◌≡◌, refl, Bool}
use Rattle.std.proofs.Common.{sym, arith}
use Rattle.std.proofs.Math.Path.{subst}
use mathlib.Core.List.{List, [], ◌∷◌, ◌++◌}
use Prim.Native.Nat.{ℕ, zero, suc, ◌≤◌}
use Rattle.std.proofs.Math.ListN.{length}
use Rattle.bitcursor.specs.declared.Refusal.TheVariants.{EdgeKind}
use Rattle.bitcursor.specs.Chains.{Each}
use Rattle.bitcursor.specs.Format.{Format, pure, refuse, ◌>>=◌, relay}
use Rattle.loads.specs.Bits.{bit}
use Rattle.hatch_format.specs.declared.Caps.{Caps}
use Rattle.hatch_format.specs.Values.{Fits, unfitted, fitted, Spline, Edge, line, arc, ellipse, spline}
use Rattle.hatch_format.specs.Entries.{every, point_numbers, vertex_numbers, fit_count, fit_numbers, edge_words, edge_numbers}
use Rattle.hatch_format.specs.Counts.{times}
use Rattle.hatch_lists.specs.Lists.{Lists, lists, Stands, stands_none, stands_then, stands_first, stands_second, stands_nothing, between}
use Rattle.hatch_lists.specs.Lists.{word, number, Entry, entry, switch, Count, count}
use Rattle.hatch_lists.specs.Within.{All, FitsWithin, SplineWithin, EdgeWithin}
use Rattle.hatch_lists.specs.Points.{each_to, each_from}
use Rattle.hatch_lists.specs.Points.{point, points_to, points_from, numbers_to, numbers_from, vertex, vertices_to, vertices_from}
use Rattle.hatch_lists.specs.Arcs.{arc_edge, ellipse_edge}

-- ---- fits by their count: none, or so many points and two tangents
unfoldable pub fits_read : ℕ → Format lists Fits
fits_read zero = pure unfitted
fits_read (suc n) = do
  points ← times (suc n) point
  start ← point
  end ← point
  pure (fitted points start end)

-- so many fit points, and tangents where there are any
abbrev pub FitsHeld : ℕ → Fits → Lists → Lists → Type 0
FitsHeld n a p q = (fit_count a ≡ n) × FitsWithin n a × Stands [] (fit_numbers a) p q

pub fits_to : (n : ℕ) (γ : Unit {0}) (a : Fits) (p q : Lists) → (fits_read n).lays γ a p q → FitsHeld n a p q
unfolding fits_read times point relay ◌>>=◌ pure
fits_to zero γ a p q l = rw (l.0, l.1) (refl, tt, stands_none p)
fits_to (suc n) γ a p q l =
    let m = l.3.3.3 in
    let e : length l.0 ≡ suc n = l.2.0 in
    let s = stands_then (points_to l.0 p l.1 l.2.1) (stands_then l.3.2 l.3.3.2) in
    rw (m.0, m.1) (e, (omega (arith, e), omega (arith, e)), s)

pub fits_from : (n : ℕ) (γ : Unit {0}) (a : Fits) (p q : Lists) → FitsHeld n a p q → (fits_read n).lays γ a p q
unfolding fits_read times point relay ◌>>=◌ pure
fits_from zero γ unfitted p q l = (refl, sym (stands_nothing l.2))
fits_from zero γ (fitted points start end) p q l = absurd (omega (arith, l.0, l.1.0))
fits_from (suc n) γ unfitted p q l = absurd (omega (arith, l.0))
fits_from (suc n) γ (fitted points start end) p q l =
    let tangents = point_numbers start ++ point_numbers end in
    let s = stands_first [] (every point_numbers points) [] tangents l.2 in (
      points,
      between [] tangents q,
      (l.0, points_from points p (between [] tangents q) s),
      (
        start,
        between [] (point_numbers end) q,
        stands_first [] (point_numbers start) [] (point_numbers end) (stands_second [] tangents q),
        (end, q, stands_second [] (point_numbers end) q, (refl, refl)),
      ),
    )

unfoldable pub fits : ℕ → Format lists Fits
fits n = relay (fits_read n) (λ γ. FitsHeld n) (fits_to n) (fits_from n)

-- ---- degree, rational, periodic and three counts; knots, control points, fits
module _ (caps : Caps) where
  unfoldable pub spline_lists : ℕ → Bool → Bool → ℕ → ℕ → ℕ → Format lists Spline
  spline_lists degree rational periodic knots controls n = do
    ks ← times knots (entry number)
    cs ← times controls (vertex rational)
    fs ← fits n
    pure (record { degree = degree; rational = rational; periodic = periodic; knots = ks; control_points = cs; fits = fs })

  unfoldable pub spline_read : Format lists Spline
  spline_read = do
    degree ← entry word
    rational ← switch
    periodic ← switch
    knots ← count caps.knots
    controls ← count caps.control_points
    n ← count caps.fit_points
    spline_lists degree rational periodic knots controls n

  abbrev pub spline_words : Spline → List ℕ
  spline_words a =
      a.degree ∷ (bit a.rational ∷ (bit a.periodic ∷ (length a.knots ∷ (length a.control_points ∷ (fit_count a.fits ∷ [])))))

  abbrev pub SplineHeld : Spline → Lists → Lists → Type 0
  SplineHeld a p q = SplineWithin caps a × Stands (spline_words a) (edge_numbers (spline a)) p q

  fits_capped : (n : ℕ) (a : Fits) → fit_count a ≡ n → FitsWithin n a → n ≤ caps.fit_points → FitsWithin caps.fit_points a
  fits_capped n unfitted e h k = tt
  fits_capped n (fitted points start end) e h k = (h.0, omega (arith, e, k))

  pub spline_to : (γ : Unit {0}) (a : Spline) (p q : Lists) → spline_read.lays γ a p q → SplineHeld a p q
  unfolding spline_read spline_lists switch count times entry vertex fits relay ◌>>=◌ pure
  spline_to γ a p q l =
      let c = l.3.3.3 in
      let m = c.3.3.3 in
      let e = m.3.3.3 in
      let knots = subst (λ (n : ℕ). Count caps.knots n l.3.3.1 c.1) (sym m.2.0) c.2 in
      let controls = subst (λ (n : ℕ). Count caps.control_points n c.1 c.3.1) (sym m.3.2.0) c.3.2 in
      let held = m.3.3.2 in
      let number = subst (λ (n : ℕ). Count caps.fit_points n c.3.1 c.3.3.1) (sym held.0) c.3.3.2 in
      let points = vertices_to l.3.0 m.3.0 m.1 m.3.1 m.3.2.1 in
      let words = stands_then l.2 (stands_then l.3.2 (stands_then l.3.3.2
      (stands_then knots.1 (stands_then controls.1 number.1)))) in
      let numbers = stands_then (numbers_to m.0 c.3.3.1 m.1 m.2.1) (stands_then points.1 held.2) in
      rw (e.0, e.1) (
        record {
          knots = knots.0;
          controls = controls.0;
          weights = points.0;
          fits = fits_capped c.3.3.0 m.3.3.0 held.0 held.1 c.3.3.2.0;
        },
        stands_then words numbers,
      )

  fits_counted : (a : Fits) → FitsWithin caps.fit_points a → FitsWithin (fit_count a) a × (fit_count a ≤ caps.fit_points)
  fits_counted unfitted h = (tt, omega arith)
  fits_counted (fitted points start end) h = ((h.0, omega arith), h.1)

  pub spline_from : (γ : Unit {0}) (a : Spline) (p q : Lists) → SplineHeld a p q → spline_read.lays γ a p q
  unfolding spline_read spline_lists switch count times entry vertex fits relay ◌>>=◌ pure
  spline_from γ a p q l =
      let w = l.0 in
      let f = fits_counted a.fits w.fits in
      let ns = edge_numbers (spline a) in
      let fs = fit_numbers a.fits in
      let cs = every (vertex_numbers a.rational) a.control_points ++ fs in
      let w₁ = fit_count a.fits ∷ [] in
      let w₂ = length a.control_points ∷ w₁ in
      let w₃ = length a.knots ∷ w₂ in
      let w₄ = bit a.periodic ∷ w₃ in
      let w₅ = bit a.rational ∷ w₄ in
      let knots = stands_first [] a.knots [] cs (stands_second [] ns q) in
      let points = stands_first [] (every (vertex_numbers a.rational) a.control_points) [] fs (stands_second [] cs q) in
      let behind : (spline_lists a.degree a.rational a.periodic (length a.knots) (length a.control_points) (fit_count a.fits)).lays γ a
      (between [] ns q) q = (
        a.knots,
        between [] cs q,
        (refl, numbers_from a.knots (between [] ns q) (between [] cs q) knots),
        (
          a.control_points,
          between [] fs q,
          (refl, vertices_from a.rational a.control_points (between [] cs q) (between [] fs q) w.weights points),
          (a.fits, q, (refl, f.0, stands_second [] fs q), (refl, refl)),
        ),
      ) in (
        a.degree,
        between w₅ ns q,
        stands_first (a.degree ∷ []) [] w₅ ns l.1,
        (
          a.rational,
          between w₄ ns q,
          stands_first (bit a.rational ∷ []) [] w₄ ns (stands_second w₅ ns q),
          (
            a.periodic,
            between w₃ ns q,
            stands_first (bit a.periodic ∷ []) [] w₃ ns (stands_second w₄ ns q),
            (
              length a.knots,
              between w₂ ns q,
              (w.knots, stands_first (length a.knots ∷ []) [] w₂ ns (stands_second w₃ ns q)),
              (
                length a.control_points,
                between w₁ ns q,
                (w.controls, stands_first (length a.control_points ∷ []) [] w₁ ns (stands_second w₂ ns q)),
                (fit_count a.fits, between [] ns q, (f.1, stands_first w₁ [] [] ns (stands_second w₁ ns q)), behind),
              ),
            ),
          ),
        ),
      )

  unfoldable pub spline_edge : Format lists Spline
  spline_edge = relay spline_read (λ γ. SplineHeld) spline_to spline_from

  -- ---- what follows each kind
  unfoldable pub edge_of : ℕ → Format lists Edge
  edge_of zero = refuse EdgeKind tt
  edge_of (suc zero) = do
    start ← point
    end ← point
    pure (line start end)
  edge_of (suc (suc zero)) = do
    a ← arc_edge
    pure (arc a)
  edge_of (suc (suc (suc zero))) = do
    a ← ellipse_edge
    pure (ellipse a)
  edge_of (suc (suc (suc (suc zero)))) = do
    a ← spline_edge
    pure (spline a)
  edge_of (suc (suc (suc (suc (suc n))))) = refuse EdgeKind tt

  unfoldable pub edge_read : Format lists Edge
  edge_read = do
    kind ← entry word
    edge_of kind

  abbrev pub EdgeHeld : Edge → Lists → Lists → Type 0
  EdgeHeld a p q = EdgeWithin caps a × Stands (edge_words a) (edge_numbers a) p q

  pub edge_to : (γ : Unit {0}) (a : Edge) (p q : Lists) → edge_read.lays γ a p q → EdgeHeld a p q
  unfolding edge_read edge_of entry point arc_edge ellipse_edge spline_edge relay ◌>>=◌ pure refuse
  edge_to γ a p q l = go l.0 l.2 l.3
    where
      go : (k : ℕ) → Entry word k p l.1 → (edge_of k).lays γ a l.1 q → EdgeHeld a p q
      go zero e m = absurd m
      go (suc zero) e m = rw (m.3.3.0, m.3.3.1) (tt, stands_then e (stands_then m.2 m.3.2))
      go (suc (suc zero)) e m = rw (m.3.0, m.3.1) (tt, stands_then e m.2)
      go (suc (suc (suc zero))) e m = rw (m.3.0, m.3.1) (tt, stands_then e m.2)
      go (suc (suc (suc (suc zero)))) e m = rw (m.3.0, m.3.1) (m.2.0, stands_then e m.2.1)
      go (suc (suc (suc (suc (suc n))))) e m = absurd m

  pub edge_from : (γ : Unit {0}) (a : Edge) (p q : Lists) → EdgeHeld a p q → edge_read.lays γ a p q
  unfolding edge_read edge_of entry point arc_edge ellipse_edge spline_edge relay ◌>>=◌ pure
  edge_from γ (line start end) p q l =
      let ns = edge_numbers (line start end) in (
        1,
        between [] ns q,
        stands_first (1 ∷ []) [] [] ns l.1,
        (
          start,
          between [] (point_numbers end) q,
          stands_first [] (point_numbers start) [] (point_numbers end) (stands_second [] ns q),
          (end, q, stands_second [] (point_numbers end) q, (refl, refl)),
        ),
      )
  edge_from γ (arc a) p q l =
      let ws = bit a.counter_clockwise ∷ [] in
      let ns = edge_numbers (arc a) in
      (2, between ws ns q, stands_first (2 ∷ []) [] ws ns l.1, (a, q, stands_second ws ns q, (refl, refl)))
  edge_from γ (ellipse a) p q l =
      let ws = bit a.counter_clockwise ∷ [] in
      let ns = edge_numbers (ellipse a) in
      (3, between ws ns q, stands_first (3 ∷ []) [] ws ns l.1, (a, q, stands_second ws ns q, (refl, refl)))
  edge_from γ (spline a) p q l =
      let ws = spline_words a in
      let ns = edge_numbers (spline a) in
      (4, between ws ns q, stands_first (4 ∷ []) [] ws ns l.1, (a, q, (l.0, stands_second ws ns q), (refl, refl)))

  unfoldable pub edge : Format lists Edge
  edge = relay edge_read (λ γ. EdgeHeld) edge_to edge_from

  pub edges_to : (items : List Edge) (p q : Lists) → Each EdgeHeld items p q
      → All (EdgeWithin caps) items × Stands (every edge_words items) (every edge_numbers items) p q
  edges_to items p q l = each_to EdgeHeld (EdgeWithin caps) edge_words edge_numbers (λ a r t m. m) items p q l

  pub edges_from : (items : List Edge) (p q : Lists) → All (EdgeWithin caps) items
      → Stands (every edge_words items) (every edge_numbers items) p q → Each EdgeHeld items p q
  edges_from items p q h s = each_from EdgeHeld (EdgeWithin caps) edge_words edge_numbers (λ a r t i m. (i, m)) items p q h s
