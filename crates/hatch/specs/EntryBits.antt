-- No more list entries than bits: a body's words and numbers together are no more than the bits that what follows its pattern's name is laid
-- out in. One law for each way in which layouts are put together. Assumes nothing.
use Rattle.std.specs.Prelude.{◌≡◌, refl, Bool, true, false, ℕ, ◌+◌, ◌≤◌, leb}
use Rattle.std.proofs.Common.{length-append}
use mathlib.Core.List.{List, [], ◌∷◌, ◌++◌}
use native.Mathlib.Omega.{arith}
use Rattle.std.proofs.Math.ListN.{length}
use Rattle.bitcursor.specs.Code.{tabled}
use Rattle.bitcursor.specs.Codes.{B, B_codes, B_of}
use Rattle.bitcursor.specs.Doubles.{BD}
use Rattle.text.specs.declared.version.Version.{Version}
use Rattle.text.specs.Releases.{release_number}
use Rattle.hatch_format.specs.declared.Caps.{Caps}
use Rattle.hatch_format.specs.HandleRule.{Handles, in_payload, in_stream}
use Rattle.hatch_format.specs.Values.{Point, Vertex, Arc, Ellipse, Fits, unfitted, fitted, Spline, Edge, line, arc, ellipse, spline, Segments, polyline}
use Rattle.hatch_format.specs.Values.{edges, Path, polylined, PatternLine, Pattern, Rest, add_handles}
use Rattle.hatch_format.specs.Entries.{every, edge_words, segment_words, path_words, line_words, words, point_numbers, vertex_numbers, fit_numbers, edge_numbers}
use Rattle.hatch_format.specs.Entries.{segment_numbers, path_numbers, line_numbers, numbers}
use Rattle.bitcursor.specs.Chains.{◌⨾◌, EachBy, Each}
use Rattle.bitcursor.specs.Joins.{Coded}
use Rattle.hatch_format.specs.Layouts.{PointLaid, VertexLaid, ArcLaid, EllipseLaid, FitsLaid, SplineLaid, EdgeLaid, SegmentsLaid}
use Rattle.hatch_format.specs.Layouts.{HandlesLaid, PathLaid, LineLaid, PatternLaid, RestLaid}
use Rattle.hatch_format.specs.Takes.{takes_RC, takes_RD, takes_BD, takes_BL, takes_BS}

-- what is laid out so takes n bits at least
abbrev pub Spans : ℕ → (ℕ → ℕ → Type 0) → Type 0
Spans n L = (p q : ℕ) → L p q → p + n ≤ q

-- ---- one behind the other
pub spans_then : (m n : ℕ) (L M : ℕ → ℕ → Type 0) → Spans m L → Spans n M → Spans (m + n) (L ⨾ M)
spans_then m n L M h k p q l =
    let i = h p l.0 l.1 in
    let j = k l.0 q l.2 in
    omega arith

-- ---- the items of a list: each one's weight
abbrev pub total : {A : Type 0} → (A → ℕ) → List A → ℕ
total w [] = 0
total w (a ∷ items) = w a + total w items

pub spans_each : {A S : Type 0} (w : A → ℕ) (L : S → A → ℕ → ℕ → Type 0) (add : S → A → S) → ((s : S) (a : A) → Spans (w a) (L s a))
    → (s : S) (items : List A) → Spans (total w items) (EachBy L add s items)
spans_each w L add h s [] p q l = omega (arith, l)
spans_each w L add h s (a ∷ items) p q l =
    let i = h s a p l.0 l.1 in
    let j = spans_each w L add h (add s a) items l.0 q l.2 in
    omega arith

total_ones : {A : Type 0} (items : List A) → total (λ (a : A). 1) items ≡ length items
total_ones [] = refl
total_ones (a ∷ items) = let h = total_ones items in omega arith

total_every : {A : Type 0} (f : A → List ℕ) (items : List A) → total (λ (a : A). length (f a)) items ≡ length (every f items)
total_every f [] = refl
total_every f (a ∷ items) = let h = total_every f items in let l = length-append (f a) (every f items) in omega arith

total_both : {A : Type 0} (f g : A → List ℕ) (items : List A)
    → total (λ (a : A). length (f a) + length (g a)) items ≡ length (every f items) + length (every g items)
total_both f g [] = refl
total_both f g (a ∷ items) =
    let h = total_both f g items in
    let i = length-append (f a) (every f items) in
    let j = length-append (g a) (every g items) in
    omega arith

-- ---- the parts of a rest
module _ (xs : List ℕ) where
  spans_bit : (b : Bool) → Spans 1 (Coded xs B b)
  unfolding B tabled
  spans_bit b p q l = let h = long b l.code l.listed in omega (arith, h, l.ends)
    where
      long : (b : Bool) (cs : List Bool) → B_codes b cs → 1 ≤ length cs
      long b cs B_of = omega arith

  spans_point : (a : Point) → Spans 128 (PointLaid xs a)
  spans_point a p q l =
      let i = takes_RD xs a.x p l.0 l.1 in
      let j = takes_RD xs a.y l.0 q l.2 in
      omega arith

  spans_vertex : (more : Bool) (a : Vertex) → Spans (length (vertex_numbers more a)) (VertexLaid xs more a)
  spans_vertex more a p q l = go more
    where
      i : p + 128 ≤ l.0
      i = spans_point a.point p l.0 l.1

      go : (b : Bool) → p + length (vertex_numbers b a) ≤ q
      go true = omega (arith, i, l.2.ends)
      go false = omega (arith, i, l.2.ends)

  spans_arc : (a : Arc) → Spans 128 (ArcLaid xs a)
  spans_arc a p q l =
      let i = spans_point a.center p l.0 l.1 in
      let m = l.2 in
      omega (arith, i, m.1.ends, m.2.1.ends, m.2.2.1.ends, m.2.2.2.ends)

  spans_ellipse : (a : Ellipse) → Spans 128 (EllipseLaid xs a)
  spans_ellipse a p q l =
      let i = spans_point a.center p l.0 l.1 in
      let j = spans_point a.endpoint l.0 l.2.0 l.2.1 in
      let m = l.2.2 in
      omega (arith, i, j, m.1.ends, m.2.1.ends, m.2.2.1.ends, m.2.2.2.ends)

  spans_points : (points : List Point) → Spans (length (every point_numbers points)) (Each (PointLaid xs) points)
  spans_points points p q l =
      let i = spans_each (λ (a : Point). length (point_numbers a)) (λ (s : Unit {0}). PointLaid xs) (λ s a. s)
      (λ s a u v m. let j = spans_point a u v m in omega arith) tt points p q l in
      let e = total_every point_numbers points in
      omega arith

  module _ (caps : Caps) (v : Version) where
    spans_fits : (cap : ℕ) (b : Bool) (a : Fits) → Spans (length (fit_numbers a)) (FitsLaid xs cap b a)
    spans_fits cap true unfitted p q l = omega (arith, l.0.ends)
    spans_fits cap true (fitted points start end) p q l =
        let m = l.1 in
        let i = spans_points points m.1.0 m.0 m.1.2 in
        let j = spans_point start m.0 m.2.0 m.2.1 in
        let k = spans_point end m.2.0 q m.2.2 in
        let e = length-append (every point_numbers points) (point_numbers start ++ point_numbers end) in
        omega (arith, i, j, k, e, m.1.1.0.ends)
    spans_fits cap false unfitted p q l = omega (arith, l)
    spans_fits cap false (fitted points start end) p q l = absurd l

    spans_spline : (a : Spline) → Spans (length (edge_numbers (spline a))) (SplineLaid xs caps v a)
    spans_spline a p q l =
        let counts = l.2.2.2 in
        let lists = counts.2.2 in
        let knots = spans_each (λ (n : ℕ). 1) (λ (s : Unit {0}). Coded xs BD) (λ s n. s)
        (λ s n u w m. let j = takes_BD xs n u w m in omega arith) tt a.knots counts.2.0 lists.0 lists.1 in
        let controls = spans_each (λ (b : Vertex). length (vertex_numbers a.rational b)) (λ (s : Unit {0}). VertexLaid xs a.rational) (λ s b. s)
        (λ s b. spans_vertex a.rational b) tt a.control_points lists.0 lists.2.0 lists.2.1 in
        let fits = spans_fits caps.fit_points (leb 5 (release_number v)) a.fits lists.2.0 q lists.2.2 in
        let e = total_ones a.knots in
        let f = total_every (vertex_numbers a.rational) a.control_points in
        let g = length-append a.knots (every (vertex_numbers a.rational) a.control_points ++ fit_numbers a.fits) in
        let h = length-append (every (vertex_numbers a.rational) a.control_points) (fit_numbers a.fits) in
        omega (arith, knots, controls, fits, e, f, g, h, l.1.ends, l.2.1.ends, l.2.2.1.ends, counts.1.0.ends, counts.2.1.0.ends)

    spans_edge : (a : Edge) → Spans (length (edge_words a) + length (edge_numbers a)) (EdgeLaid xs caps v a)
    spans_edge (line start end) p q l =
        let i = takes_RC xs 1 p l.0 l.1 in
        let j = spans_point start l.0 l.2.0 l.2.1 in
        let k = spans_point end l.2.0 q l.2.2 in
        omega arith
    spans_edge (arc a) p q l =
        let i = takes_RC xs 2 p l.0 l.1 in
        let j = spans_arc a l.0 q l.2 in
        omega arith
    spans_edge (ellipse a) p q l =
        let i = takes_RC xs 3 p l.0 l.1 in
        let j = spans_ellipse a l.0 q l.2 in
        omega arith
    spans_edge (spline a) p q l =
        let i = takes_RC xs 4 p l.0 l.1 in
        let j = spans_spline a l.0 q l.2 in
        omega arith

    spans_segments : (b : Bool) (a : Segments) → Spans (length (segment_words a) + length (segment_numbers a)) (SegmentsLaid xs caps v b a)
    spans_segments true (polyline bulge closed vertices) p q l =
        let count = l.2.2.1 in
        let i = takes_BL xs (length vertices) l.2.0 l.2.2.0 count.0 in
        let j = spans_each (λ (a : Vertex). length (vertex_numbers bulge a)) (λ (s : Unit {0}). VertexLaid xs bulge) (λ s a. s)
        (λ s a. spans_vertex bulge a) tt vertices l.2.2.0 q l.2.2.2 in
        let e = total_every (vertex_numbers bulge) vertices in
        let b₁ = spans_bit bulge p l.0 l.1 in
        let b₂ = spans_bit closed l.0 l.2.0 l.2.1 in
        omega arith
    spans_segments false (edges es) p q l =
        let i = takes_BL xs (length es) p l.0 l.1.0 in
        let j = spans_each (λ (a : Edge). length (edge_words a) + length (edge_numbers a)) (λ (s : Unit {0}). EdgeLaid xs caps v) (λ s a. s)
        (λ s a. spans_edge a) tt es l.0 q l.2 in
        let e = total_both edge_words edge_numbers es in
        omega arith
    spans_segments true (edges es) p q l = absurd l
    spans_segments false (polyline bulge closed vertices) p q l = absurd l

    spans_handles : (cap : ℕ) (handles : Handles) (sum n : ℕ) → Spans 2 (HandlesLaid xs cap handles sum n)
    spans_handles cap in_payload sum n p q l = takes_BL xs n p q l.0.0
    spans_handles cap (in_stream number) sum n p q l = takes_BL xs n p q l.0.0

    spans_path : (handles : Handles) (sum : ℕ) (a : Path) → Spans (length (path_words a) + length (path_numbers a)) (PathLaid xs caps handles v sum a)
    spans_path handles sum a p q l =
        let i = takes_BL xs a.flags p l.0 l.1 in
        let j = spans_segments (polylined a.flags) a.segments l.0 l.2.0 l.2.1 in
        let k = spans_handles caps.boundary_handles handles sum a.boundary_handles l.2.0 q l.2.2 in
        let e = length-append (segment_words a.segments) (a.boundary_handles ∷ []) in
        omega arith

  spans_line : (cap : ℕ) (a : PatternLine) → Spans (length (line_words a) + length (line_numbers a)) (LineLaid xs cap a)
  spans_line cap a p q l =
      let m = l.2.2.2.2 in
      let i₁ = takes_BD xs a.angle p l.0 l.1 in
      let i₂ = takes_BD xs a.origin.x l.0 l.2.0 l.2.1 in
      let i₃ = takes_BD xs a.origin.y l.2.0 l.2.2.0 l.2.2.1 in
      let i₄ = takes_BD xs a.offset.x l.2.2.0 l.2.2.2.0 l.2.2.2.1 in
      let i₅ = takes_BD xs a.offset.y l.2.2.2.0 m.0 m.1 in
      let j = takes_BS xs (length a.dashes) m.0 m.2.0 m.2.1.0 in
      let k = spans_each (λ (n : ℕ). 1) (λ (s : Unit {0}). Coded xs BD) (λ s n. s)
      (λ s n u w h. let t = takes_BD xs n u w h in omega arith) tt a.dashes m.2.0 q m.2.2 in
      let e = total_ones a.dashes in
      omega arith

  spans_pattern : (caps : Caps) (b : Bool) (a : Pattern)
      → Spans (length (every line_words a.lines) + length (every line_numbers a.lines)) (PatternLaid xs caps b a)
  spans_pattern caps true a p q l = rw l.0 (omega (arith, l.1))
  spans_pattern caps false a p q l =
      let m = l.2.2 in
      let j = spans_each (λ (b : PatternLine). length (line_words b) + length (line_numbers b)) (λ (s : Unit {0}). LineLaid xs caps.dashes) (λ s b. s)
      (λ s b. spans_line caps.dashes b) tt a.lines m.2.0 q m.2.2 in
      let e = total_both line_words line_numbers a.lines in
      omega (arith, j, e, l.1.ends, l.2.1.ends, m.1.ends, m.2.1.0.ends)

  -- ---- a rest: each word and each number has a bit of its own
  pub spans_rest : (caps : Caps) (handles : Handles) (v : Version) (a : Rest) → Spans (length (words a) + length (numbers a)) (RestLaid xs caps handles v a)
  spans_rest caps handles v a p q l =
      let paths = l.2.2.1 in
      let tail = l.2.2.2 in
      let pattern = tail.2.2 in
      let ending = pattern.2 in
      let i = spans_each (λ (b : Path). length (path_words b) + length (path_numbers b)) (PathLaid xs caps handles v) add_handles
      (λ s b. spans_path caps v handles s b)
      0 a.paths paths.0 l.2.2.0 paths.2 in
      let e = total_both path_words path_numbers a.paths in
      let j = spans_pattern caps a.solid a.tail.pattern tail.2.0 pattern.0 pattern.1 in
      let k = spans_points a.tail.ending.seed_points ending.2.0 q ending.2.2 in
      let f = length-append (every path_words a.paths) (every line_words a.tail.pattern.lines) in
      let lines = every line_numbers a.tail.pattern.lines in
      let seeds = every point_numbers a.tail.ending.seed_points in
      let g = length-append (every path_numbers a.paths) (lines ++ seeds) in
      let h = length-append lines seeds in
      omega (arith, i, e, j, k, f, g, h, l.1.ends, l.2.1.ends, paths.1.0.ends, tail.1.ends, tail.2.1.ends, ending.1.ends, ending.2.1.0.ends)
