-- Which paths and pattern lines a record's lists may hold: every count within its cap, and nothing that words and numbers would not say. Assumes nothing.
use Rattle.std.specs.Prelude.{◌≡◌, Bool, true, false, List, [], ◌∷◌, ℕ, ◌≤◌, ◌<◌, length}
use Rattle.hatch_format.specs.declared.Caps.{Caps}
use Rattle.hatch_format.specs.Values.{Vertex, Fits, unfitted, fitted, Spline, Edge, line, arc, ellipse, spline, Segments, polyline, edges}
use Rattle.hatch_format.specs.Values.{Path, polylined, PatternLine}

-- it holds of each of the list
abbrev pub All : {A : Type 0} → (A → Type 0) → List A → Type 0
All P [] = Unit {0}
All P (a ∷ items) = P a × All P items

-- where there are no bulges, or no weights, the value has 0 for each
abbrev pub VertexWithin : Bool → Vertex → Type 0
VertexWithin true a = Unit {0}
VertexWithin false a = a.extra ≡ 0

-- tangents stand beside one fit point at least
abbrev pub FitsWithin : ℕ → Fits → Type 0
FitsWithin cap unfitted = Unit {0}
FitsWithin cap (fitted points start end) = (0 < length points) × (length points ≤ cap)

module _ (caps : Caps) where
  pub record SplineWithin (a : Spline) : Type 0 where
    pub knots : length a.knots ≤ caps.knots
    pub controls : length a.control_points ≤ caps.control_points
    pub weights : All (VertexWithin a.rational) a.control_points
    pub fits : FitsWithin caps.fit_points a.fits

  abbrev pub EdgeWithin : Edge → Type 0
  EdgeWithin (line start end) = Unit {0}
  EdgeWithin (arc a) = Unit {0}
  EdgeWithin (ellipse a) = Unit {0}
  EdgeWithin (spline a) = SplineWithin a

  -- a polyline where the flags say so, else edges
  abbrev pub SegmentsWithin : Bool → Segments → Type 0
  SegmentsWithin true (polyline bulge closed vertices) = (length vertices ≤ caps.vertices) × All (VertexWithin bulge) vertices
  SegmentsWithin false (edges es) = (length es ≤ caps.edges) × All EdgeWithin es
  SegmentsWithin true (edges es) = ⊥
  SegmentsWithin false (polyline bulge closed vertices) = ⊥

  pub record PathWithin (a : Path) : Type 0 where
    pub segments : SegmentsWithin (polylined a.flags) a.segments
    pub handles : a.boundary_handles ≤ caps.boundary_handles

  abbrev pub LineWithin : PatternLine → Type 0
  LineWithin a = length a.dashes ≤ caps.dashes
