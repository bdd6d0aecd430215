-- Which of the numbers that lists hold are coordinates: points of the plane are, directions and sizes are not. In the order of specs/Entries of
-- hatch_format. Assumes nothing.
use Rattle.std.specs.Prelude.{Bool, true, false, List, [], ◌∷◌, ◌++◌, ℕ, zero, suc, ◌-◌, length, replicate}
use Rattle.hatch_format.specs.Values.{Point, Vertex, Fits, unfitted, fitted, Edge, line, arc, ellipse, spline, Segments, polyline, edges, Path, PatternLine}
use Rattle.hatch_lists.specs.declared.Item.{Item}
use Rattle.hatch_lists.specs.Holding.{Holding}
use Rattle.hatch_lists.specs.Items.{gathered}

-- the x of a point, the y of a point, or no coordinate
pub data Role : Type 0 where
  x y other : Role

abbrev pub others : ℕ → List Role
others n = replicate n other

abbrev pub point_roles : Point → List Role
point_roles a = x ∷ (y ∷ [])

-- a bulge or a weight is no coordinate
abbrev pub vertex_roles : Bool → Vertex → List Role
vertex_roles true a = x ∷ (y ∷ (other ∷ []))
vertex_roles false a = x ∷ (y ∷ [])

-- tangents are directions
abbrev pub fit_roles : Fits → List Role
fit_roles unfitted = []
fit_roles (fitted points start end) = gathered point_roles points ++ others 4

-- a line's two ends; an arc's centre, not radius and angles; an ellipse's centre, not its endpoint, which is a direction, nor ratio and angles;
-- control points, not knots, and fit points
abbrev pub edge_roles : Edge → List Role
edge_roles (line start end) = point_roles start ++ point_roles end
edge_roles (arc a) = point_roles a.center ++ others 3
edge_roles (ellipse a) = point_roles a.center ++ others 5
edge_roles (spline a) = others (length a.knots) ++ (gathered (vertex_roles a.rational) a.control_points ++ fit_roles a.fits)

abbrev pub segment_roles : Segments → List Role
segment_roles (polyline bulge closed vertices) = gathered (vertex_roles bulge) vertices
segment_roles (edges es) = gathered edge_roles es

abbrev pub path_roles : Path → List Role
path_roles a = segment_roles a.segments

-- the origin, not angle, offset and dashes
abbrev pub line_roles : PatternLine → List Role
line_roles a = other ∷ (point_roles a.origin ++ (others 2 ++ others (length a.dashes)))

abbrev pub held_roles : Holding → List Role
held_roles a = gathered path_roles a.paths ++ (gathered line_roles a.lines ++ gathered point_roles a.seeds)

-- ---- the same of an item: points with so many numbers from each to the next
abbrev pub point_run : ℕ → ℕ → List Role
point_run stride zero = []
point_run stride (suc n) = x ∷ (y ∷ (others (stride - 2) ++ point_run stride n))

abbrev pub item_roles : Item → List Role
item_roles i = others i.before ++ (point_run i.stride i.points ++ (point_run 2 i.fit_points ++ others i.behind))
