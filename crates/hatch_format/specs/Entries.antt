-- What goes to the two lent lists, in reading order: words (flags, switches, kinds and counts) and numbers (all other doubles of paths,
-- lines and seeds, as their 64 bits). Absent bulges, weights and tangents have no entry. Assumes nothing.
use Rattle.std.specs.Prelude.{Bool, true, false, List, [], ◌∷◌, ◌++◌, ℕ, length}
use Rattle.std.specs.List.{flat_map}
use Rattle.loads.specs.Bits.{bit}
use Rattle.hatch_format.specs.Values.{Point, Vertex, Fits, unfitted, fitted, PatternLine, Rest}
use Rattle.hatch_format.specs.Values.{Edge, line, arc, ellipse, spline, Segments, polyline, edges, Path}

-- what each of the list has, one behind the other
abbrev pub every : {A : Type 0} → (A → List ℕ) → List A → List ℕ
every = flat_map

-- ---- words
abbrev pub fit_count : Fits → ℕ
fit_count unfitted = 0
fit_count (fitted points start end) = length points

abbrev pub edge_words : Edge → List ℕ
edge_words (line start end) = 1 ∷ []
edge_words (arc a) = 2 ∷ (bit a.counter_clockwise ∷ [])
edge_words (ellipse a) = 3 ∷ (bit a.counter_clockwise ∷ [])
edge_words (spline a) =
    4 ∷ (a.degree ∷ (bit a.rational ∷ (bit a.periodic ∷ (length a.knots ∷ (length a.control_points ∷ (fit_count a.fits ∷ []))))))

abbrev pub segment_words : Segments → List ℕ
segment_words (polyline bulge closed vertices) = bit bulge ∷ (bit closed ∷ (length vertices ∷ []))
segment_words (edges es) = length es ∷ every edge_words es

abbrev pub path_words : Path → List ℕ
path_words a = a.flags ∷ (segment_words a.segments ++ (a.boundary_handles ∷ []))

abbrev pub line_words : PatternLine → List ℕ
line_words a = length a.dashes ∷ []

-- each path's, then each pattern line's
abbrev pub words : Rest → List ℕ
words a = every path_words a.paths ++ every line_words a.tail.pattern.lines

-- ---- numbers
abbrev pub point_numbers : Point → List ℕ
point_numbers a = a.x ∷ (a.y ∷ [])

abbrev pub vertex_numbers : Bool → Vertex → List ℕ
vertex_numbers true a = a.point.x ∷ (a.point.y ∷ (a.extra ∷ []))
vertex_numbers false a = point_numbers a.point

abbrev pub fit_numbers : Fits → List ℕ
fit_numbers unfitted = []
fit_numbers (fitted points start end) = every point_numbers points ++ (point_numbers start ++ point_numbers end)

abbrev pub edge_numbers : Edge → List ℕ
edge_numbers (line start end) = point_numbers start ++ point_numbers end
edge_numbers (arc a) = point_numbers a.center ++ (a.radius ∷ (a.start_angle ∷ (a.end_angle ∷ [])))
edge_numbers (ellipse a) =
    point_numbers a.center ++ (point_numbers a.endpoint ++ (a.axis_ratio ∷ (a.start_angle ∷ (a.end_angle ∷ []))))
edge_numbers (spline a) = a.knots ++ (every (vertex_numbers a.rational) a.control_points ++ fit_numbers a.fits)

abbrev pub segment_numbers : Segments → List ℕ
segment_numbers (polyline bulge closed vertices) = every (vertex_numbers bulge) vertices
segment_numbers (edges es) = every edge_numbers es

abbrev pub path_numbers : Path → List ℕ
path_numbers a = segment_numbers a.segments

abbrev pub line_numbers : PatternLine → List ℕ
line_numbers a = a.angle ∷ (point_numbers a.origin ++ (point_numbers a.offset ++ a.dashes))

-- each path's, then each pattern line's, then the seeds: so the seed points are the last part
abbrev pub numbers : Rest → List ℕ
numbers a = every path_numbers a.paths ++ (every line_numbers a.tail.pattern.lines ++ every point_numbers a.tail.ending.seed_points)
