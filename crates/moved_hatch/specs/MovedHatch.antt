-- The moved hatch as values: vertices, line ends, centres, control points, fit points, origins of pattern lines and seeds are moved, and all else is as it
-- was. Its words are the same, its numbers are the moved numbers, and it is whole where the hatch was. Assumes nothing.
use Rattle.std.specs.Prelude.{◌≡◌, refl, Bool, true, false, List, [], ◌∷◌, ◌++◌, map, ℕ, length, drop}
use Rattle.std.proofs.Common.{sym, ap, ap₂, subst, ◌∙◌, le_of_eq, length-take-le}
use Rattle.std.proofs.lemmas.List.{length-map, length-replicate}
use Rattle.hatch_format.specs.declared.Caps.{Caps}
use Rattle.hatch_format.specs.Caps.{document_caps}
use Rattle.hatch_format.specs.Values.{Point, Vertex, Fits, unfitted, fitted, Edge, line, arc, ellipse, spline, Segments, polyline, edges, Path, polylined}
use Rattle.hatch_format.specs.Values.{PatternLine}
use Rattle.hatch_format.specs.Entries.{every, edge_words, segment_words, path_words, line_words, point_numbers, vertex_numbers, fit_count, fit_numbers, edge_numbers}
use Rattle.hatch_format.specs.Entries.{segment_numbers, path_numbers, line_numbers}
use Rattle.hatch_lists.specs.declared.HatchCounts.{HatchCounts}
use Rattle.hatch_lists.specs.Within.{All, VertexWithin, FitsWithin, EdgeWithin, SegmentsWithin, PathWithin, LineWithin}
use Rattle.hatch_lists.specs.Holding.{Holding, held_words, held_numbers, HoldingWithin}
use Rattle.hatch_lists.specs.Whole.{Whole, Fitting}
use Rattle.hatch_lists.specs.Items.{gathered}
use Rattle.hatch_lists.specs.Coordinates.{Role, other, others, point_roles, vertex_roles, fit_roles, edge_roles, segment_roles, path_roles, line_roles, held_roles}
use Rattle.hatch_lists.proofs.CoordinateLaws.{gathered_long, points_long, vertices_long, edge_long, path_long, line_long, roles_long}
use Rattle.moved_hatch.specs.Moving.{moved}
use Rattle.moved_hatch.specs.MovedLists.{moved_length, moved_append, moved_others, moved_take, moved_past}

module _ (difference : ℕ → ℕ → ℕ) (x₀ y₀ : ℕ) where
  abbrev pub moved_point : Point → Point
  moved_point a = record { x = difference a.x x₀; y = difference a.y y₀ }

  -- not the bulge or the weight
  abbrev pub moved_vertex : Vertex → Vertex
  moved_vertex a = record { point = moved_point a.point; extra = a.extra }

  -- not the tangents
  abbrev pub moved_fits : Fits → Fits
  moved_fits unfitted = unfitted
  moved_fits (fitted points start end) = fitted (map moved_point points) start end

  -- a line's two ends; a centre, not radius, ratio and angles, nor an ellipse's endpoint; control points, not knots, and fit points
  abbrev pub moved_edge : Edge → Edge
  moved_edge (line start end) = line (moved_point start) (moved_point end)
  moved_edge (arc a) =
      arc (record {
        center = moved_point a.center;
        radius = a.radius;
        start_angle = a.start_angle;
        end_angle = a.end_angle;
        counter_clockwise = a.counter_clockwise;
      })
  moved_edge (ellipse a) =
      ellipse (record {
        center = moved_point a.center;
        endpoint = a.endpoint;
        axis_ratio = a.axis_ratio;
        start_angle = a.start_angle;
        end_angle = a.end_angle;
        counter_clockwise = a.counter_clockwise;
      })
  moved_edge (spline a) =
      spline (record {
        degree = a.degree;
        rational = a.rational;
        periodic = a.periodic;
        knots = a.knots;
        control_points = map moved_vertex a.control_points;
        fits = moved_fits a.fits;
      })

  abbrev pub moved_segments : Segments → Segments
  moved_segments (polyline bulge closed vertices) = polyline bulge closed (map moved_vertex vertices)
  moved_segments (edges es) = edges (map moved_edge es)

  abbrev pub moved_path : Path → Path
  moved_path a = record { flags = a.flags; segments = moved_segments a.segments; boundary_handles = a.boundary_handles }

  -- the origin, not angle, offset and dashes
  abbrev pub moved_line : PatternLine → PatternLine
  moved_line a = record { angle = a.angle; origin = moved_point a.origin; offset = a.offset; dashes = a.dashes }

  abbrev pub moved_holding : Holding → Holding
  moved_holding a = record { paths = map moved_path a.paths; lines = map moved_line a.lines; seeds = map moved_point a.seeds }

  -- ---- the same words
  every_same : {A : Type 0} (f : A → A) (ws : A → List ℕ) → ((a : A) → ws (f a) ≡ ws a) → (l : List A) → every ws (map f l) ≡ every ws l
  every_same f ws same [] = refl
  every_same f ws same (a ∷ l) = ap₂ (λ v w. v ++ w) (same a) (every_same f ws same l)

  words_of_fits : (a : Fits) → fit_count (moved_fits a) ≡ fit_count a
  words_of_fits unfitted = refl
  words_of_fits (fitted points start end) = length-map points moved_point

  words_of_edge : (a : Edge) → edge_words (moved_edge a) ≡ edge_words a
  words_of_edge (line start end) = refl
  words_of_edge (arc a) = refl
  words_of_edge (ellipse a) = refl
  words_of_edge (spline a) = rw (length-map a.control_points moved_vertex, words_of_fits a.fits)

  words_of_segments : (a : Segments) → segment_words (moved_segments a) ≡ segment_words a
  words_of_segments (polyline bulge closed vertices) = rw (length-map vertices moved_vertex)
  words_of_segments (edges es) = ap₂ (λ n ws. n ∷ ws) (length-map es moved_edge) (every_same moved_edge edge_words words_of_edge es)

  words_of_path : (a : Path) → path_words (moved_path a) ≡ path_words a
  words_of_path a = ap (λ ws. a.flags ∷ (ws ++ (a.boundary_handles ∷ []))) (words_of_segments a.segments)

  pub moved_words : (a : Holding) → held_words (moved_holding a) ≡ held_words a
  moved_words a =
      ap₂ (λ v w. v ++ w) (every_same moved_path path_words words_of_path a.paths) (every_same moved_line line_words (λ b. refl) a.lines)

  -- ---- the moved numbers
  abbrev moved_numbers : List Role → List ℕ → List ℕ
  moved_numbers rs ns = moved difference x₀ y₀ rs ns

  -- those of parts one behind the other
  join : (rs ss : List Role) (l m : List ℕ) {k n : List ℕ} → length rs ≡ length l → k ≡ moved_numbers rs l → n ≡ moved_numbers ss m
      → k ++ n ≡ moved_numbers (rs ++ ss) (l ++ m)
  join rs ss l m long e f = ap₂ (λ i j. i ++ j) e f ∙ sym (moved_append difference x₀ y₀ rs ss l m long)

  every_moved : {A : Type 0} (f : A → A) (roles : A → List Role) (ns : A → List ℕ) → ((a : A) → length (roles a) ≡ length (ns a))
      → ((a : A) → ns (f a) ≡ moved_numbers (roles a) (ns a)) → (l : List A) → every ns (map f l) ≡ moved_numbers (gathered roles l) (every ns l)
  every_moved f roles ns long same [] = refl
  every_moved f roles ns long same (a ∷ l) = join (roles a) (gathered roles l) (ns a) (every ns l) (long a) (same a) (every_moved f roles ns long same l)

  numbers_of_points : (points : List Point) → every point_numbers (map moved_point points)
      ≡ moved_numbers (gathered point_roles points) (every point_numbers points)
  numbers_of_points = every_moved moved_point point_roles point_numbers (λ a. refl) (λ a. refl)

  numbers_of_vertices : (more : Bool) (vertices : List Vertex)
      → every (vertex_numbers more) (map moved_vertex vertices) ≡ moved_numbers (gathered (vertex_roles more) vertices) (every (vertex_numbers more) vertices)
  numbers_of_vertices true = every_moved moved_vertex (vertex_roles true) (vertex_numbers true) (λ a. refl) (λ a. refl)
  numbers_of_vertices false = every_moved moved_vertex (vertex_roles false) (vertex_numbers false) (λ a. refl) (λ a. refl)

  numbers_of_fits : (a : Fits) → fit_numbers (moved_fits a) ≡ moved_numbers (fit_roles a) (fit_numbers a)
  numbers_of_fits unfitted = refl
  numbers_of_fits (fitted points start end) =
      join (gathered point_roles points) (others 4) (every point_numbers points) (point_numbers start ++ point_numbers end)
      (points_long points) (numbers_of_points points) refl

  numbers_of_edge : (a : Edge) → edge_numbers (moved_edge a) ≡ moved_numbers (edge_roles a) (edge_numbers a)
  numbers_of_edge (line start end) = refl
  numbers_of_edge (arc a) = refl
  numbers_of_edge (ellipse a) = refl
  numbers_of_edge (spline a) =
      let knots = others (length a.knots) in
      let controls = gathered (vertex_roles a.rational) a.control_points in
      let weighted = every (vertex_numbers a.rational) a.control_points in
      join knots (controls ++ fit_roles a.fits) a.knots (weighted ++ fit_numbers a.fits)
      (length-replicate (length a.knots) other) (sym (moved_others difference x₀ y₀ (length a.knots) a.knots))
      (join controls (fit_roles a.fits) weighted (fit_numbers a.fits)
      (vertices_long a.rational a.control_points) (numbers_of_vertices a.rational a.control_points) (numbers_of_fits a.fits))

  numbers_of_segments : (a : Segments) → segment_numbers (moved_segments a) ≡ moved_numbers (segment_roles a) (segment_numbers a)
  numbers_of_segments (polyline bulge closed vertices) = numbers_of_vertices bulge vertices
  numbers_of_segments (edges es) = every_moved moved_edge edge_roles edge_numbers edge_long numbers_of_edge es

  numbers_of_line : (a : PatternLine) → line_numbers (moved_line a) ≡ moved_numbers (line_roles a) (line_numbers a)
  numbers_of_line a =
      let o = moved_point a.origin in
      ap (λ l. a.angle ∷ (o.x ∷ (o.y ∷ (a.offset.x ∷ (a.offset.y ∷ l)))))
      (sym (moved_others difference x₀ y₀ (length a.dashes) a.dashes))

  pub moved_numbers_lem : (a : Holding) → held_numbers (moved_holding a) ≡ moved difference x₀ y₀ (held_roles a) (held_numbers a)
  moved_numbers_lem a =
      let paths = gathered path_roles a.paths in
      let lines = gathered line_roles a.lines in
      let seeds = gathered point_roles a.seeds in
      let of_paths = every path_numbers a.paths in
      let of_lines = every line_numbers a.lines in
      let of_seeds = every point_numbers a.seeds in
      join paths (lines ++ seeds) of_paths (of_lines ++ of_seeds)
      (gathered_long path_roles path_numbers path_long a.paths)
      (every_moved moved_path path_roles path_numbers path_long (λ b. numbers_of_segments b.segments) a.paths)
      (join lines seeds of_lines of_seeds
      (gathered_long line_roles line_numbers line_long a.lines)
      (every_moved moved_line line_roles line_numbers line_long numbers_of_line a.lines) (numbers_of_points a.seeds))

  -- ---- what lists may hold
  every_within : {A : Type 0} (f : A → A) (P : A → Type 0) → ((a : A) → P a → P (f a)) → (l : List A) → All P l → All P (map f l)
  every_within f P keeps [] w = tt
  every_within f P keeps (a ∷ l) w = (keeps a w.0, every_within f P keeps l w.1)

  module _ (caps : Caps) where
    within_vertices : (more : Bool) (vertices : List Vertex) → All (VertexWithin more) vertices → All (VertexWithin more) (map moved_vertex vertices)
    within_vertices true = every_within moved_vertex (VertexWithin true) (λ a w. tt)
    within_vertices false = every_within moved_vertex (VertexWithin false) (λ a w. w)

    within_fits : (cap : ℕ) (a : Fits) → FitsWithin cap a → FitsWithin cap (moved_fits a)
    within_fits cap unfitted w = tt
    within_fits cap (fitted points start end) w = rw (length-map points moved_point) w

    within_edge : (a : Edge) → EdgeWithin caps a → EdgeWithin caps (moved_edge a)
    within_edge (line start end) w = tt
    within_edge (arc a) w = tt
    within_edge (ellipse a) w = tt
    within_edge (spline a) w =
        record {
          knots = w.knots;
          controls = rw (length-map a.control_points moved_vertex) w.controls;
          weights = within_vertices a.rational a.control_points w.weights;
          fits = within_fits caps.fit_points a.fits w.fits;
        }

    within_segments : (b : Bool) (a : Segments) → SegmentsWithin caps b a → SegmentsWithin caps b (moved_segments a)
    within_segments true (polyline bulge closed vertices) w = (rw (length-map vertices moved_vertex) w.0, within_vertices bulge vertices w.1)
    within_segments false (edges es) w = (rw (length-map es moved_edge) w.0, every_within moved_edge (EdgeWithin caps) within_edge es w.1)
    within_segments true (edges es) w = absurd w
    within_segments false (polyline bulge closed vertices) w = absurd w

    within_path : (a : Path) → PathWithin caps a → PathWithin caps (moved_path a)
    within_path a w = record { segments = within_segments (polylined a.flags) a.segments w.segments; handles = w.handles }

    pub moved_within : (a : Holding) → HoldingWithin caps a → HoldingWithin caps (moved_holding a)
    moved_within a w =
        record {
          paths = every_within moved_path (PathWithin caps) within_path a.paths w.paths;
          lines = every_within moved_line (LineWithin caps) (λ b v. v) a.lines w.lines;
        }

  -- ---- whole, with the same words
  pub moved_whole : (c : HatchCounts) (ws ns : List ℕ) (a : Holding) → Whole c ws ns a
      → Whole c ws (moved difference x₀ y₀ (held_roles a) ns) (moved_holding a)
  moved_whole c ws ns a w =
      record {
        fits = subst (Fitting c (length ws)) (sym (moved_length difference x₀ y₀ (held_roles a) ns)) w.fits;
        numbered =
            record {
              paths_are = length-map a.paths moved_path ∙ w.numbered.paths_are;
              lines_are = length-map a.lines moved_line ∙ w.numbered.lines_are;
              seeds_are = length-map a.seeds moved_point ∙ w.numbered.seeds_are;
            };
        within = moved_within document_caps a w.within;
        words = w.words ∙ sym (moved_words a);
        numbers =
            moved_take difference x₀ y₀ c.numbers_used (held_roles a) ns
            ∙ ap (moved_numbers (held_roles a)) w.numbers
            ∙ sym (moved_numbers_lem a);
      }

  -- entries past the length used stay
  pub moved_behind : (c : HatchCounts) (ws ns : List ℕ) (a : Holding) → Whole c ws ns a
      → drop c.numbers_used (moved difference x₀ y₀ (held_roles a) ns) ≡ drop c.numbers_used ns
  moved_behind c ws ns a w =
      let used = roles_long a ∙ ap length (sym w.numbers) ∙ length-take-le c.numbers_used ns w.fits.numbers_long in
      moved_past difference x₀ y₀ c.numbers_used (held_roles a) ns (le_of_eq used)
