-- The numbers of a hatch that are coordinates, by its values and by its items: both say the same, and each number has one role. Assumes nothing.
use Rattle.std.specs.Prelude.{◌≡◌, refl, Bool, true, false, List, [], ◌∷◌, ◌++◌, ℕ, zero, suc, ◌*◌, ◌≤◌, length}
use Rattle.std.proofs.Common.{sym, ap, ap₂, ◌∙◌, append_assoc, append-nil, suc-mul, arith, length-append}
use Rattle.std.proofs.lemmas.List.{length-replicate, replicate-append-replicate}
use Rattle.std.proofs.lemmas.Grind.{flat_map-append}
use Rattle.hatch_format.specs.declared.Caps.{Caps}
use Rattle.hatch_format.specs.Values.{Point, Vertex, Fits, unfitted, fitted, Edge, line, arc, ellipse, spline, Segments, polyline, edges}
use Rattle.hatch_format.specs.Values.{Path, polylined, PatternLine}
use Rattle.hatch_format.specs.Entries.{every, point_numbers, vertex_numbers, fit_count, fit_numbers, edge_numbers, segment_numbers, path_numbers, line_numbers}
use Rattle.hatch_lists.specs.declared.Item.{Item}
use Rattle.hatch_lists.specs.Within.{All, FitsWithin, EdgeWithin, SegmentsWithin, PathWithin}
use Rattle.hatch_lists.specs.Holding.{Holding, HoldingWithin, held_numbers}
use Rattle.hatch_lists.specs.Items.{points_item, item_size, stride_of, tangent_numbers, edge_item, edge_items, segment_items, path_items, line_item}
use Rattle.hatch_lists.specs.Items.{gathered, held_items}
use Rattle.hatch_lists.specs.Coordinates.{x, y, other, others, point_roles, vertex_roles, fit_roles, edge_roles, segment_roles, path_roles, line_roles}
use Rattle.hatch_lists.specs.Coordinates.{held_roles, point_run, item_roles}

-- ---- lists
pub gathered_append : {A B : Type 0} (f : A → List B) (l m : List A) → gathered f (l ++ m) ≡ gathered f l ++ gathered f m
gathered_append = flat_map-append

-- where f of all that an item has by g is what it has by h, the same holds of the list
pub gathered_by : {A B C : Type 0} (f : B → List C) (g : A → List B) (h : A → List C) (P : A → Type 0) → ((a : A) → P a → gathered f (g a) ≡ h a)
    → (l : List A) → All P l → gathered f (gathered g l) ≡ gathered h l
gathered_by f g h P same [] w = refl
gathered_by f g h P same (a ∷ l) w =
    gathered_append f (g a) (gathered g l) ∙ ap₂ (λ r s. r ++ s) (same a w.0) (gathered_by f g h P same l w.1)

pub gathered_long : {A B : Type 0} (f : A → List B) (g : A → List ℕ) → ((a : A) → length (f a) ≡ length (g a))
    → (l : List A) → length (gathered f l) ≡ length (every g l)
gathered_long f g same [] = refl
gathered_long f g same (a ∷ l) = simp (length-append, same a, gathered_long f g same l)

-- ---- points
run_of_points : (points : List Point) → point_run 2 (length points) ≡ gathered point_roles points
run_of_points [] = refl
run_of_points (a ∷ points) = ap (λ r. x ∷ (y ∷ r)) (run_of_points points)

run_of_vertices : (more : Bool) (vertices : List Vertex) → point_run (stride_of more) (length vertices) ≡ gathered (vertex_roles more) vertices
run_of_vertices true [] = refl
run_of_vertices true (a ∷ vertices) = ap (λ r. x ∷ (y ∷ (other ∷ r))) (run_of_vertices true vertices)
run_of_vertices false [] = refl
run_of_vertices false (a ∷ vertices) = ap (λ r. x ∷ (y ∷ r)) (run_of_vertices false vertices)

roles_of_points : (points : List Point) → item_roles (points_item (length points)) ≡ gathered point_roles points
roles_of_points points = append-nil (point_run 2 (length points)) ∙ run_of_points points

-- ---- the roles of items are those of the values
module _ (caps : Caps) where
  roles_of_fits : (a : Fits) → FitsWithin caps.fit_points a → point_run 2 (fit_count a) ++ others (tangent_numbers (fit_count a)) ≡ fit_roles a
  roles_of_fits unfitted w = refl
  roles_of_fits (fitted [] start end) w = absurd (omega (arith, w.0))
  roles_of_fits (fitted (a ∷ points) start end) w = ap (λ r. r ++ others 4) (run_of_points (a ∷ points))

  pub roles_of_edge : (a : Edge) → EdgeWithin caps a → item_roles (edge_item a) ≡ edge_roles a
  roles_of_edge (line start end) w = refl
  roles_of_edge (arc a) w = refl
  roles_of_edge (ellipse a) w = refl
  roles_of_edge (spline a) w =
      ap₂ (λ r s. others (length a.knots) ++ (r ++ s)) (run_of_vertices a.rational a.control_points) (roles_of_fits a.fits w.fits)

  roles_of_edges : (es : List Edge) → All (EdgeWithin caps) es → gathered item_roles (edge_items es) ≡ gathered edge_roles es
  roles_of_edges [] w = refl
  roles_of_edges (a ∷ es) w = ap₂ (λ r s. r ++ s) (roles_of_edge a w.0) (roles_of_edges es w.1)

  roles_of_segments : (b : Bool) (a : Segments) → SegmentsWithin caps b a → gathered item_roles (segment_items a) ≡ segment_roles a
  roles_of_segments true (polyline bulge closed vertices) w =
      let run = point_run (stride_of bulge) (length vertices) in
      append-nil (run ++ []) ∙ append-nil run ∙ run_of_vertices bulge vertices
  roles_of_segments false (edges es) w = roles_of_edges es w.1
  roles_of_segments true (edges es) w = absurd w
  roles_of_segments false (polyline bulge closed vertices) w = absurd w

  pub roles_of_path : (a : Path) → PathWithin caps a → gathered item_roles (path_items a) ≡ path_roles a
  roles_of_path a w = roles_of_segments (polylined a.flags) a.segments w.segments

pub roles_of_line : (a : PatternLine) → item_roles (line_item a) ≡ line_roles a
roles_of_line a = ap (λ r. other ∷ (x ∷ (y ∷ r))) (sym (replicate-append-replicate 2 (length a.dashes) other))

roles_of_lines : (lines : List PatternLine) → gathered item_roles (gathered (λ b. line_item b ∷ []) lines) ≡ gathered line_roles lines
roles_of_lines [] = refl
roles_of_lines (a ∷ lines) = ap₂ (λ r s. r ++ s) (roles_of_line a) (roles_of_lines lines)

-- the items of paths and pattern lines, then the seeds
pub roles_of_items : (caps : Caps) (a : Holding) → HoldingWithin caps a
    → held_roles a ≡ gathered item_roles (held_items a) ++ item_roles (points_item (length a.seeds))
roles_of_items caps a w =
    let paths = gathered path_roles a.paths in
    let lines = gathered line_roles a.lines in
    let of_paths = gathered_by item_roles path_items path_roles (PathWithin caps) (roles_of_path caps) a.paths w.paths in
    let items : gathered item_roles (held_items a) ≡ paths ++ lines =
    gathered_append item_roles (gathered path_items a.paths) (gathered (λ b. line_item b ∷ []) a.lines)
    ∙ ap₂ (λ r s. r ++ s) of_paths (roles_of_lines a.lines) in
    sym (ap₂ (λ r s. r ++ s) items (roles_of_points a.seeds) ∙ append_assoc paths lines (gathered point_roles a.seeds))

-- ---- each number has a role
pub points_long : (points : List Point) → length (gathered point_roles points) ≡ length (every point_numbers points)
points_long = gathered_long point_roles point_numbers (λ a. refl)

pub vertices_long : (more : Bool) (vertices : List Vertex) → length (gathered (vertex_roles more) vertices) ≡ length (every (vertex_numbers more) vertices)
vertices_long true = gathered_long (vertex_roles true) (vertex_numbers true) (λ a. refl)
vertices_long false = gathered_long (vertex_roles false) (vertex_numbers false) (λ a. refl)

pub fits_long : (a : Fits) → length (fit_roles a) ≡ length (fit_numbers a)
fits_long unfitted = refl
fits_long (fitted points start end) = simp (length-append, points_long)

pub edge_long : (a : Edge) → length (edge_roles a) ≡ length (edge_numbers a)
edge_long (line start end) = refl
edge_long (arc a) = refl
edge_long (ellipse a) = refl
edge_long (spline a) = simp (length-append, length-replicate, vertices_long, fits_long)

pub segments_long : (a : Segments) → length (segment_roles a) ≡ length (segment_numbers a)
segments_long (polyline bulge closed vertices) = vertices_long bulge vertices
segments_long (edges es) = gathered_long edge_roles edge_numbers edge_long es

pub path_long : (a : Path) → length (path_roles a) ≡ length (path_numbers a)
path_long a = segments_long a.segments

pub line_long : (a : PatternLine) → length (line_roles a) ≡ length (line_numbers a)
line_long a = ap (λ n. suc (suc (suc (suc (suc n))))) (length-replicate (length a.dashes) other)

pub roles_long : (a : Holding) → length (held_roles a) ≡ length (held_numbers a)
roles_long a = simp (length-append, gathered_long path_roles path_numbers path_long, gathered_long line_roles line_numbers line_long, points_long)

-- ---- as many roles as an item has numbers
pub run_long : (stride n : ℕ) → 2 ≤ stride → length (point_run stride n) ≡ n * stride
run_long stride zero h = omega arith
run_long stride (suc n) h = simp (length-append, length-replicate, run_long stride n h, suc-mul) (omega arith)

pub item_size_lem : (i : Item) → 2 ≤ i.stride → length (item_roles i) ≡ item_size i
item_size_lem i h = simp (length-append, length-replicate, run_long i.stride i.points h, run_long 2 i.fit_points (omega arith))
