-- What a caller may alter in words and numbers without changing a count: the flags of a path but for the value that says polyline, whether a
-- polyline is closed, which way an arc or an ellipse turns, a spline's degree and whether it is periodic, and every number. What is altered so
-- has as many words and numbers and the same items, and lists with its entries are whole with the record as it was. Assumes nothing.
use Rattle.std.specs.Prelude.{◌≡◌, refl, Bool, true, false, List, [], ◌∷◌, ◌++◌, ℕ, suc, ◌+◌, length}
use Rattle.std.proofs.Common.{sym, ap, ap₂, subst, ◌∙◌, arith, length-append}
use Rattle.hatch_format.specs.declared.Caps.{Caps}
use Rattle.hatch_format.specs.Caps.{document_caps}
use Rattle.hatch_format.specs.Values.{Point, Vertex, Arc, Ellipse, Fits, unfitted, fitted, Spline, Edge, line, arc, ellipse, spline}
use Rattle.hatch_format.specs.Values.{Segments, polyline, edges, Path, polylined, PatternLine}
use Rattle.hatch_format.specs.Entries.{every, fit_count, point_numbers, vertex_numbers, fit_numbers, edge_words, edge_numbers, segment_words, segment_numbers}
use Rattle.hatch_format.specs.Entries.{path_words, path_numbers, line_words, line_numbers}
use Rattle.hatch_lists.specs.declared.HatchCounts.{HatchCounts}
use Rattle.hatch_lists.specs.declared.Item.{Item}
use Rattle.hatch_lists.specs.Within.{All, VertexWithin, FitsWithin, EdgeWithin, SegmentsWithin, PathWithin, LineWithin}
use Rattle.hatch_lists.specs.Holding.{Holding, held_words, held_numbers, HoldingWithin}
use Rattle.hatch_lists.specs.Items.{no_item, gathered, polyline_item, edge_item, edge_items, segment_items, path_items, dashed_item, line_item, held_items}
use Rattle.hatch_lists.specs.Whole.{Fitting, Whole}
use Rattle.hatch_lists.specs.WholeLaws.{Written, whole_written, entries_whole}

-- ---- the same counts: `a` as it was, `b` as it is now
-- two lists of one length, item by item
pub data Alongside {A : Type 0} (R : A → A → Type 0) : List A → List A → Type 0 where
  both_end : Alongside R [] []
  both_go_on : {a b : A} {items others : List A} → R a b → Alongside R items others → Alongside R (a ∷ items) (b ∷ others)

pub data SameFits : Fits → Fits → Type 0 where
  both_unfitted : SameFits unfitted unfitted
  both_fitted : {points now : List Point} {start end start_now end_now : Point} → length now ≡ length points
      → SameFits (fitted points start end) (fitted now start_now end_now)

-- where there are no weights, the value still has 0 for each
pub record SameSpline (a b : Spline) : Type 0 where
  pub rational : b.rational ≡ a.rational
  pub knots : length b.knots ≡ length a.knots
  pub controls : length b.control_points ≡ length a.control_points
  pub weights : All (VertexWithin b.rational) b.control_points
  pub fits : SameFits a.fits b.fits

pub data SameEdge : Edge → Edge → Type 0 where
  both_lines : {start end start_now end_now : Point} → SameEdge (line start end) (line start_now end_now)
  both_arcs : {a b : Arc} → SameEdge (arc a) (arc b)
  both_ellipses : {a b : Ellipse} → SameEdge (ellipse a) (ellipse b)
  both_splines : {a b : Spline} → SameSpline a b → SameEdge (spline a) (spline b)

-- where there are no bulges, the value still has 0 for each
pub data SameSegments : Segments → Segments → Type 0 where
  both_polylines : {bulge closed closed_now : Bool} {vertices now : List Vertex} → length now ≡ length vertices → All (VertexWithin bulge) now
      → SameSegments (polyline bulge closed vertices) (polyline bulge closed_now now)
  both_edges : {es now : List Edge} → Alongside SameEdge es now → SameSegments (edges es) (edges now)

pub record SamePath (a b : Path) : Type 0 where
  pub kind : polylined b.flags ≡ polylined a.flags
  pub segments : SameSegments a.segments b.segments
  pub handles : b.boundary_handles ≡ a.boundary_handles

abbrev pub SameLine : PatternLine → PatternLine → Type 0
SameLine a b = length b.dashes ≡ length a.dashes

pub record SameCounts (a b : Holding) : Type 0 where
  pub paths : Alongside SamePath a.paths b.paths
  pub lines : Alongside SameLine a.lines b.lines
  pub seeds : length b.seeds ≡ length a.seeds

-- ---- lists item by item
module _ {A : Type 0} {R : A → A → Type 0} where
  pub as_many : {items others : List A} → Alongside R items others → length others ≡ length items
  as_many both_end = refl
  as_many (both_go_on r rest) = ap suc (as_many rest)

  pub all_along : (P : A → Type 0) → ((a b : A) → R a b → P a → P b) → {items others : List A} → Alongside R items others → All P items → All P others
  all_along P h both_end k = tt
  all_along P h (both_go_on {a} {b} r rest) k = (h a b r k.0, all_along P h rest k.1)

  pub every_along : (f : A → List ℕ) → ((a b : A) → R a b → length (f b) ≡ length (f a)) → {items others : List A} → Alongside R items others
      → length (every f others) ≡ length (every f items)
  every_along f h both_end = refl
  every_along f h (both_go_on {a} {b} {items} {others} r rest) =
      length-append (f b) (every f others) ∙ ap₂ ◌+◌ (h a b r) (every_along f h rest) ∙ sym (length-append (f a) (every f items))

  pub gathered_along : {B : Type 0} (f : A → List B) → ((a b : A) → R a b → f b ≡ f a) → {items others : List A} → Alongside R items others
      → gathered f others ≡ gathered f items
  gathered_along f h both_end = refl
  gathered_along f h (both_go_on {a} {b} r rest) = ap₂ ◌++◌ (h a b r) (gathered_along f h rest)

  along_itself : (P : A → Type 0) → ((a : A) → P a → R a a) → (items : List A) → All P items → Alongside R items items
  along_itself P h [] k = both_end
  along_itself P h (a ∷ items) k = both_go_on (h a k.0) (along_itself P h items k.1)

-- items that have as many entries each
every_alike : {A : Type 0} (f : A → List ℕ) → ((a b : A) → length (f b) ≡ length (f a)) → (items others : List A) → length others ≡ length items
    → length (every f others) ≡ length (every f items)
every_alike f h [] [] e = refl
every_alike f h [] (b ∷ others) e = absurd (omega (arith, e))
every_alike f h (a ∷ items) [] e = absurd (omega (arith, e))
every_alike f h (a ∷ items) (b ∷ others) e =
    let rest : length others ≡ length items = omega (arith, e) in
    length-append (f b) (every f others) ∙ ap₂ ◌+◌ (h a b) (every_alike f h items others rest) ∙ sym (length-append (f a) (every f items))

-- lists that are as long as others are so one behind the other
both_long : (as_was as_is : List ℕ) → length as_is ≡ length as_was → (rest rest_now : List ℕ) → length rest_now ≡ length rest
    → length (as_is ++ rest_now) ≡ length (as_was ++ rest)
both_long as_was as_is e rest rest_now f = length-append as_is rest_now ∙ ap₂ ◌+◌ e f ∙ sym (length-append as_was rest)

points_alike : (items others : List Point) → length others ≡ length items → length (every point_numbers others) ≡ length (every point_numbers items)
points_alike items others e = every_alike point_numbers (λ a b. refl) items others e

vertices_alike : (more : Bool) (items others : List Vertex) → length others ≡ length items
    → length (every (vertex_numbers more) others) ≡ length (every (vertex_numbers more) items)
vertices_alike true items others e = every_alike (vertex_numbers true) (λ a b. refl) items others e
vertices_alike false items others e = every_alike (vertex_numbers false) (λ a b. refl) items others e

-- ---- splines
same_fit_count : {a b : Fits} → SameFits a b → fit_count b ≡ fit_count a
same_fit_count both_unfitted = refl
same_fit_count (both_fitted e) = e

same_fit_numbers : {a b : Fits} → SameFits a b → length (fit_numbers b) ≡ length (fit_numbers a)
same_fit_numbers both_unfitted = refl
same_fit_numbers (both_fitted {points} {now} {start} {end} {start_now} {end_now} e) =
    both_long (every point_numbers points) (every point_numbers now) (points_alike points now e)
    (point_numbers start ++ point_numbers end) (point_numbers start_now ++ point_numbers end_now) refl

same_fits_within : (cap : ℕ) {a b : Fits} → SameFits a b → FitsWithin cap a → FitsWithin cap b
same_fits_within cap both_unfitted h = tt
same_fits_within cap (both_fitted e) h = (omega (arith, e, h.0), omega (arith, e, h.1))

same_spline_numbers : (a b : Spline) → SameSpline a b → length (edge_numbers (spline b)) ≡ length (edge_numbers (spline a))
same_spline_numbers a b s =
    let before = every (vertex_numbers a.rational) a.control_points in
    let now = every (vertex_numbers b.rational) b.control_points in
    let e : length now ≡ length before = rw s.rational (vertices_alike a.rational a.control_points b.control_points s.controls) in
    let f = both_long before now e (fit_numbers a.fits) (fit_numbers b.fits) (same_fit_numbers s.fits) in
    both_long a.knots b.knots s.knots (before ++ fit_numbers a.fits) (now ++ fit_numbers b.fits) f

-- ---- edges
same_edge_words : (a b : Edge) → SameEdge a b → length (edge_words b) ≡ length (edge_words a)
same_edge_words a b both_lines = refl
same_edge_words a b both_arcs = refl
same_edge_words a b both_ellipses = refl
same_edge_words a b (both_splines s) = refl

same_edge_numbers : (a b : Edge) → SameEdge a b → length (edge_numbers b) ≡ length (edge_numbers a)
same_edge_numbers a b both_lines = refl
same_edge_numbers a b both_arcs = refl
same_edge_numbers a b both_ellipses = refl
same_edge_numbers a b (both_splines {a = s} {b = t} h) = same_spline_numbers s t h

same_edge_item : (a b : Edge) → SameEdge a b → edge_item b ≡ edge_item a
same_edge_item a b both_lines = refl
same_edge_item a b both_arcs = refl
same_edge_item a b both_ellipses = refl
same_edge_item a b (both_splines h) = rw (h.rational, h.knots, h.controls, same_fit_count h.fits) refl

same_edge_items : {items others : List Edge} → Alongside SameEdge items others → edge_items others ≡ edge_items items
same_edge_items both_end = refl
same_edge_items (both_go_on {a} {b} r rest) = ap₂ ◌∷◌ (same_edge_item a b r) (same_edge_items rest)

-- ---- segments and paths
same_segment_words : {a b : Segments} → SameSegments a b → length (segment_words b) ≡ length (segment_words a)
same_segment_words (both_polylines e k) = refl
same_segment_words (both_edges h) = ap suc (every_along edge_words same_edge_words h)

same_segment_numbers : {a b : Segments} → SameSegments a b → length (segment_numbers b) ≡ length (segment_numbers a)
same_segment_numbers (both_polylines {bulge} {vertices} {now} e k) = vertices_alike bulge vertices now e
same_segment_numbers (both_edges h) = every_along edge_numbers same_edge_numbers h

same_segment_items : {a b : Segments} → SameSegments a b → segment_items b ≡ segment_items a
same_segment_items (both_polylines {bulge} e k) = ap (λ (n : ℕ). polyline_item bulge n ∷ []) e
same_segment_items (both_edges h) = ap (λ (is : List Item). no_item ∷ is) (same_edge_items h)

same_path_words : (a b : Path) → SamePath a b → length (path_words b) ≡ length (path_words a)
same_path_words a b h =
    let handles = a.boundary_handles ∷ [] in
    let handles_now = b.boundary_handles ∷ [] in
    ap suc (both_long (segment_words a.segments) (segment_words b.segments) (same_segment_words h.segments) handles handles_now refl)

same_line_numbers : (a b : PatternLine) → SameLine a b → length (line_numbers b) ≡ length (line_numbers a)
same_line_numbers a b e = ap (λ (n : ℕ). suc (suc (suc (suc (suc n))))) e

-- ---- within the caps as before
module _ (caps : Caps) where
  same_edge_within : (a b : Edge) → SameEdge a b → EdgeWithin caps a → EdgeWithin caps b
  same_edge_within a b both_lines k = tt
  same_edge_within a b both_arcs k = tt
  same_edge_within a b both_ellipses k = tt
  same_edge_within a b (both_splines h) k =
      record {
        knots = omega (arith, h.knots, k.knots);
        controls = omega (arith, h.controls, k.controls);
        weights = h.weights;
        fits = same_fits_within caps.fit_points h.fits k.fits;
      }

  same_segments_within : (polylines : Bool) {a b : Segments} → SameSegments a b → SegmentsWithin caps polylines a → SegmentsWithin caps polylines b
  same_segments_within true (both_polylines e w) k = (omega (arith, e, k.0), w)
  same_segments_within false (both_polylines e w) k = absurd k
  same_segments_within true (both_edges h) k = absurd k
  same_segments_within false (both_edges h) k = (omega (arith, as_many h, k.0), all_along (EdgeWithin caps) same_edge_within h k.1)

  same_path_within : (a b : Path) → SamePath a b → PathWithin caps a → PathWithin caps b
  same_path_within a b h k =
      let s = same_segments_within (polylined a.flags) h.segments k.segments in
      record {
        segments = subst (λ (t : Bool). SegmentsWithin caps t b.segments) (sym h.kind) s;
        handles = omega (arith, h.handles, k.handles);
      }

  same_line_within : (a b : PatternLine) → SameLine a b → LineWithin caps a → LineWithin caps b
  same_line_within a b e k = omega (arith, e, k)

  pub altered_within : (a b : Holding) → SameCounts a b → HoldingWithin caps a → HoldingWithin caps b
  altered_within a b h k =
      record {
        paths = all_along (PathWithin caps) same_path_within h.paths k.paths;
        lines = all_along (LineWithin caps) same_line_within h.lines k.lines;
      }

  -- what is within the caps has the same counts as it is
  same_fits : (a : Fits) → SameFits a a
  same_fits unfitted = both_unfitted
  same_fits (fitted points start end) = both_fitted refl

  same_edge : (a : Edge) → EdgeWithin caps a → SameEdge a a
  same_edge (line start end) k = both_lines
  same_edge (arc a) k = both_arcs
  same_edge (ellipse a) k = both_ellipses
  same_edge (spline a) k =
      both_splines (record { rational = refl; knots = refl; controls = refl; weights = k.weights; fits = same_fits a.fits })

  same_segments : (polylines : Bool) (a : Segments) → SegmentsWithin caps polylines a → SameSegments a a
  same_segments true (polyline bulge closed vertices) k = both_polylines refl k.1
  same_segments false (edges es) k = both_edges (along_itself (EdgeWithin caps) same_edge es k.1)
  same_segments true (edges es) k = absurd k
  same_segments false (polyline bulge closed vertices) k = absurd k

  same_path : (a : Path) → PathWithin caps a → SamePath a a
  same_path a k = record { kind = refl; segments = same_segments (polylined a.flags) a.segments k.segments; handles = refl }

  pub same_itself : (a : Holding) → HoldingWithin caps a → SameCounts a a
  same_itself a k =
      record {
        paths = along_itself (PathWithin caps) same_path a.paths k.paths;
        lines = along_itself (LineWithin caps) (λ b i. refl) a.lines k.lines;
        seeds = refl;
      }

-- ---- as many words and numbers, and the same items
pub altered_words : (a b : Holding) → SameCounts a b → length (held_words b) ≡ length (held_words a)
altered_words a b h =
    both_long (every path_words a.paths) (every path_words b.paths) (every_along path_words same_path_words h.paths)
    (every line_words a.lines) (every line_words b.lines) (every_along line_words (λ c d e. refl) h.lines)

pub altered_numbers : (a b : Holding) → SameCounts a b → length (held_numbers b) ≡ length (held_numbers a)
altered_numbers a b h =
    let paths = every_along path_numbers (λ c d p. same_segment_numbers p.segments) h.paths in
    let lines = every_along line_numbers same_line_numbers h.lines in
    let seeds = points_alike a.seeds b.seeds h.seeds in
    both_long (every path_numbers a.paths) (every path_numbers b.paths) paths
    (every line_numbers a.lines ++ every point_numbers a.seeds) (every line_numbers b.lines ++ every point_numbers b.seeds)
    (both_long (every line_numbers a.lines) (every line_numbers b.lines) lines (every point_numbers a.seeds) (every point_numbers b.seeds) seeds)

pub altered_items : (a b : Holding) → SameCounts a b → held_items b ≡ held_items a
altered_items a b h =
    ap₂ ◌++◌ (gathered_along path_items (λ c d p. same_segment_items p.segments) h.paths)
    (gathered_along (λ c. line_item c ∷ []) (λ c d e. ap (λ (n : ℕ). dashed_item n ∷ []) e) h.lines)

-- ---- the record as it was is that of what is altered
pub altered_written : (c : HatchCounts) (a b : Holding) → SameCounts a b → Written c a → Written c b
altered_written c a b h k =
    record {
      fits = subst (λ (n : ℕ). Fitting c n (length (held_numbers b))) (sym words) (subst (Fitting c (length (held_words a))) (sym numbers) k.fits);
      numbered =
          record {
            paths_are = as_many h.paths ∙ k.numbered.paths_are;
            lines_are = as_many h.lines ∙ k.numbered.lines_are;
            seeds_are = h.seeds ∙ k.numbered.seeds_are;
          };
      words_used = k.words_used ∙ sym words;
      numbers_used = k.numbers_used ∙ sym numbers;
    }
  where
    words : length (held_words b) ≡ length (held_words a)
    words = altered_words a b h

    numbers : length (held_numbers b) ≡ length (held_numbers a)
    numbers = altered_numbers a b h

-- what is altered without changing a count is whole, with anything behind it
pub altered_whole : (c : HatchCounts) (ws ns : List ℕ) (a b : Holding) → Whole c ws ns a → SameCounts a b → (vs ms : List ℕ)
    → Whole c (held_words b ++ vs) (held_numbers b ++ ms) b
altered_whole c ws ns a b h same vs ms =
    entries_whole b c vs ms (altered_written c a b same (whole_written c ws ns a h)) (altered_within document_caps a b same h.within)
