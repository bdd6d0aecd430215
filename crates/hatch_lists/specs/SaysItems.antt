-- What edges, vertices and pattern lines say of words and of how many numbers are left: the items of specs/Items, by the steps of specs/Steps.
-- Assumes nothing.
use Rattle.std.specs.Prelude.{◌≡◌, true, false, length}
use Rattle.std.proofs.Math.Path.{refl, ap}
use Rattle.std.proofs.Common.{subst, ◌∙◌, mul-one, arith}
use Rattle.std.proofs.Math.Bool.{Bool}
use Prim.Native.Nat.{ℕ, zero, suc, ◌+◌, ◌*◌}
use Rattle.bitcursor.specs.Reading.{got}
use Rattle.bitcursor.specs.Format.{Format, pure, refuse, ◌>>=◌, relay}
use Rattle.hatch_format.specs.declared.Caps.{Caps}
use Rattle.hatch_format.specs.Values.{Arc, Ellipse, unfitted, Spline, Edge, line, arc, ellipse, spline, Segments, polyline, edges, PatternLine}
use Rattle.hatch_format.specs.Counts.{times}
use Rattle.hatch_lists.specs.declared.Item.{Item}
use Rattle.hatch_lists.specs.Items.{
  item,
  no_item,
  points_item,
  item_size,
  stride_of,
  tangent_numbers,
  polyline_item,
  spline_item,
  edge_item,
  dashed_item,
  line_item,
}
use Rattle.hatch_lists.specs.Lists.{Lists, lists, word, number, entry, switch, count}
use Rattle.hatch_lists.specs.Points.{point, point_read, vertex, vertex_read, more_read}
use Rattle.hatch_lists.specs.Arcs.{arc_edge, arc_read, ellipse_edge, ellipse_read}
use Rattle.hatch_lists.specs.Edges.{fits, fits_read, spline_lists, spline_read, spline_edge, edge_of, edge_read, edge}
use Rattle.hatch_lists.specs.Paths.{segments, segments_read, pattern_line, line_read}
use Rattle.hatch_lists.specs.Steps.{next, a_word, a_switch, a_count, turned_step, spline_step, edge_by, edge_step, vertices_step, line_step}
use Rattle.hatch_lists.specs.Walks.{stepping}
use Rattle.hatch_lists.specs.Says.{
  Says,
  says_reads,
  says_map,
  says_word,
  says_switch,
  says_count,
  Fixed,
  fixed_number,
  fixed_pure,
  fixed_then,
  fixed_times,
}
use Rattle.hatch_lists.specs.Says.{parses_fixed, parses_then}

abbrev pub itself : Item → Item
itself i = i

-- ---- how many numbers
pub fixed_point : Fixed 2 point
unfolding point point_read relay
fixed_point =
    says_reads (fixed_then 1 1 (entry number) _ fixed_number (λ x. fixed_then 1 0 (entry number) _ fixed_number (λ y. fixed_pure _))) (λ p. refl)

pub fixed_vertex : (more : Bool) → Fixed (stride_of more) (vertex more)
unfolding vertex vertex_read more_read relay
fixed_vertex true =
    says_reads (fixed_then 2 1 point _ fixed_point (λ a. fixed_then 1 0 (entry number) _ fixed_number (λ n. fixed_pure _))) (λ p. refl)
fixed_vertex false =
    says_reads (fixed_then 2 0 point _ fixed_point (λ a. fixed_then 0 0 (pure 0) _ (fixed_pure 0) (λ n. fixed_pure _))) (λ p. refl)

pub fixed_fits : (n : ℕ) → Fixed (n * 2 + tangent_numbers n) (fits n)
unfolding fits fits_read relay
fixed_fits zero = says_reads (fixed_pure unfitted) (λ p. refl)
fixed_fits (suc n) =
    says_reads
    (fixed_then (suc n * 2) 4 (times (suc n) point) _ (fixed_times 2 (suc n) point fixed_point)
    (λ points. fixed_then 2 2 point _ fixed_point (λ start. fixed_then 2 0 point _ fixed_point (λ end. fixed_pure _))))
    (λ p. refl)

-- ---- arcs and ellipses: a switch, and a centre before so many other numbers
says_arc : Says (λ (a : Arc). edge_item (arc a)) arc_edge (stepping itself (turned_step 1 3))
unfolding arc_edge arc_read relay
says_arc =
    says_reads (parses_then _ itself switch _ a_switch _ says_switch
    (λ ccw. parses_fixed _ itself _ (item 0 1 2 0 3)
    (fixed_then 2 3 point _ fixed_point
    (λ c. fixed_then 1 2 (entry number) _ fixed_number
    (λ r. fixed_then 1 1 (entry number) _ fixed_number (λ s. fixed_then 1 0 (entry number) _ fixed_number (λ e. fixed_pure _)))))
    (λ a p q e. refl)))
    (λ p. refl)

says_ellipse : Says (λ (a : Ellipse). edge_item (ellipse a)) ellipse_edge (stepping itself (turned_step 1 5))
unfolding ellipse_edge ellipse_read relay
says_ellipse =
    says_reads (parses_then _ itself switch _ a_switch _ says_switch
    (λ ccw. parses_fixed _ itself _ (item 0 1 2 0 5)
    (fixed_then 2 5 point _ fixed_point
    (λ c. fixed_then 2 3 point _ fixed_point
    (λ d. fixed_then 1 2 (entry number) _ fixed_number
    (λ r. fixed_then 1 1 (entry number) _ fixed_number (λ s. fixed_then 1 0 (entry number) _ fixed_number (λ e. fixed_pure _))))))
    (λ a p q e. refl)))
    (λ p. refl)

-- ---- splines: six words, then knots, control points and fits
module _ (caps : Caps) where
  says_lists : (degree : ℕ) (rational periodic : Bool) (knots controls n : ℕ)
      → Says (λ (a : Spline). edge_item (spline a)) (spline_lists caps degree rational periodic knots controls n)
      (stepping itself (next (spline_item rational knots controls n)))
  unfolding spline_lists times vertex fits entry relay ◌>>=◌ pure
  says_lists degree rational periodic knots controls n =
      parses_fixed (λ (a : Spline). edge_item (spline a)) itself f (spline_item rational knots controls n) (subst (λ (k : ℕ). Fixed k f) size numbers) is
    where
      f : Format lists Spline
      f = spline_lists caps degree rational periodic knots controls n

      width : ℕ
      width = stride_of rational

      numbers : Fixed (knots * 1 + (controls * width + (n * 2 + tangent_numbers n + 0))) f
      numbers =
          fixed_then (knots * 1) (controls * width + (n * 2 + tangent_numbers n + 0)) (times knots (entry number)) _
          (fixed_times 1 knots (entry number) fixed_number)
          (λ ks. fixed_then (controls * width) (n * 2 + tangent_numbers n + 0) (times controls (vertex rational)) _
          (fixed_times width controls (vertex rational) (fixed_vertex rational))
          (λ cs. fixed_then (n * 2 + tangent_numbers n) 0 (fits n) _ (fixed_fits n) (λ fs. fixed_pure _)))

      size : knots * 1 + (controls * width + (n * 2 + tangent_numbers n + 0)) ≡ item_size (spline_item rational knots controls n)
      size = omega (arith, mul-one knots)

      is : (a : Spline) (p q : Lists) → f.read tt p ≡ got a q → edge_item (spline a) ≡ spline_item rational knots controls n
      is a p q e = from (f.sound tt a p q e)
        where
          from : f.lays tt a p q → edge_item (spline a) ≡ spline_item rational knots controls n
          from l = rw (l.3.3.3.0, l.2.0, l.3.2.0, l.3.3.2.0)

  says_spline : Says (λ (a : Spline). edge_item (spline a)) (spline_edge caps) (stepping itself (spline_step caps))
  unfolding spline_edge spline_read relay
  says_spline =
      says_reads
      (parses_then _ itself (entry word) _ a_word _ says_word
      (λ degree. parses_then _ itself switch _ a_switch _ says_switch
      (λ rational. parses_then _ itself switch _ a_switch _ says_switch
      (λ periodic. parses_then _ itself (count caps.knots) _ (a_count caps.knots) _ (says_count caps.knots)
      (λ knots. parses_then _ itself (count caps.control_points) _ (a_count caps.control_points) _ (says_count caps.control_points)
      (λ controls. parses_then _ itself (count caps.fit_points) _ (a_count caps.fit_points) _ (says_count caps.fit_points)
      (λ n. says_lists degree rational periodic knots controls n)))))))
      (λ p. refl)

  -- ---- an edge by its kind
  says_kind : (kind : ℕ) → Says edge_item (edge_of caps kind) (stepping itself (edge_by caps kind))
  unfolding edge_of refuse ◌>>=◌ point relay pure
  says_kind zero = record { at = λ p. refl }
  says_kind (suc zero) =
      parses_fixed edge_item itself (edge_of caps 1) (points_item 2)
      (fixed_then 2 2 point _ fixed_point (λ start. fixed_then 2 0 point _ fixed_point (λ end. fixed_pure (line start end)))) is
    where
      is : (a : Edge) (p q : Lists) → (edge_of caps 1).read tt p ≡ got a q → edge_item a ≡ points_item 2
      is a p q e = let l = (edge_of caps 1).sound tt a p q e in ap edge_item l.3.3.0
  says_kind (suc (suc zero)) = says_map arc edge_item arc_edge (stepping itself (turned_step 1 3)) says_arc
  says_kind (suc (suc (suc zero))) = says_map ellipse edge_item ellipse_edge (stepping itself (turned_step 1 5)) says_ellipse
  says_kind (suc (suc (suc (suc zero)))) = says_map spline edge_item (spline_edge caps) (stepping itself (spline_step caps)) says_spline
  says_kind (suc (suc (suc (suc (suc n))))) = record { at = λ p. refl }

  pub says_edge : Says edge_item (edge caps) (stepping itself (edge_step caps))
  unfolding edge edge_read relay
  says_edge = says_reads (parses_then edge_item itself (entry word) (edge_of caps) a_word (edge_by caps) says_word says_kind) (λ p. refl)

  -- ---- the vertices of a polyline
  abbrev pub vertices_item : Segments → Item
  vertices_item (polyline bulge closed vertices) = polyline_item bulge (length vertices)
  vertices_item (edges es) = no_item

  pub says_vertices : Says vertices_item (segments caps true) (stepping itself (vertices_step caps))
  unfolding segments segments_read relay times vertex ◌>>=◌ pure
  says_vertices =
      says_reads
      (parses_then vertices_item itself switch _ a_switch _ says_switch
      (λ bulge. parses_then vertices_item itself switch _ a_switch _ says_switch
      (λ closed. parses_then vertices_item itself (count caps.vertices) _ (a_count caps.vertices) _ (says_count caps.vertices)
      (λ n. run bulge closed n))))
      (λ p. refl)
    where
      behind : Bool → Bool → ℕ → Format lists Segments
      behind bulge closed n = times n (vertex bulge) >>= λ vertices. pure (polyline bulge closed vertices)

      run : (bulge closed : Bool) (n : ℕ) → Says vertices_item (behind bulge closed n) (stepping itself (next (polyline_item bulge n)))
      run bulge closed n =
          parses_fixed vertices_item itself (behind bulge closed n) (polyline_item bulge n)
          (subst (λ (k : ℕ). Fixed k (behind bulge closed n)) (omega arith)
          (fixed_then (n * stride_of bulge) 0 (times n (vertex bulge)) _ (fixed_times (stride_of bulge) n (vertex bulge) (fixed_vertex bulge))
          (λ vs. fixed_pure _)))
          (λ a p q e. let l = (behind bulge closed n).sound tt a p q e in ap vertices_item l.3.0 ∙ ap (polyline_item bulge) l.2.0)

  -- ---- a pattern line: a count, and so many numbers behind angle, origin and offset
  pub says_line : Says line_item (pattern_line caps) (stepping itself (line_step caps))
  unfolding pattern_line line_read relay times entry point ◌>>=◌ pure
  says_line = says_reads (parses_then line_item itself (count caps.dashes) _ (a_count caps.dashes) _ (says_count caps.dashes) run) (λ p. refl)
    where
      behind : ℕ → Format lists PatternLine
      behind n =
          entry number >>= λ angle. point >>= λ origin. point >>= λ offset. times n (entry number) >>= λ dashes.
          pure (record { angle = angle; origin = origin; offset = offset; dashes = dashes })

      size : (n : ℕ) → 1 + (2 + (2 + (n * 1 + 0))) ≡ item_size (dashed_item n)
      size n = omega (arith, mul-one n)

      numbers : (n : ℕ) → Fixed (1 + (2 + (2 + (n * 1 + 0)))) (behind n)
      numbers n =
          fixed_then 1 (2 + (2 + (n * 1 + 0))) (entry number) _ fixed_number
          (λ angle. fixed_then 2 (2 + (n * 1 + 0)) point _ fixed_point
          (λ origin. fixed_then 2 (n * 1 + 0) point _ fixed_point
          (λ offset. fixed_then (n * 1) 0 (times n (entry number)) _ (fixed_times 1 n (entry number) fixed_number) (λ dashes. fixed_pure _))))

      run : (n : ℕ) → Says line_item (behind n) (stepping itself (next (dashed_item n)))
      run n =
          parses_fixed line_item itself (behind n) (dashed_item n) (subst (λ (k : ℕ). Fixed k (behind n)) (size n) (numbers n))
          (λ a p q e. let l = (behind n).sound tt a p q e in ap line_item l.3.3.3.3.0 ∙ ap dashed_item l.3.3.3.2.0)
