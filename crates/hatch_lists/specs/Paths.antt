-- Paths and pattern lines read back from the lists. Assumes nothing.
use Rattle.std.specs.Prelude.{refl, Bool, ℕ}
use Rattle.std.proofs.Common.{sym}
use Rattle.std.proofs.Math.Path.{subst}
use Rattle.std.proofs.Math.Bool.{true, false}
use mathlib.Core.List.{List, [], ◌∷◌, ◌++◌, append-nil}
use Rattle.std.proofs.Math.ListN.{length}
use Rattle.bitcursor.specs.Format.{Format, pure, ◌>>=◌, relay}
use Rattle.loads.specs.Bits.{bit}
use Rattle.hatch_format.specs.declared.Caps.{Caps}
use Rattle.hatch_format.specs.Values.{Segments, polyline, edges, Path, polylined, PatternLine}
use Rattle.hatch_format.specs.Entries.{every, point_numbers, vertex_numbers, edge_words, edge_numbers, segment_words, segment_numbers, path_words, path_numbers}
use Rattle.hatch_format.specs.Entries.{line_words, line_numbers}
use Rattle.hatch_format.specs.Counts.{times}
use Rattle.hatch_lists.specs.Lists.{Lists, lists, Stands, stands_then, stands_first, stands_second, between}
use Rattle.hatch_lists.specs.Lists.{word, number, entry, switch, Count, count}
use Rattle.hatch_lists.specs.Within.{SegmentsWithin, PathWithin, LineWithin}
use Rattle.hatch_lists.specs.Points.{point, numbers_to, numbers_from, vertex, vertices_to, vertices_from}
use Rattle.hatch_lists.specs.Edges.{edge, edges_to, edges_from}

module _ (caps : Caps) where
  -- ---- bulge, closed, count and vertices; or count and edges
  unfoldable pub segments_read : Bool → Format lists Segments
  segments_read true = do
    bulge ← switch
    closed ← switch
    n ← count caps.vertices
    vertices ← times n (vertex bulge)
    pure (polyline bulge closed vertices)
  segments_read false = do
    n ← count caps.edges
    es ← times n (edge caps)
    pure (edges es)

  abbrev pub SegmentsHeld : Bool → Segments → Lists → Lists → Type 0
  SegmentsHeld b a p q = SegmentsWithin caps b a × Stands (segment_words a) (segment_numbers a) p q

  pub segments_to : (b : Bool) (γ : Unit {0}) (a : Segments) (p q : Lists) → (segments_read b).lays γ a p q → SegmentsHeld b a p q
  unfolding segments_read switch count times vertex edge relay ◌>>=◌ pure
  segments_to true γ a p q l =
      let m = l.3.3.3 in
      let n = subst (λ (k : ℕ). Count caps.vertices k l.3.1 l.3.3.1) (sym m.2.0) l.3.3.2 in
      let vs = vertices_to l.0 m.0 l.3.3.1 m.1 m.2.1 in
      rw (m.3.0, m.3.1) ((n.0, vs.0), stands_then l.2 (stands_then l.3.2 (stands_then n.1 vs.1)))
  segments_to false γ a p q l =
      let m = l.3 in
      let n = subst (λ (k : ℕ). Count caps.edges k p l.1) (sym m.2.0) l.2 in
      let es = edges_to caps m.0 l.1 m.1 m.2.1 in
      rw (m.3.0, m.3.1) ((n.0, es.0), stands_then n.1 es.1)

  pub segments_from : (b : Bool) (γ : Unit {0}) (a : Segments) (p q : Lists) → SegmentsHeld b a p q → (segments_read b).lays γ a p q
  unfolding segments_read switch count times vertex edge relay ◌>>=◌ pure
  segments_from true γ (polyline bulge closed vertices) p q l =
      let ns = every (vertex_numbers bulge) vertices in
      let w₁ = length vertices ∷ [] in
      let w₂ = bit closed ∷ w₁ in (
        bulge,
        between w₂ ns q,
        stands_first (bit bulge ∷ []) [] w₂ ns l.1,
        (
          closed,
          between w₁ ns q,
          stands_first (bit closed ∷ []) [] w₁ ns (stands_second w₂ ns q),
          (
            length vertices,
            between [] ns q,
            (l.0.0, stands_first w₁ [] [] ns (stands_second w₁ ns q)),
            (vertices, q, (refl, vertices_from bulge vertices (between [] ns q) q l.0.1 (stands_second [] ns q)), (refl, refl)),
          ),
        ),
      )
  segments_from false γ (edges es) p q l =
      let ws = every edge_words es in
      let ns = every edge_numbers es in (
        length es,
        between ws ns q,
        (l.0.0, stands_first (length es ∷ []) [] ws ns l.1),
        (es, q, (refl, edges_from caps es (between ws ns q) q l.0.1 (stands_second ws ns q)), (refl, refl)),
      )
  segments_from true γ (edges es) p q l = absurd l.0
  segments_from false γ (polyline bulge closed vertices) p q l = absurd l.0

  unfoldable pub segments : Bool → Format lists Segments
  segments b = relay (segments_read b) (λ γ. SegmentsHeld b) (segments_to b) (segments_from b)

  -- ---- flags; a polyline where they say so, else edges; handle count
  unfoldable pub path_read : Format lists Path
  path_read = do
    flags ← entry word
    a ← segments (polylined flags)
    n ← count caps.boundary_handles
    pure (record { flags = flags; segments = a; boundary_handles = n })

  abbrev pub PathHeld : Path → Lists → Lists → Type 0
  PathHeld a p q = PathWithin caps a × Stands (path_words a) (path_numbers a) p q

  pub path_to : (γ : Unit {0}) (a : Path) (p q : Lists) → path_read.lays γ a p q → PathHeld a p q
  unfolding path_read entry segments count relay ◌>>=◌ pure
  path_to γ a p q l =
      let m = l.3 in
      let n = m.3.2 in
      let s = stands_then l.2 (stands_then m.2.1 n.1) in
      let t = subst (λ (ns : List ℕ). Stands (l.0 ∷ (segment_words m.0 ++ (m.3.0 ∷ []))) ns p m.3.1) (append-nil (segment_numbers m.0)) s in
      rw (m.3.3.0, m.3.3.1) (record { segments = m.2.0; handles = n.0 }, t)

  pub path_from : (γ : Unit {0}) (a : Path) (p q : Lists) → PathHeld a p q → path_read.lays γ a p q
  unfolding path_read entry segments count relay ◌>>=◌ pure
  path_from γ a p q l =
      let ns = segment_numbers a.segments in
      let handles = a.boundary_handles ∷ [] in
      let ws = segment_words a.segments ++ handles in
      let s = subst (λ (k : List ℕ). Stands ws k (between ws ns q) q) (sym (append-nil ns)) (stands_second ws ns q) in (
        a.flags,
        between ws ns q,
        stands_first (a.flags ∷ []) [] ws ns l.1,
        (
          a.segments,
          between handles [] q,
          (l.0.segments, stands_first (segment_words a.segments) ns handles [] s),
          (a.boundary_handles, q, (l.0.handles, stands_second handles [] q), (refl, refl)),
        ),
      )

  unfoldable pub path : Format lists Path
  path = relay path_read (λ γ. PathHeld) path_to path_from

  -- ---- a pattern line: its count of dashes; angle, origin, offset, dashes
  unfoldable pub line_read : Format lists PatternLine
  line_read = do
    n ← count caps.dashes
    angle ← entry number
    origin ← point
    offset ← point
    dashes ← times n (entry number)
    pure (record { angle = angle; origin = origin; offset = offset; dashes = dashes })

  abbrev pub LineHeld : PatternLine → Lists → Lists → Type 0
  LineHeld a p q = LineWithin caps a × Stands (line_words a) (line_numbers a) p q

  pub line_to : (γ : Unit {0}) (a : PatternLine) (p q : Lists) → line_read.lays γ a p q → LineHeld a p q
  unfolding line_read count entry point times relay ◌>>=◌ pure
  line_to γ a p q l =
      let m = l.3.3.3.3 in
      let n = subst (λ (k : ℕ). Count caps.dashes k p l.1) (sym m.2.0) l.2 in
      let ds = numbers_to m.0 l.3.3.3.1 m.1 m.2.1 in
      rw (m.3.0, m.3.1) (n.0, stands_then n.1 (stands_then l.3.2 (stands_then l.3.3.2 (stands_then l.3.3.3.2 ds))))

  pub line_from : (γ : Unit {0}) (a : PatternLine) (p q : Lists) → LineHeld a p q → line_read.lays γ a p q
  unfolding line_read count entry point times relay ◌>>=◌ pure
  line_from γ a p q l =
      let offset = point_numbers a.offset ++ a.dashes in
      let origin = point_numbers a.origin ++ offset in
      let ns = a.angle ∷ origin in (
        length a.dashes,
        between [] ns q,
        (l.0, stands_first (length a.dashes ∷ []) [] [] ns l.1),
        (
          a.angle,
          between [] origin q,
          stands_first [] (a.angle ∷ []) [] origin (stands_second [] ns q),
          (
            a.origin,
            between [] offset q,
            stands_first [] (point_numbers a.origin) [] offset (stands_second [] origin q),
            (
              a.offset,
              between [] a.dashes q,
              stands_first [] (point_numbers a.offset) [] a.dashes (stands_second [] offset q),
              (a.dashes, q, (refl, numbers_from a.dashes (between [] a.dashes q) q (stands_second [] a.dashes q)), (refl, refl)),
            ),
          ),
        ),
      )

  unfoldable pub pattern_line : Format lists PatternLine
  pattern_line = relay line_read (λ γ. LineHeld) line_to line_from
