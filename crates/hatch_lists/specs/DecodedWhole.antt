-- Whatever a hatch call hands over is whole: its record and the entries that it stores, with anything behind them, hold the paths, pattern lines
-- and seed points of the body that it read, for all caps that are nowhere above document 01's. Assumes nothing.
use Rattle.std.specs.Prelude.{◌≡◌, refl, Bool, List, [], ◌∷◌, ◌++◌, ℕ, ◌≤◌, leb, eqb, length, drop}
use Rattle.std.proofs.Math.Bool.{true, false}
use Rattle.std.proofs.Common.{arith, length-append, length-drop}
use Rattle.loads.specs.Bits.{bit}
use Rattle.bitcursor.specs.Reading.{got}
use Rattle.bitcursor.specs.Held.{held}
use Rattle.bitcursor.specs.Joins.{no_bits}
use Rattle.bitcursor.specs.Chains.{EachBy, Each}
use Rattle.bitcursor.specs.Inputs.{Places, Payloads}
use Rattle.text.specs.declared.Text.{Text}
use Rattle.text.specs.declared.version.Version.{Version}
use Rattle.text.specs.Releases.{release_number}
use Rattle.hatch_format.specs.declared.Caps.{Caps}
use Rattle.hatch_format.specs.declared.GradientColorBits.{GradientColorBits}
use Rattle.hatch_format.specs.Caps.{document_caps, NowhereAbove}
use Rattle.hatch_format.specs.HandleRule.{Handles, in_payload, in_stream}
use Rattle.hatch_format.specs.Values.{Vertex, Fits, unfitted, fitted, Spline, Edge, line, arc, ellipse, spline, Segments, polyline, edges, Path, polylined}
use Rattle.hatch_format.specs.Values.{add_handles, PatternLine, Pattern, Block, Gradient, shown, Rest, Body}
use Rattle.hatch_format.specs.Layouts.{VertexLaid, FitsLaid, SplineLaid, EdgeLaid, SegmentsLaid, HandlesLaid, PathLaid, LineLaid, PatternLaid, RestLaid}
use Rattle.hatch_format.specs.Layouts.{GradientLaid, BodyLaid}
use Rattle.hatch_format.specs.Entries.{words, numbers}
use Rattle.hatch_format.specs.Record.{HatchBits, record_of, hatch_as, as_doubles}
use Rattle.hatch_format.specs.Call.{Call, hatch_call}
use Rattle.hatch_format.proofs.Demand3.{read_iff_laid}
use Rattle.hatch_lists.specs.Within.{All, VertexWithin, FitsWithin, SplineWithin, EdgeWithin, SegmentsWithin, PathWithin, LineWithin}
use Rattle.hatch_lists.specs.Holding.{Holding, holding_of, HoldingWithin}
use Rattle.hatch_lists.specs.Whole.{counts_of, Whole}
use Rattle.hatch_lists.specs.Items.{held_items}
use Rattle.hatch_lists.specs.WholeLaws.{Written, entries_whole, numbers_altered}

-- ---- a body within caps: none of its counts is above its cap, and lists may hold its paths and pattern lines
pub record RestWithin (caps : Caps) (a : Rest) : Type 0 where
  pub paths : length a.paths ≤ caps.paths
  pub lines : length a.tail.pattern.lines ≤ caps.pattern_lines
  pub seeds : length a.tail.ending.seed_points ≤ caps.seed_points
  pub held : HoldingWithin caps (holding_of a)

pub record BodyWithin (caps : Caps) (a : Body) : Type 0 where
  pub colors : length a.gradient.colors ≤ caps.colors
  pub rest : RestWithin caps a.rest

-- what holds of each item that is laid out holds of all
all_laid : {A S P : Type 0} (L : S → A → P → P → Type 0) (add : S → A → S) (Q : A → Type 0) → ((s : S) (a : A) (p q : P) → L s a p q → Q a)
    → (s : S) (items : List A) (p q : P) → EachBy L add s items p q → All Q items
all_laid L add Q h s [] p q l = tt
all_laid L add Q h s (a ∷ items) p q l = (h s a p l.0 l.1, all_laid L add Q h (add s a) items l.0 q l.2)

each_laid : {A P : Type 0} (L : A → P → P → Type 0) (Q : A → Type 0) → ((a : A) (p q : P) → L a p q → Q a)
    → (items : List A) (p q : P) → Each L items p q → All Q items
each_laid L Q h items p q l = all_laid (λ (s : Unit {0}). L) (λ s a. s) Q (λ s. h) tt items p q l

-- ---- of one payload: caps are nowhere above the upper ones
module _ (xs : List ℕ) where
  -- without bulges or weights each is 0
  vertex_within : (more : Bool) (a : Vertex) (p q : ℕ) → VertexLaid xs more a p q → VertexWithin more a
  unfolding held
  vertex_within true a p q l = tt
  vertex_within false a p q l = (no_bits 0 l.2).0

  fits_within : (m n : ℕ) → m ≤ n → (from5 : Bool) (a : Fits) (p q : ℕ) → FitsLaid xs m from5 a p q → FitsWithin n a
  fits_within m n h true unfitted p q l = tt
  fits_within m n h true (fitted points start end) p q l =
      let k : length points ≤ m = l.1.1.1.1 in
      (l.0, omega (arith, h, k))
  fits_within m n h false unfitted p q l = tt
  fits_within m n h false (fitted points start end) p q l = absurd l

  module _ (caps upper : Caps) (h : NowhereAbove caps upper) (v : Version) where
    spline_within : (a : Spline) (p q : ℕ) → SplineLaid xs caps v a p q → SplineWithin upper a
    spline_within a p q l =
        let c = l.2.2.2 in
        let m = c.2.2.2 in
        let knots : length a.knots ≤ caps.knots = c.1.1 in
        let controls : length a.control_points ≤ caps.control_points = c.2.1.1 in
        record {
          knots = omega (arith, knots, h.knots);
          controls = omega (arith, controls, h.control_points);
          weights = each_laid (VertexLaid xs a.rational) (VertexWithin a.rational) (vertex_within a.rational) a.control_points _ _ m.1;
          fits = fits_within caps.fit_points upper.fit_points h.fit_points (leb 5 (release_number v)) a.fits _ _ m.2;
        }

    edge_within : (a : Edge) (p q : ℕ) → EdgeLaid xs caps v a p q → EdgeWithin upper a
    edge_within (line start end) p q l = tt
    edge_within (arc a) p q l = tt
    edge_within (ellipse a) p q l = tt
    edge_within (spline a) p q l = spline_within a l.0 q l.2

    segments_within : (b : Bool) (a : Segments) (p q : ℕ) → SegmentsLaid xs caps v b a p q → SegmentsWithin upper b a
    segments_within true (polyline bulge closed vertices) p q l =
        let m = l.2.2 in
        let n : length vertices ≤ caps.vertices = m.1.1 in
        (omega (arith, n, h.vertices), each_laid (VertexLaid xs bulge) (VertexWithin bulge) (vertex_within bulge) vertices m.0 q m.2)
    segments_within false (edges es) p q l =
        let n : length es ≤ caps.edges = l.1.1 in
        (omega (arith, n, h.edges), each_laid (EdgeLaid xs caps v) (EdgeWithin upper) edge_within es l.0 q l.2)
    segments_within true (edges es) p q l = absurd l
    segments_within false (polyline bulge closed vertices) p q l = absurd l

    handles_within : (handles : Handles) (sum n p q : ℕ) → HandlesLaid xs caps.boundary_handles handles sum n p q → n ≤ upper.boundary_handles
    handles_within in_payload sum n p q l = let k : n ≤ caps.boundary_handles = l.0.1 in omega (arith, k, h.boundary_handles)
    handles_within (in_stream number) sum n p q l = let k : n ≤ caps.boundary_handles = l.0.1 in omega (arith, k, h.boundary_handles)

    path_within : (handles : Handles) (sum : ℕ) (a : Path) (p q : ℕ) → PathLaid xs caps handles v sum a p q → PathWithin upper a
    path_within handles sum a p q l =
        let m = l.2 in
        record {
          segments = segments_within (polylined a.flags) a.segments l.0 m.0 m.1;
          handles = handles_within handles sum a.boundary_handles m.0 q m.2;
        }

    line_within : (a : PatternLine) (p q : ℕ) → LineLaid xs caps.dashes a p q → LineWithin upper a
    line_within a p q l =
        let m = l.2.2.2 in
        let n : length a.dashes ≤ caps.dashes = m.2.2.1.1 in
        omega (arith, n, h.dashes)

    -- a solid hatch has no line
    pattern_within : (solid : Bool) (a : Pattern) (p q : ℕ) → PatternLaid xs caps solid a p q
        → (length a.lines ≤ upper.pattern_lines) × All (LineWithin upper) a.lines
    pattern_within true a p q l = rw l.0 (omega arith, tt)
    pattern_within false a p q l =
        let m = l.2.2.2 in
        let n : length a.lines ≤ caps.pattern_lines = m.1.1 in
        (omega (arith, n, h.pattern_lines), each_laid (LineLaid xs caps.dashes) (LineWithin upper) line_within a.lines m.0 q m.2)

    rest_within : (handles : Handles) (a : Rest) (p q : ℕ) → RestLaid xs caps handles v a p q → RestWithin upper a
    rest_within handles a p q l =
        let m = l.2.2 in
        let paths : length a.paths ≤ caps.paths = m.1.1.1 in
        let t = m.2.2.2 in
        let pattern = pattern_within a.solid a.tail.pattern _ _ t.1 in
        let seeds : length a.tail.ending.seed_points ≤ caps.seed_points = t.2.2.1.1 in
        record {
          paths = omega (arith, paths, h.paths);
          lines = pattern.0;
          seeds = omega (arith, seeds, h.seed_points);
          held =
              record {
                paths = all_laid (PathLaid xs caps handles v) add_handles (PathWithin upper) (path_within handles) 0 a.paths _ _ m.1.2;
                lines = pattern.1;
              };
        }

-- ---- of both payloads
-- with flag 0 there are no colours
shown_within : (most : ℕ) (b : Block) (name : Text) → length b.colors ≤ most → length (shown b name).colors ≤ most
shown_within most b name h = go (eqb b.flag 0) refl
  where
    go : (t : Bool) → eqb b.flag 0 ≡ t → length (shown b name).colors ≤ most
    go true e = rw (e, length) (omega arith)
    go false e = rw (e, length) h

module _ (caps upper : Caps) (h : NowhereAbove caps upper) where
  colors_within : (v : Version) (from3 : Bool) (γ : Payloads) (a : Gradient) (p q : Places) → GradientLaid caps.colors v from3 γ a p q
      → length a.colors ≤ upper.colors
  colors_within v true γ a p q l =
      let m = l.2.1.laid.2.2.2 in
      let n : length l.0.colors ≤ caps.colors = m.2.2.2.1.1 in
      rw l.3 (shown_within upper.colors l.0 l.1 (omega (arith, n, h.colors)))
  colors_within v false γ a p q l = rw l.0 (omega arith)

  -- what is laid out by caps that are nowhere above others is within those
  pub laid_within : (handles : Handles) (v : Version) (γ : Payloads) (a : Body) (p q : Places) → BodyLaid caps handles v γ a p q → BodyWithin upper a
  laid_within handles v γ a p q l =
      record {
        colors = colors_within v (leb 3 (release_number v)) γ a.gradient p l.0 l.1;
        rest = rest_within γ.main caps upper h v handles a.rest _ _ l.2.2.2.laid;
      }

-- ---- the record of a body within document 01's caps
bit_small : (b : Bool) → bit b ≤ 1
bit_small true = omega arith
bit_small false = omega arith

pub body_written : (a : Body) (q : Places) → BodyWithin document_caps a → Written (counts_of (record_of a q)) (holding_of a.rest)
body_written a q h =
    record {
      fits =
          record {
            solid = bit_small a.rest.solid;
            associative = bit_small a.rest.associative;
            double = bit_small a.rest.tail.pattern.double;
            colors = h.colors;
            paths = h.rest.paths;
            lines = h.rest.lines;
            seeds = h.rest.seeds;
            words_long = omega arith;
            numbers_long = omega arith;
          };
      numbered = record { paths_are = refl; lines_are = refl; seeds_are = refl };
      words_used = refl;
      numbers_used = refl;
    }

pub body_whole : (a : Body) (q : Places) → BodyWithin document_caps a → (vs ms : List ℕ)
    → Whole (counts_of (record_of a q)) (words a.rest ++ vs) (numbers a.rest ++ ms) (holding_of a.rest)
body_whole a q h vs ms = entries_whole (holding_of a.rest) (counts_of (record_of a q)) vs ms (body_written a q h) h.rest.held

-- whatever is laid out is whole
pub laid_whole : (caps : Caps) → NowhereAbove caps document_caps → (handles : Handles) (v : Version) (γ : Payloads) (a : Body) (p q : Places)
    → BodyLaid caps handles v γ a p q → (vs ms : List ℕ)
    → Whole (counts_of (record_of a q)) (words a.rest ++ vs) (numbers a.rest ++ ms) (holding_of a.rest)
laid_whole caps h handles v γ a p q l vs ms = body_whole a q (laid_within caps document_caps h handles v γ a p q l) vs ms

-- the record as doubles says the same of its lists, and so does one with any other values for doubles and colours
pub doubles_counts : {N C : Type 0} (of : ℕ → N) (color : GradientColorBits → C) (h : HatchBits) → counts_of (hatch_as of color h) ≡ counts_of h
doubles_counts of color h = refl

-- ---- of a call: whatever it hands over is whole
module _ (c : Call) (h : NowhereAbove c.caps document_caps) (a : Body) (q : Places) (e : hatch_call c ≡ got a q) where
  pub decoded_whole : (vs ms : List ℕ) → Whole (counts_of (record_of a q)) (words a.rest ++ vs) (numbers a.rest ++ ms) (holding_of a.rest)
  decoded_whole vs ms = let l = (read_iff_laid c a q).0 e in laid_whole c.caps h c.handles l.version _ a _ q l.laid vs ms

  -- a call over f64 hands over doubles: whatever 64 bits these have, and whatever is behind them, record and lists hold the same items
  pub decoded_doubles : (vs ns : List ℕ) → length (numbers a.rest) ≤ length ns
      → (b : Holding) × Whole (counts_of (as_doubles (record_of a q))) (words a.rest ++ vs) ns b × (held_items b ≡ held_items (holding_of a.rest))
  decoded_doubles vs ns k =
      let n = length (numbers a.rest) in
      let ms = drop n ns in
      let same : length ns ≡ length (numbers a.rest ++ ms) = omega (arith, k, length-append (numbers a.rest) ms, length-drop n ns) in
      numbers_altered (counts_of (record_of a q)) (words a.rest ++ vs) (numbers a.rest ++ ms) ns (holding_of a.rest) (decoded_whole vs ms) same
