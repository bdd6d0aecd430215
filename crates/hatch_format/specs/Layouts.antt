-- The layouts of a hatch body: its fields back to back, in document 01's order, each in any code of its value. This is what demand 3
-- calls a layout; it speaks of bits, places and values alone, and of no reading. Assumes nothing.
use Rattle.std.specs.Prelude.{◌≡◌, Bool, true, false, List, ℕ, ◌+◌, ◌-◌, ◌≤◌, ◌<◌, leb, length}
use Rattle.loads.specs.Bits.{size}
use Rattle.bitcursor.specs.Code.{Code}
use Rattle.bitcursor.specs.Joins.{Coded}
use Rattle.bitcursor.specs.Chains.{◌⨾◌, Nothing, EachBy, Each}
use Rattle.bitcursor.specs.Codes.{B, RC, RD, BS, signed_BS, BL}
use Rattle.bitcursor.specs.Doubles.{BD}
use Rattle.bitcursor.specs.Held.{held}
use Rattle.bitcursor.specs.Inputs.{Places, Payloads}
use Rattle.bitcursor.specs.Fields.{main, PartIn}
use Rattle.text.specs.declared.Text.{Text}
use Rattle.text.specs.declared.version.Version.{Version}
use Rattle.text.specs.Releases.{release_number}
use Rattle.text.specs.TextField.{TextLaid}
use Rattle.hatch_format.specs.declared.Caps.{Caps}
use Rattle.hatch_format.specs.declared.GradientColorBits.{GradientColorBits}
use Rattle.hatch_format.specs.HandleRule.{Handles, in_payload, in_stream}
use Rattle.hatch_format.specs.Values.{Point, Vertex, Arc, Ellipse, Fits, unfitted, fitted, Spline, Edge, line, arc, ellipse, spline}
use Rattle.hatch_format.specs.Values.{Segments, polyline, edges}
use Rattle.hatch_format.specs.Values.{Path, polylined, derived, add_handles}
use Rattle.hatch_format.specs.Values.{PatternLine, Pattern, no_pattern, Block, Gradient, no_gradient, shown, Plane, Ending, Tail, Rest, Body}

-- ---- of one payload
module _ (xs : List ℕ) where
  -- a count that is not above its cap
  abbrev pub Count : ℕ → Code ℕ → ℕ → ℕ → ℕ → Type 0
  Count cap c n p q = Coded xs c n p q × (n ≤ cap)

  -- such a count that is not above the bits after it either, to the end of the payload
  abbrev pub Bounded : ℕ → Code ℕ → ℕ → ℕ → ℕ → Type 0
  Bounded cap c n p q = Count cap c n p q × (n ≤ size xs - q)

  -- a count and exactly that many items
  abbrev pub ListedBy : {A S : Type 0} → ℕ → Code ℕ → (S → A → ℕ → ℕ → Type 0) → (S → A → S) → S → List A → ℕ → ℕ → Type 0
  ListedBy cap c L add s items = Count cap c (length items) ⨾ EachBy L add s items

  abbrev pub Listed : {A : Type 0} → ℕ → Code ℕ → (A → ℕ → ℕ → Type 0) → List A → ℕ → ℕ → Type 0
  Listed cap c L items = Count cap c (length items) ⨾ Each L items

  abbrev pub PointLaid : Point → ℕ → ℕ → Type 0
  PointLaid a = Coded xs RD a.x ⨾ Coded xs RD a.y

  -- a vertex with a bulge or without, a control point with a weight or without
  abbrev pub VertexLaid : Bool → Vertex → ℕ → ℕ → Type 0
  VertexLaid more a = PointLaid a.point ⨾ Coded xs (held more BD 0) a.extra

  abbrev pub ArcLaid : Arc → ℕ → ℕ → Type 0
  ArcLaid a = PointLaid a.center ⨾ Coded xs BD a.radius ⨾ Coded xs BD a.start_angle ⨾ Coded xs BD a.end_angle ⨾ Coded xs B a.counter_clockwise

  abbrev pub EllipseLaid : Ellipse → ℕ → ℕ → Type 0
  EllipseLaid a =
      PointLaid a.center ⨾ PointLaid a.endpoint
      ⨾ Coded xs BD a.axis_ratio ⨾ Coded xs BD a.start_angle ⨾ Coded xs BD a.end_angle ⨾ Coded xs B a.counter_clockwise

  -- fits, from release 5: a count and, if it is not 0, the points and two tangents
  abbrev pub FitsLaid : ℕ → Bool → Fits → ℕ → ℕ → Type 0
  FitsLaid cap true unfitted = Count cap BL 0
  FitsLaid cap true (fitted points start end) = λ p q. (0 < length points) × (Listed cap BL PointLaid points ⨾ PointLaid start ⨾ PointLaid end) p q
  FitsLaid cap false unfitted = Nothing
  FitsLaid cap false (fitted points start end) = λ p q. ⊥

  -- both counts stand before the knots
  abbrev pub SplineLaid : Caps → Version → Spline → ℕ → ℕ → Type 0
  SplineLaid caps v a =
      Coded xs BL a.degree ⨾ Coded xs B a.rational ⨾ Coded xs B a.periodic
      ⨾ Count caps.knots BL (length a.knots) ⨾ Count caps.control_points BL (length a.control_points)
      ⨾ Each (Coded xs BD) a.knots ⨾ Each (VertexLaid a.rational) a.control_points
      ⨾ FitsLaid caps.fit_points (leb 5 (release_number v)) a.fits

  abbrev pub EdgeLaid : Caps → Version → Edge → ℕ → ℕ → Type 0
  EdgeLaid caps v (line start end) = Coded xs RC 1 ⨾ PointLaid start ⨾ PointLaid end
  EdgeLaid caps v (arc a) = Coded xs RC 2 ⨾ ArcLaid a
  EdgeLaid caps v (ellipse a) = Coded xs RC 3 ⨾ EllipseLaid a
  EdgeLaid caps v (spline a) = Coded xs RC 4 ⨾ SplineLaid caps v a

  -- a polyline where the flags say so, else edges
  abbrev pub SegmentsLaid : Caps → Version → Bool → Segments → ℕ → ℕ → Type 0
  SegmentsLaid caps v true (polyline bulge closed vertices) =
      Coded xs B bulge ⨾ Coded xs B closed ⨾ Listed caps.vertices BL (VertexLaid bulge) vertices
  SegmentsLaid caps v false (edges es) = Listed caps.edges BL (EdgeLaid caps v) es
  SegmentsLaid caps v true (edges es) = λ p q. ⊥
  SegmentsLaid caps v false (polyline bulge closed vertices) = λ p q. ⊥

  -- a path's handle count; `sum` is that of the paths before it. The handles are not here, so where they lie in the payload it must be said
  -- of their count that it is not above the bits after it
  abbrev pub HandlesLaid : ℕ → Handles → ℕ → ℕ → ℕ → ℕ → Type 0
  HandlesLaid cap in_payload sum n = Bounded cap BL n
  HandlesLaid cap (in_stream number) sum n = λ p q. Count cap BL n p q × (sum + n ≤ number)

  abbrev pub PathLaid : Caps → Handles → Version → ℕ → Path → ℕ → ℕ → Type 0
  PathLaid caps handles v sum a =
      Coded xs BL a.flags ⨾ SegmentsLaid caps v (polylined a.flags) a.segments
      ⨾ HandlesLaid caps.boundary_handles handles sum a.boundary_handles

  abbrev pub LineLaid : ℕ → PatternLine → ℕ → ℕ → Type 0
  LineLaid cap a =
      Coded xs BD a.angle ⨾ Coded xs BD a.origin.x ⨾ Coded xs BD a.origin.y ⨾ Coded xs BD a.offset.x ⨾ Coded xs BD a.offset.y
      ⨾ Listed cap BS (Coded xs BD) a.dashes

  -- a solid hatch has none
  abbrev pub PatternLaid : Caps → Bool → Pattern → ℕ → ℕ → Type 0
  PatternLaid caps true a = λ p q. (a ≡ no_pattern) × Nothing p q
  PatternLaid caps false a =
      Coded xs BD a.angle ⨾ Coded xs BD a.scale ⨾ Coded xs B a.double ⨾ Listed caps.pattern_lines BS (LineLaid caps.dashes) a.lines

  -- the pixel size is there if any path comes from a boundary object
  abbrev pub EndingLaid : Caps → Bool → Ending → ℕ → ℕ → Type 0
  EndingLaid caps pixel a = Coded xs (held pixel BD 0) a.pixel_size ⨾ Listed caps.seed_points BL PointLaid a.seed_points

  abbrev pub TailLaid : Caps → Bool → Bool → Tail → ℕ → ℕ → Type 0
  TailLaid caps solid pixel a =
      Coded xs BS a.pattern_style ⨾ Coded xs BS a.pattern_type ⨾ PatternLaid caps solid a.pattern ⨾ EndingLaid caps pixel a.ending

  abbrev pub RestLaid : Caps → Handles → Version → Rest → ℕ → ℕ → Type 0
  RestLaid caps handles v a =
      Coded xs B a.solid ⨾ Coded xs B a.associative ⨾ ListedBy caps.paths BL (PathLaid caps handles v) add_handles 0 a.paths
      ⨾ TailLaid caps a.solid (derived a.paths) a.tail

  abbrev pub PlaneLaid : Plane → ℕ → ℕ → Type 0
  PlaneLaid a = Coded xs BD a.elevation ⨾ Coded xs BD a.x ⨾ Coded xs BD a.y ⨾ Coded xs BD a.z

  abbrev pub ColorLaid : GradientColorBits → ℕ → ℕ → Type 0
  ColorLaid a =
      Coded xs BD a.unknown_double ⨾ Coded xs signed_BS a.unknown_short ⨾ Coded xs BL a.rgb ⨾ Coded xs RC a.ignored_color_byte

  abbrev pub BlockLaid : ℕ → Block → ℕ → ℕ → Type 0
  BlockLaid cap a =
      Coded xs BL a.flag ⨾ Coded xs BL a.ignored ⨾ Coded xs BD a.angle ⨾ Coded xs BD a.shift ⨾ Coded xs BL a.single_color ⨾ Coded xs BD a.tint
      ⨾ Listed cap BL ColorLaid a.colors

-- ---- of both payloads
-- in the main payload
abbrev pub InMain : {A : Type 0} → (List ℕ → A → ℕ → ℕ → Type 0) → Payloads → A → Places → Places → Type 0
InMain L γ a = PartIn main L γ a

-- from release 3: the block and the name, with flag 0 too
abbrev pub GradientLaid : ℕ → Version → Bool → Payloads → Gradient → Places → Places → Type 0
GradientLaid cap v true γ a p q =
    (b : Block) × (name : Text) × (InMain (λ xs. BlockLaid xs cap) γ b ⨾ TextLaid v γ name) p q × (a ≡ shown b name)
GradientLaid cap v false γ a p q = (a ≡ no_gradient) × Nothing p q

abbrev pub BodyLaid : Caps → Handles → Version → Payloads → Body → Places → Places → Type 0
BodyLaid caps handles v γ a =
    GradientLaid caps.colors v (leb 3 (release_number v)) γ a.gradient
    ⨾ InMain PlaneLaid γ a.plane ⨾ TextLaid v γ a.name ⨾ InMain (λ xs. RestLaid xs caps handles v) γ a.rest
