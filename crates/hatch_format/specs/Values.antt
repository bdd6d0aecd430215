-- What a hatch body is: its fields as plain data, doubles as their 64 bits. Assumes nothing.
use Rattle.std.specs.Prelude.{Bool, true, false, ◌||◌, List, [], ◌∷◌, ℕ, ◌+◌, ◌/◌, eqb}
use Rattle.text.specs.declared.Text.{Text}
use Rattle.text.specs.declared.Source.TheVariants.{Absent}
use Rattle.loads.specs.Bits.{odd}
use Rattle.hatch_format.specs.declared.GradientColorBits.{GradientColorBits}

pub record Point : Type 0 where
  pub x : ℕ
  pub y : ℕ

-- a point and, where the path or spline says so, a double behind it: a vertex's bulge or a control point's weight; 0 where there is none
pub record Vertex : Type 0 where
  pub point : Point
  pub extra : ℕ

pub record Arc : Type 0 where
  pub center : Point
  pub radius : ℕ
  pub start_angle : ℕ
  pub end_angle : ℕ
  pub counter_clockwise : Bool

pub record Ellipse : Type 0 where
  pub center : Point
  pub endpoint : Point
  pub axis_ratio : ℕ
  pub start_angle : ℕ
  pub end_angle : ℕ
  pub counter_clockwise : Bool

-- the fit points of a spline with their two tangents, or neither
pub data Fits : Type 0 where
  unfitted : Fits
  fitted : (points : List Point) (start_tangent end_tangent : Point) → Fits

pub record Spline : Type 0 where
  pub degree : ℕ
  pub rational : Bool
  pub periodic : Bool
  pub knots : List ℕ
  pub control_points : List Vertex
  pub fits : Fits

pub data Edge : Type 0 where
  line : (start end : Point) → Edge
  arc : Arc → Edge
  ellipse : Ellipse → Edge
  spline : Spline → Edge

pub data Segments : Type 0 where
  polyline : (bulge closed : Bool) (vertices : List Vertex) → Segments
  edges : List Edge → Segments

pub record Path : Type 0 where
  pub flags : ℕ
  pub segments : Segments
  pub boundary_handles : ℕ

-- the value 2 in a path's flags: it is a polyline; the value 4: it comes from a boundary object
abbrev pub polylined : ℕ → Bool
polylined flags = odd (flags / 2)

-- the running sum of the paths' handle counts
abbrev pub add_handles : ℕ → Path → ℕ
add_handles sum a = sum + a.boundary_handles

abbrev pub derived : List Path → Bool
derived [] = false
derived (a ∷ paths) = odd (a.flags / 4) || derived paths

pub record PatternLine : Type 0 where
  pub angle : ℕ
  pub origin : Point
  pub offset : Point
  pub dashes : List ℕ

-- what a hatch has that is not solid; zero and empty where it is
pub record Pattern : Type 0 where
  pub angle : ℕ
  pub scale : ℕ
  pub double : Bool
  pub lines : List PatternLine

abbrev pub no_pattern : Pattern
no_pattern = record { angle = 0; scale = 0; double = false; lines = [] }

-- the gradient's fields as they are laid out up to its name
pub record Block : Type 0 where
  pub flag : ℕ
  pub ignored : ℕ
  pub angle : ℕ
  pub shift : ℕ
  pub single_color : ℕ
  pub tint : ℕ
  pub colors : List GradientColorBits

-- what is handed over of the gradient
pub record Gradient : Type 0 where
  pub present : Bool
  pub angle : ℕ
  pub shift : ℕ
  pub single_color : ℕ
  pub tint : ℕ
  pub colors : List GradientColorBits
  pub name : Text

abbrev pub no_text : Text
no_text = record { source = Absent; width = 0; position = 0; count = 0; padded = false }

abbrev pub no_gradient : Gradient
no_gradient = record { present = false; angle = 0; shift = 0; single_color = 0; tint = 0; colors = []; name = no_text }

-- with flag 0 all gradient answers are zero and absent
abbrev pub shown : Block → Text → Gradient
shown b name =
    elim (eqb b.flag 0) [
      | true ↦ no_gradient
      | false ↦ record { present = true; angle = b.angle; shift = b.shift; single_color = b.single_color; tint = b.tint; colors = b.colors; name = name }
    ]

pub record Plane : Type 0 where
  pub elevation : ℕ
  pub x : ℕ
  pub y : ℕ
  pub z : ℕ

-- the last fields
pub record Ending : Type 0 where
  pub pixel_size : ℕ
  pub seed_points : List Point

-- what follows the paths
pub record Tail : Type 0 where
  pub pattern_style : ℕ
  pub pattern_type : ℕ
  pub pattern : Pattern
  pub ending : Ending

-- what follows the pattern's name
pub record Rest : Type 0 where
  pub solid : Bool
  pub associative : Bool
  pub paths : List Path
  pub tail : Tail

pub record Body : Type 0 where
  pub gradient : Gradient
  pub plane : Plane
  pub name : Text
  pub rest : Rest
