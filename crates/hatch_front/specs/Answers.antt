-- What the functions that read a front answer. Colours are not answered but where they stand, from where they can be read again. Assumes nothing.
use Rattle.std.specs.Prelude.{◌≡◌, Bool, true, false, List, [], ℕ, ◌≤◌, eqb, length, Option, Some, None, Result}
use Rattle.bitcursor.specs.declared.Refused.{Refused}
use Rattle.bitcursor.specs.Reading.{Out, got, refused}
use Rattle.bitcursor.specs.Inputs.{Places}
use Rattle.bitcursor.specs.Answers.{outcome}
use Rattle.text.specs.declared.Text.{Text}
use Rattle.hatch_format.specs.declared.GradientColorBits.{GradientColorBits}
use Rattle.hatch_format.specs.Values.{Block as BlockValue, Gradient as GradientValue, Plane as PlaneValue, no_gradient}
use Rattle.hatch_format.specs.Counts.{times}
use Rattle.hatch_format.specs.Gradients.{color}
use Rattle.hatch_format.specs.Record.{sixteen}
use Rattle.hatch_front.specs.declared.Gradient.{Gradient}
use Rattle.hatch_front.specs.declared.Plane.{Plane}
use Rattle.hatch_front.specs.declared.Front.{Front}
use Rattle.hatch_front.specs.declared.gradients.Block.{Block}
use Rattle.hatch_front.specs.Fronts.{Front as FrontValue}

-- ---- colours
-- passed over: the place behind them
abbrev pub passed_of : Out ℕ (List GradientColorBits) → Out ℕ (Unit {0})
passed_of (got cs p) = got tt p
passed_of (refused k p) = refused k p

-- the record's sixteen; zero where they are refused
abbrev pub sixteen_of : Out ℕ (List GradientColorBits) → List GradientColorBits
sixteen_of (got cs p) = sixteen cs
sixteen_of (refused k p) = sixteen []

-- from this place on the payload has just these colours, and not more than the record has room for
pub record ColorsAt (xs : List ℕ) (at : ℕ) (cs : List GradientColorBits) : Type 0 where
  pub few : length cs ≤ 16
  pub end : ℕ
  pub read : (times (length cs) color).read xs at ≡ got cs end

-- the same of a gradient, of which there is nothing where it is absent
pub record FillAt (xs : List ℕ) (at : ℕ) (a : GradientValue) : Type 0 where
  pub colors : ColorsAt xs at a.colors
  pub absent : a.present ≡ false → a ≡ no_gradient

-- what is handed over of what was read: its colours stand from some place on
abbrev pub Handed : {A B P : Type 0} → (ℕ → A → B) → (ℕ → A → Type 0) → Out P A → Out P B → Type 0
Handed hand Stand (got a p) o = (at : ℕ) × (o ≡ got (hand at a) p) × Stand at a
Handed hand Stand (refused k p) o = o ≡ refused k p

-- ---- the block in front of a gradient's name
abbrev pub block_of : ℕ → BlockValue → Block
block_of at b =
    record {
      flag = b.flag;
      angle = b.angle;
      shift = b.shift;
      single_color = b.single_color;
      tint = b.tint;
      num_colors = length b.colors;
      colors_at = at;
    }

-- ---- the gradient
abbrev pub gradient_if : Bool → ℕ → GradientValue → Option Gradient
gradient_if true at a =
    Some (record {
      angle = a.angle;
      shift = a.shift;
      is_single_color = a.single_color;
      tint = a.tint;
      num_colors = length a.colors;
      colors_at = at;
      name = a.name;
    })
gradient_if false at a = None

abbrev pub gradient_of : ℕ → GradientValue → Option Gradient
gradient_of at a = gradient_if a.present at a

-- how many colours it has, none where there is none
abbrev pub num_colors : Option Gradient → ℕ
num_colors (Some g) = g.num_colors
num_colors None = 0

-- what is handed over of a block that was read, with its name: nothing where its flag is 0
abbrev pub shown_of : Block → Text → Option Gradient
shown_of b name =
    elim (eqb b.flag 0) [
      | true ↦ None
      | false ↦
          Some (record {
            angle = b.angle;
            shift = b.shift;
            is_single_color = b.single_color;
            tint = b.tint;
            num_colors = b.num_colors;
            colors_at = b.colors_at;
            name = name;
          })
    ]

-- ---- the plane
abbrev pub plane_as : PlaneValue → Plane
plane_as a = record { elevation = a.elevation; x = a.x; y = a.y; z = a.z }

-- ---- the front
abbrev pub front_of : ℕ → FrontValue → Front
front_of at a = record { gradient = gradient_of at a.gradient; plane = plane_as a.plane; name = a.name }

abbrev pub FrontIs : List ℕ → Out Places FrontValue → Result (Front × Places) (Refused Places) → Type 0
FrontIs xs read r = Handed front_of (λ at a. FillAt xs at a.gradient) read (outcome r)
