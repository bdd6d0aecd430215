-- The record, the answers and the lengths from a body's parts. Assumes nothing.
use Rattle.std.specs.Prelude.{Bool, false, List, [], ℕ, map, Option, Some, None, is_some, is_none, unwrap_or, Result, Ok, Err}
use Rattle.bitcursor.specs.declared.Refused.{Refused}
use Rattle.bitcursor.specs.Inputs.{Places}
use Rattle.hatch_format.specs.declared.GradientColorBits.{GradientColorBits}
use Rattle.hatch_format.specs.declared.GradientFill.{GradientFill}
use Rattle.hatch_format.specs.declared.Hatch.{Hatch}
use Rattle.hatch_format.specs.Values.{no_text}
use Rattle.hatch_format.specs.Record.{sixteen}
use Rattle.hatch_format.specs.Counts.{times}
use Rattle.hatch_format.specs.Gradients.{color}
use Rattle.hatch_front.specs.declared.Gradient.{Gradient}
use Rattle.hatch_front.specs.Answers.{sixteen_of, num_colors as colors_of}
use Rattle.hatch_rest.specs.declared.patterns.Pattern.{Pattern}
use Rattle.hatch_body.specs.declared.Parts.{Parts}
use Rattle.hatch_body.specs.Parts.{Small}
use Rattle.hatch_record.specs.declared.Lengths.{Lengths}

-- ---- the record from the parts and sixteen colours, with each double as what `of` makes of its 64 bits
-- the pattern's fields; zero where the hatch is solid
abbrev pub pattern_in : Parts → Pattern
pattern_in a = unwrap_or a.rest.tail.pattern (record { angle = 0; scale = 0; double = false; lines = 0 })

-- an absent gradient is zero throughout
abbrev pub no_fields : Gradient
no_fields =
    record {
      angle = 0;
      shift = 0;
      is_single_color = 0;
      tint = 0;
      num_colors = 0;
      colors_at = 0;
      name = no_text;
    }

module _ {N : Type 0} (of : ℕ → N) {C : Type 0} (colors : List C) where
  abbrev pub fill_of : Bool → Gradient → GradientFill N C
  fill_of present g =
      record {
        present = present;
        angle = of g.angle;
        shift = of g.shift;
        is_single_color = g.is_single_color;
        tint = of g.tint;
        num_colors = g.num_colors;
        colors = colors;
        name = g.name;
      }

  abbrev pub fill_by : Option Gradient → GradientFill N C
  fill_by g = fill_of (is_some g) (unwrap_or g no_fields)

  abbrev pub record_by : Parts → Hatch N C
  record_by a =
      record {
        gradient = fill_by a.front.gradient;
        elevation = of a.front.plane.elevation;
        extrusion = record { x = of a.front.plane.x; y = of a.front.plane.y; z = of a.front.plane.z };
        pattern_name = a.front.name;
        solid_fill = is_none a.rest.tail.pattern;
        associative = a.rest.associative;
        num_paths = a.rest.paths;
        pattern_style = a.rest.tail.style;
        pattern_type = a.rest.tail.kind;
        pattern_angle = of (pattern_in a).angle;
        pattern_scale = of (pattern_in a).scale;
        pattern_double = (pattern_in a).double;
        num_pattern_lines = (pattern_in a).lines;
        pixel_size = of a.rest.tail.ending.pixel_size;
        num_seed_points = a.rest.tail.ending.seed_points;
        words_used = a.used.words;
        numbers_used = a.used.numbers;
        places = a.places;
      }

  -- a refusal stays one
  abbrev pub answer_with : Result Parts (Refused Places) → Result (Hatch N C) (Refused Places)
  answer_with (Ok a) = Ok (record_by a)
  answer_with (Err e) = Err e

-- ---- with the colours that are read from where they stand, each as what `color` makes of it
abbrev pub colors_in : List ℕ → Option Gradient → List GradientColorBits
colors_in xs (Some g) = sixteen_of ((times g.num_colors color).read xs g.colors_at)
colors_in xs None = sixteen []

abbrev pub answer_in : {N C : Type 0} → (ℕ → N) → (GradientColorBits → C) → List ℕ → Result Parts (Refused Places) → Result (Hatch N C) (Refused Places)
answer_in of make xs (Ok a) = Ok (record_by of (map make (colors_in xs a.front.gradient)) a)
answer_in of make xs (Err e) = Err e

abbrev pub num_colors : Result Parts (Refused Places) → ℕ
num_colors (Ok a) = colors_of a.front.gradient
num_colors (Err e) = 0

-- small enough for the record's fields, where there are parts
abbrev pub SmallIn : Result Parts (Refused Places) → Type 0
SmallIn (Ok a) = Small a
SmallIn (Err e) = Unit {0}

-- ---- the lengths used, and the final places
abbrev pub lengths_of : Result Parts (Refused Places) → Result Lengths (Refused Places)
lengths_of (Ok a) = Ok (record { words = a.used.words; numbers = a.used.numbers; places = a.places })
lengths_of (Err e) = Err e
