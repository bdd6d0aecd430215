-- The record that a hatch call hands over: document 01's, from the body and its final places; and as f64. Assumes nothing.
use Rattle.std.specs.Prelude.{◌≡◌, false, List, ◌++◌, map, ℕ, ◌-◌, Float, pos, length, replicate}
use Rattle.std.proofs.Common.{ap}
use Rattle.std.proofs.lemmas.List.{map-id}
use Rattle.std.specs.Float.Ieee.{of_bits}
use Rattle.std.specs.Float.{binary64}
use Rattle.bitcursor.specs.Inputs.{Places}
use Rattle.hatch_format.specs.declared.GradientColor.{GradientColor}
use Rattle.hatch_format.specs.declared.GradientColorBits.{GradientColorBits}
use Rattle.hatch_format.specs.declared.GradientFill.{GradientFill}
use Rattle.hatch_format.specs.declared.Hatch.{Hatch}
use Rattle.hatch_format.specs.Values.{Gradient, no_gradient, no_text, Body}
use Rattle.hatch_format.specs.Entries.{words, numbers}

-- the record with each double as its 64 bits
abbrev pub GradientFillBits : Type 0
GradientFillBits = GradientFill ℕ GradientColorBits

abbrev pub HatchBits : Type 0
HatchBits = Hatch ℕ GradientColorBits

abbrev pub zero_color : GradientColorBits
zero_color = record { unknown_double = 0; unknown_short = pos 0; rgb = 0; ignored_color_byte = 0 }

-- sixteen colours: those past their count are zero
abbrev pub sixteen : List GradientColorBits → List GradientColorBits
sixteen cs = cs ++ replicate (16 - length cs) zero_color

abbrev pub fill_of : Gradient → GradientFillBits
fill_of a =
    record {
      present = a.present;
      angle = a.angle;
      shift = a.shift;
      is_single_color = a.single_color;
      tint = a.tint;
      num_colors = length a.colors;
      colors = sixteen a.colors;
      name = a.name;
    }

abbrev pub record_of : Body → Places → HatchBits
record_of a p =
    record {
      gradient = fill_of a.gradient;
      elevation = a.plane.elevation;
      extrusion = record { x = a.plane.x; y = a.plane.y; z = a.plane.z };
      pattern_name = a.name;
      solid_fill = a.rest.solid;
      associative = a.rest.associative;
      num_paths = length a.rest.paths;
      pattern_style = a.rest.tail.pattern_style;
      pattern_type = a.rest.tail.pattern_type;
      pattern_angle = a.rest.tail.pattern.angle;
      pattern_scale = a.rest.tail.pattern.scale;
      pattern_double = a.rest.tail.pattern.double;
      num_pattern_lines = length a.rest.tail.pattern.lines;
      pixel_size = a.rest.tail.ending.pixel_size;
      num_seed_points = length a.rest.tail.ending.seed_points;
      words_used = length (words a.rest);
      numbers_used = length (numbers a.rest);
      places = p;
    }

-- a refused call's: zero but for the refusal's places
abbrev pub zero_record : Places → HatchBits
zero_record p =
    record {
      gradient = fill_of no_gradient;
      elevation = 0;
      extrusion = record { x = 0; y = 0; z = 0 };
      pattern_name = no_text;
      solid_fill = false;
      associative = false;
      num_paths = 0;
      pattern_style = 0;
      pattern_type = 0;
      pattern_angle = 0;
      pattern_scale = 0;
      pattern_double = false;
      num_pattern_lines = 0;
      pixel_size = 0;
      num_seed_points = 0;
      words_used = 0;
      numbers_used = 0;
      places = p;
    }

-- ---- with each double as what `of` makes of its 64 bits, and each colour as what `color` makes of it
module _ {N C : Type 0} (of : ℕ → N) (color : GradientColorBits → C) where
  abbrev pub fill_as : GradientFillBits → GradientFill N C
  fill_as a =
      record {
        present = a.present;
        angle = of a.angle;
        shift = of a.shift;
        is_single_color = a.is_single_color;
        tint = of a.tint;
        num_colors = a.num_colors;
        colors = map color a.colors;
        name = a.name;
      }

  abbrev pub hatch_as : HatchBits → Hatch N C
  hatch_as a =
      record {
        gradient = fill_as a.gradient;
        elevation = of a.elevation;
        extrusion = record { x = of a.extrusion.x; y = of a.extrusion.y; z = of a.extrusion.z };
        pattern_name = a.pattern_name;
        solid_fill = a.solid_fill;
        associative = a.associative;
        num_paths = a.num_paths;
        pattern_style = a.pattern_style;
        pattern_type = a.pattern_type;
        pattern_angle = of a.pattern_angle;
        pattern_scale = of a.pattern_scale;
        pattern_double = a.pattern_double;
        num_pattern_lines = a.num_pattern_lines;
        pixel_size = of a.pixel_size;
        num_seed_points = a.num_seed_points;
        words_used = a.words_used;
        numbers_used = a.numbers_used;
        places = a.places;
      }

-- ---- as doubles: each is the double of its pattern, the NaN where that is a NaN's
abbrev pub double : ℕ → Float
double n = of_bits binary64 n

abbrev pub color_as_doubles : GradientColorBits → GradientColor
color_as_doubles a =
    record {
      unknown_double = double a.unknown_double;
      unknown_short = a.unknown_short;
      rgb = a.rgb;
      ignored_color_byte = a.ignored_color_byte;
    }

abbrev pub as_doubles : HatchBits → Hatch Float GradientColor
as_doubles = hatch_as double color_as_doubles

-- ---- as the 64 bits themselves it is the record as it was
pub hatch_as_bits : (a : HatchBits) → hatch_as (λ n. n) (λ c. c) a ≡ a
hatch_as_bits a = ap (λ (cs : List GradientColorBits). record a { gradient = record a.gradient { colors = cs } }) (map-id a.gradient.colors)
