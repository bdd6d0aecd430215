-- What crosses the C boundary of a hatch call: its record as numbers, with each double as its 64 bits or as the double. On a refusal the
-- record is zero but for the places, and so is every number. Assumes nothing.
use Rattle.std.specs.Prelude.{ℕ, Float, Result, Ok, Err}
use Rattle.bitcursor.specs.declared.Refused.{Refused}
use Rattle.bitcursor.specs.Inputs.{Places}
use Rattle.bitcursor.specs.Refusals.{refusal_number}
use Rattle.text.specs.declared.Text.{Text}
use Rattle.text.specs.Answers.{source_number}
use Rattle.hatch_format.specs.declared.GradientColor.{GradientColor}
use Rattle.hatch_format.specs.declared.GradientFill.{GradientFill}
use Rattle.hatch_format.specs.declared.Hatch.{Hatch}
use Rattle.hatch_format.specs.Record.{GradientFillBits, HatchBits, as_doubles, zero_record}
use Rattle.hatch_record.specs.declared.Lengths.{Lengths}
use Rattle.boundary.specs.declared.bodies.TextFields.{TextFields}
use Rattle.boundary.specs.declared.bodies.GradientFields.{GradientFields}
use Rattle.boundary.specs.declared.bodies.GradientBits.{GradientBits}
use Rattle.boundary.specs.declared.bodies.BodyFields.{BodyFields}
use Rattle.boundary.specs.declared.bodies.BodyAnswer.{BodyAnswer}
use Rattle.boundary.specs.declared.bodies.BodyBitsAnswer.{BodyBitsAnswer}
use Rattle.boundary.specs.declared.bodies.LengthsAnswer.{LengthsAnswer}

abbrev pub text_fields : Text → TextFields
text_fields t =
    record { source = source_number t.source; width = t.width; padded = t.padded; position = t.position; count = t.count }

abbrev pub gradient_fields : GradientFill Float GradientColor → GradientFields
gradient_fields a =
    record {
      present = a.present;
      angle = a.angle;
      shift = a.shift;
      is_single_color = a.is_single_color;
      tint = a.tint;
      num_colors = a.num_colors;
      colors = a.colors;
      name = text_fields a.name;
    }

abbrev pub gradient_bits : GradientFillBits → GradientBits
gradient_bits a =
    record {
      present = a.present;
      angle = a.angle;
      shift = a.shift;
      is_single_color = a.is_single_color;
      tint = a.tint;
      num_colors = a.num_colors;
      colors = a.colors;
      name = text_fields a.name;
    }

abbrev pub body_fields : {N C : Type 0} → Hatch N C → BodyFields
body_fields h =
    record {
      pattern_name = text_fields h.pattern_name;
      solid_fill = h.solid_fill;
      associative = h.associative;
      pattern_double = h.pattern_double;
      pattern_style = h.pattern_style;
      pattern_type = h.pattern_type;
      num_paths = h.num_paths;
      num_pattern_lines = h.num_pattern_lines;
      num_seed_points = h.num_seed_points;
      words_used = h.words_used;
      numbers_used = h.numbers_used;
    }

-- ---- by the refusal's number or 0, and the record
abbrev pub body_with : ℕ → Hatch Float GradientColor → BodyAnswer
body_with refusal h =
    record {
      refusal = refusal;
      place = h.places.main;
      string_place = h.places.string;
      gradient = gradient_fields h.gradient;
      elevation = h.elevation;
      extrusion_x = h.extrusion.x;
      extrusion_y = h.extrusion.y;
      extrusion_z = h.extrusion.z;
      pattern_angle = h.pattern_angle;
      pattern_scale = h.pattern_scale;
      pixel_size = h.pixel_size;
      fields = body_fields h;
    }

abbrev pub bits_with : ℕ → HatchBits → BodyBitsAnswer
bits_with refusal h =
    record {
      refusal = refusal;
      place = h.places.main;
      string_place = h.places.string;
      gradient = gradient_bits h.gradient;
      elevation = h.elevation;
      extrusion_x = h.extrusion.x;
      extrusion_y = h.extrusion.y;
      extrusion_z = h.extrusion.z;
      pattern_angle = h.pattern_angle;
      pattern_scale = h.pattern_scale;
      pixel_size = h.pixel_size;
      fields = body_fields h;
    }

-- ---- what was read, or a refusal: its number and its places, and zero for all else
abbrev pub body_answer : Result (Hatch Float GradientColor) (Refused Places) → BodyAnswer
body_answer (Ok h) = body_with 0 h
body_answer (Err e) = body_with (refusal_number e.refusal) (as_doubles (zero_record e.place))

abbrev pub body_bits : Result HatchBits (Refused Places) → BodyBitsAnswer
body_bits (Ok h) = bits_with 0 h
body_bits (Err e) = bits_with (refusal_number e.refusal) (zero_record e.place)

abbrev pub lengths_answer : Result Lengths (Refused Places) → LengthsAnswer
lengths_answer (Ok a) =
    record { refusal = 0; place = a.places.main; string_place = a.places.string; words = a.words; numbers = a.numbers }
lengths_answer (Err e) =
    record { refusal = refusal_number e.refusal; place = e.place.main; string_place = e.place.string; words = 0; numbers = 0 }
