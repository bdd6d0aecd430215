-- What crosses the C boundary when a hatch's points are moved: a record as a caller gives it, and the answer as numbers. Assumes nothing.
use Rattle.std.specs.Prelude.{◌≡◌, refl, ℕ, Result, Ok, Err}
use Rattle.loads.specs.Bits.{bit}
use Rattle.hatch_format.specs.declared.Hatch.{Hatch}
use Rattle.hatch_lists.specs.declared.HatchCounts.{HatchCounts}
use Rattle.hatch_lists.specs.Whole.{counts_of}
use Rattle.moved_hatch.specs.declared.MoveRefusal.{MoveRefusal}
use Rattle.moved_hatch.specs.Moving.{move_refusal_number}
use Rattle.boundary.specs.declared.bodies.BodyFields.{BodyFields}
use Rattle.boundary.specs.declared.bodies.TextFields.{TextFields}
use Rattle.boundary.specs.declared.given.TextGiven.{TextGiven}
use Rattle.boundary.specs.declared.given.FieldsGiven.{FieldsGiven}
use Rattle.boundary.specs.declared.moves.MoveAnswer.{MoveAnswer}
use Rattle.boundary.specs.HatchBoundary.{body_fields}

-- what the record says of its lists; the colours' count stands in its gradient
abbrev pub given_counts : FieldsGiven → ℕ → HatchCounts
given_counts a colors =
    record {
      solid_fill = a.solid_fill;
      associative = a.associative;
      pattern_double = a.pattern_double;
      num_colors = colors;
      num_paths = a.num_paths;
      num_pattern_lines = a.num_pattern_lines;
      num_seed_points = a.num_seed_points;
      words_used = a.words_used;
      numbers_used = a.numbers_used;
    }

-- 0, or the refusal's number; the places are 0
abbrev pub move_answer : Result (Unit {0}) MoveRefusal → MoveAnswer
move_answer (Ok done) = record { refusal = 0; place = 0; string_place = 0 }
move_answer (Err refusal) = record { refusal = move_refusal_number refusal; place = 0; string_place = 0 }

-- ---- a record goes in as it came out: a switch's byte is 0 or 1
abbrev pub text_given : TextFields → TextGiven
text_given t = record { source = t.source; width = t.width; padded = bit t.padded; position = t.position; count = t.count }

abbrev pub as_given : BodyFields → FieldsGiven
as_given a =
    record {
      pattern_name = text_given a.pattern_name;
      solid_fill = bit a.solid_fill;
      associative = bit a.associative;
      pattern_double = bit a.pattern_double;
      pattern_style = a.pattern_style;
      pattern_type = a.pattern_type;
      num_paths = a.num_paths;
      num_pattern_lines = a.num_pattern_lines;
      num_seed_points = a.num_seed_points;
      words_used = a.words_used;
      numbers_used = a.numbers_used;
    }

pub given_back : {N C : Type 0} (h : Hatch N C) → given_counts (as_given (body_fields h)) h.gradient.num_colors ≡ counts_of h
given_back h = refl
