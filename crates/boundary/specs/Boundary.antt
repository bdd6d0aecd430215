-- What crosses the C boundary: a reading is refusal 0, its final place and its value; a refusal is its number, its place and 0 for
-- all else. Assumes nothing.
use Rattle.std.specs.Prelude.{Bool, false, ℕ, ℤ, pos, Float}
use Rattle.std.specs.Float.Ieee.{of_bits}
use Rattle.std.specs.Float.{binary64}
use Rattle.bitcursor.specs.declared.Handle.{Handle}
use Rattle.text.specs.declared.Source.TheVariants.{Absent}
use Rattle.text.specs.declared.Text.{Text}
use Rattle.text.specs.Answers.{source_number}
use Rattle.loads.specs.Bits.{bit}
use Rattle.bitcursor.specs.Reading.{Out, got, refused}
use Rattle.bitcursor.specs.Refusals.{refusal_number}
use Rattle.boundary.specs.declared.CodeAnswer.{CodeAnswer}
use Rattle.boundary.specs.declared.SignedAnswer.{SignedAnswer}
use Rattle.boundary.specs.declared.DoubleAnswer.{DoubleAnswer}
use Rattle.boundary.specs.declared.HandleAnswer.{HandleAnswer}
use Rattle.boundary.specs.declared.TextAnswer.{TextAnswer}

-- ---- what every answer has of what was read: 0 or the refusal's number, the place, and the value or what stands for it on a refusal
module _ {A P : Type 0} where
  abbrev pub number : Out P A → ℕ
  number (got v p) = 0
  number (refused r p) = refusal_number r

  abbrev pub place : Out P A → P
  place (got v p) = p
  place (refused r p) = p

  abbrev pub value_or : A → Out P A → A
  value_or none (got v p) = v
  value_or none (refused r p) = none

-- ---- the answers, from what was read
abbrev pub code_answer : Out ℕ ℕ → CodeAnswer
code_answer o = record { refusal = number o; place = place o; value = value_or 0 o }

abbrev pub bool_answer : Out ℕ Bool → CodeAnswer
bool_answer o = record { refusal = number o; place = place o; value = bit (value_or false o) }

abbrev pub signed_answer : Out ℕ ℤ → SignedAnswer
signed_answer o = record { refusal = number o; place = place o; value = value_or (pos 0) o }

abbrev pub double_answer : Out ℕ Float → DoubleAnswer
double_answer o = record { refusal = number o; place = place o; value = value_or (of_bits binary64 0) o }

abbrev pub no_handle : Handle
no_handle = record { code = 0; counter = 0; value = 0 }

abbrev pub handle_answer : Out ℕ Handle → HandleAnswer
handle_answer o =
    let h = value_or no_handle o in
    record { refusal = number o; place = place o; code = h.code; counter = h.counter; value = h.value }

abbrev pub no_text : Text
no_text = record { source = Absent; width = 0; padded = false; position = 0; count = 0 }

abbrev pub text_answer : Out ℕ Text → TextAnswer
text_answer o =
    let t = value_or no_text o in
    record {
      refusal = number o;
      place = place o;
      source = source_number t.source;
      width = t.width;
      padded = t.padded;
      position = t.position;
      count = t.count;
    }
