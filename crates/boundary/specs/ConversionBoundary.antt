-- What crosses the C boundary when text is converted by a code page: the answer as numbers. Assumes nothing.
use Rattle.std.specs.Prelude.{Result, Ok, Err, ℕ}
use Rattle.code_page.specs.declared.refusal.ConversionRefusal.{ConversionRefusal}
use Rattle.code_page.specs.Conversion.{conversion_refusal_number}
use Rattle.boundary.specs.declared.conversions.ConversionAnswer.{ConversionAnswer}

-- 0 and how many were written, or the refusal's number and 0; the places are 0
abbrev pub conversion_answer : Result ℕ ConversionRefusal → ConversionAnswer
conversion_answer (Ok count) = record { refusal = 0; place = 0; string_place = 0; count = count }
conversion_answer (Err refusal) = record { refusal = conversion_refusal_number refusal; place = 0; string_place = 0; count = 0 }
