-- What converting text across the boundary ensures, by the definition: its answer, and the output before and after it. Assumes nothing.
use Rattle.std.specs.Prelude.{◌≡◌, Option, List, ℕ, length}
use Rattle.code_page.specs.Conversion.{conversion, answer_of, after}
use Rattle.boundary.specs.declared.conversions.ConversionAnswer.{ConversionAnswer}
use Rattle.boundary.specs.ConversionBoundary.{conversion_answer}

abbrev pub ConvertsAcross : (ℕ → Option ℕ) → List ℕ → ConversionAnswer → (out out' : List ℕ) → Type 0
ConvertsAcross f xs r out out' = let o = conversion f xs (length out) in (r ≡ conversion_answer (answer_of o)) × (out' ≡ after o out)
