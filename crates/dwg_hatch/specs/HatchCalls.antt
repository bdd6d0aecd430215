-- What a hatch call across the boundary ensures, by what the definition reads: its answer, and each list before and after it. Assumes nothing.
use Rattle.std.specs.Prelude.{◌≡◌, List, ℕ, Float}
use Rattle.bitcursor.specs.Reading.{Out}
use Rattle.bitcursor.specs.Inputs.{Places}
use Rattle.hatch_format.specs.Values.{Body}
use Rattle.hatch.specs.Calls.{as_bits, as_data, words_after, numbers_after, doubles_after}
use Rattle.boundary.specs.declared.bodies.BodyAnswer.{BodyAnswer}
use Rattle.boundary.specs.declared.bodies.BodyBitsAnswer.{BodyBitsAnswer}
use Rattle.boundary.specs.HatchBoundary.{body_answer, body_bits}

abbrev pub Decodes : Out Places Body → BodyAnswer → (numbers numbers' : List Float) (words words' : List ℕ) → Type 0
Decodes o r numbers numbers' words words' = (r ≡ body_answer (as_data o)) × ((numbers' ≡ doubles_after o numbers) × (words' ≡ words_after o words))

abbrev pub DecodesBits : Out Places Body → BodyBitsAnswer → (bits bits' words words' : List ℕ) → Type 0
DecodesBits o r bits bits' words words' = (r ≡ body_bits (as_bits o)) × ((bits' ≡ numbers_after o bits) × (words' ≡ words_after o words))
