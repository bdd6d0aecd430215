-- What a hatch call across the boundary ensures, from the parts that it read and the answer that is made of them. Assumes nothing.
use Rattle.std.specs.Prelude.{◌≡◌, List, ℕ, Float, Result}
use Rattle.std.proofs.Common.{ap, ◌∙◌}
use Rattle.bitcursor.specs.declared.Refused.{Refused}
use Rattle.bitcursor.specs.Reading.{Out}
use Rattle.bitcursor.specs.Inputs.{Places}
use Rattle.hatch_format.specs.Values.{Body}
use Rattle.hatch_format.specs.Record.{double, color_as_doubles}
use Rattle.hatch_body.specs.declared.Parts.{Parts}
use Rattle.hatch_record.specs.Records.{answer_in}
use Rattle.hatch.specs.Calls.{numbers_as, doubles, ReadsParts}
use Rattle.hatch.specs.Demands.{bits_are, numbers_are}
use Rattle.hatch.proofs.Filled.{answer_is}
use Rattle.boundary.specs.declared.bodies.BodyAnswer.{BodyAnswer}
use Rattle.boundary.specs.declared.bodies.BodyBitsAnswer.{BodyBitsAnswer}
use Rattle.boundary.specs.HatchBoundary.{body_answer, body_bits}
use Rattle.dwg_hatch.specs.HatchCalls.{Decodes, DecodesBits}

module _ (xs : List ℕ) {o : Out Places Body} {r : Result Parts (Refused Places)} {words words' : List ℕ} where
  pub decoded : {answer : BodyAnswer} {ns ns' : List Float} → answer ≡ body_answer (answer_in double color_as_doubles xs r)
      → ReadsParts doubles xs o r ns ns' words words' → Decodes o answer ns ns' words words'
  decoded e h = (e ∙ ap body_answer (answer_is double color_as_doubles xs o r h.body), (h.numbers_then, h.words_then))

  pub decoded_bits : {answer : BodyBitsAnswer} {ns ns' : List ℕ} → answer ≡ body_bits (answer_in (λ n. n) (λ c. c) xs r)
      → ReadsParts (numbers_as (λ n. n)) xs o r ns ns' words words' → DecodesBits o answer ns ns' words words'
  decoded_bits {ns = ns} e h =
      (e ∙ ap body_bits (answer_is (λ n. n) (λ c. c) xs o r h.body ∙ bits_are o), (h.numbers_then ∙ numbers_are o ns, h.words_then))
