-- The record of the parts that the call read.
use Rattle.std.specs.Prelude.{length}
use Rattle.std.proofs.Common.{◌∙◌}
use Rattle.hatch.specs.Calls.{call_of, strings_of}
use Rattle.hatch.proofs.Filled.{answer_is}
use Rattle.hatch.proofs.decode_with_strings.Goals as goal

pub returns : goal.returns
returns g c =
    let a = c.args in
    let o = call_of a.release a.main.now a.start (strings_of a.strings) (length a.words.now) (length a.numbers.now) in
    let read = c.read_with_strings-read.ensures in (
      c.answer.ensures ∙ answer_is g.N.Number.of_bits g.C.Color.of_bits a.main.now o c.read_with_strings-read.result read.body,
      (read.numbers_then, read.words_then),
    )
