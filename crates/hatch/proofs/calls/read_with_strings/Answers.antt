-- What was laid over the lists are their entries.
use Rattle.std.specs.Prelude.{refl, length}
use Rattle.hatch_format.specs.Call.{Call}
use Rattle.hatch_format.specs.Caps.{document_caps}
use Rattle.hatch_format.specs.HandleRule.{in_payload}
use Rattle.hatch_points.specs.Lists.{lists}
use Rattle.hatch.specs.Calls.{strings_of}
use Rattle.hatch.proofs.Filled.{reads_parts}
use Rattle.hatch.proofs.calls.read_with_strings.Goals as goal

pub returns : goal.returns
returns g c =
    let a = c.args in
    let d : Call = record {
      release = a.release;
      main = a.main.now;
      start = a.start;
      strings = strings_of a.strings;
      caps = document_caps;
      handles = in_payload;
      words = length a.words.now;
      numbers = length a.numbers.now;
    } in
    let after = lists c.call.new.numbers c.call.new.words in
    reads_parts g.N.Number.of_bits d a.main.now (lists a.numbers.now a.words.now) {l' = after} c.call.ensures refl refl
