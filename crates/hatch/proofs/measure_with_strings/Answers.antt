-- The lengths that a call over lists that are long enough used.
use Rattle.std.proofs.Common.{◌∙◌}
use Rattle.hatch.specs.Calls.{call_of, strings_of, most}
use Rattle.hatch.proofs.Filled.{lengths_are}
use Rattle.hatch.proofs.measure_with_strings.Goals as goal

pub returns : goal.returns
returns c =
    let a = c.args in
    let o = call_of a.release a.main.now a.start (strings_of a.strings) most most in
    c.lengths_of.ensures ∙ lengths_are a.main.now o c.call-read.result c.call-read.ensures.body
