-- Below 2000 nothing follows the colour; from there on each field is read behind the one before it.
use Rattle.std.proofs.Common.{sym}
use Rattle.prefix_parts.specs.PlainColours.{plain_colours}
use Rattle.prefix_parts.proofs.read_colours.Goals as goal

pub returns-then-colour-lt8192 : goal.returns-then-colour-lt8192
returns-then-colour-lt8192 c =
    let a = c.args in
    sym (plain_colours a.row a.s.now a.at c.in_ok-colour.ensures c.if-colour-lt8192.true)
