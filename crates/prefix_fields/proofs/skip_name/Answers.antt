-- A name that the text's reader refuses is refused at the same place.
use Rattle.std.proofs.Common.{sym, ◌∙◌}
use Rattle.bitcursor.proofs.Steps.{left}
use Rattle.prefix_fields.proofs.Laws.{name_short}
use Rattle.prefix_fields.proofs.skip_name.Goals as goal

pub returns-in_err-p : goal.returns-in_err-p
returns-in_err-p c =
    let a = c.args in
    left _ c.from_residual.ensures ∙ sym (name_short a.two_bytes a.s.now a.at c.in_err-p.ensures)
