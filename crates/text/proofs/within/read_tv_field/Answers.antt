-- The reader's payload or the main one is read, and the other place stays.
use Rattle.std.specs.Prelude.{refl, true, false}
use Rattle.std.proofs.Common.{sym, ap, ◌∙◌}
use Rattle.bitcursor.specs.Fields.{main, string, lifted}
use Rattle.text.specs.Answers.{payloads}
use Rattle.text.specs.TextField.{field_reader, field_inline}
use Rattle.text.proofs.within.read_tv_field.Goals as goal

pub returns-in-Some : goal.returns-in-Some
returns-in-Some c =
    let a = c.args in
    let p = c.payloads.inside in
    rw (← c.payloads.view_is, c.in-Some.is) (c.after_string.ensures ∙ ap (lifted string a.at) c.read_string_tv.ensures
    ∙ sym (field_reader (payloads p.main p.string true c.in-Some.end) a.at a.v refl))

pub returns-in-None : goal.returns-in-None
returns-in-None c =
    let a = c.args in
    let p = c.payloads.inside in
    rw (← c.payloads.view_is, c.in-None.is) (c.after_main.ensures ∙ ap (lifted main a.at) c.read_tv.ensures
    ∙ sym (field_inline (payloads p.main p.string false 0) a.at a.v refl))
