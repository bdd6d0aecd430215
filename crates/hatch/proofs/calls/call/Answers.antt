-- The call by document 01's caps, with the reader that is lent or none.
use Rattle.std.specs.Prelude.{List, ℕ, Option}
use Rattle.std.specs.Borrow.{Bor}
use Rattle.std.proofs.Common.{sym, subst}
use Rattle.text.specs.Answers.{payloads_to}
use Rattle.hatch_format.specs.declared.Caps.{Caps}
use Rattle.hatch_format.specs.Caps.{document_caps, NowhereAbove, above_itself}
use Rattle.hatch_format.specs.HandleRule.{in_payload}
use Rattle.hatch_format.specs.Call.{call_on}
use Rattle.hatch_points.specs.Lists.{lists}
use Rattle.hatch_call.specs.Calls.{CallIs}
use Rattle.hatch.proofs.Filled.{call_by}
use Rattle.hatch.proofs.calls.call.Goals.{in-Some, in-None}
use Rattle.hatch.proofs.calls.call.Goals as goal

pub read_call-requires : goal.read_call-requires
read_call-requires g c = subst (λ (x : Caps). NowhereAbove x document_caps) (sym c.document_caps-caps.ensures) (above_itself document_caps)

pub returns : goal.returns
returns g c =
    let a = c.args in
    let xs = a.main.now in
    let of = g.N.Number.of_bits in
    let before = lists a.numbers.now a.words.now in
    let after = lists c.read_call.new.numbers c.read_call.new.words in
    let by = λ (t : Bor (List ℕ) × ℕ × Option ℕ). CallIs of xs
    (call_on document_caps in_payload a.room.words a.room.numbers (payloads_to xs t.0.now t.2) (record { main = a.start; string = t.1 }) a.release)
    before after c.read_call.result in
    let t = c.match-strings.string_start in
    let read = call_by of c.document_caps-caps.ensures xs a.room.words a.room.numbers (payloads_to xs t.0.now t.2)
    (record { main = a.start; string = t.1 }) a.release {l = before} {l' = after} c.read_call.ensures in
    elim c.match-strings.branch [
      | in-Some w ↦ rw w.in-Some.is (subst by w.string_start-is read)
      | in-None w ↦ rw w.in-None.is (subst by w.string_start-is read)
    ]
