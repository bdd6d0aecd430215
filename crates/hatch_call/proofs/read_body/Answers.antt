-- The front, and the rest behind it; either refuses for the whole.
use Rattle.hatch_format.specs.HandleRule.{in_payload}
use Rattle.hatch_points.specs.Lists.{lists}
use Rattle.hatch_format.specs.Hatch.{hatch}
use Rattle.hatch_format.specs.Call.{room_for}
use Rattle.hatch_points.proofs.Laws.{stays}
use Rattle.hatch_call.specs.Calls.{CallIs}
use Rattle.hatch_call.proofs.CallLaws.{body_done, body_refused}
use Rattle.hatch_call.proofs.read_body.Goals as goal

pub read_front-requires : goal.read_front-requires
read_front-requires g c = c.args.rules.in_document.colors

pub returns : goal.returns
returns g c =
    let a = c.args in
    let γ = a.payloads.now in
    let l = lists a.numbers.now a.words.now in
    let l' = lists c.fill_rest.new.numbers c.fill_rest.new.words in
    body_done g.N.Number.of_bits a.rules.caps in_payload a.rules.version γ a.at a.room.words a.room.numbers _ _ l {l' = l'}
    (rw (← c.payloads.view_is) c.size.ensures.within)
    c.in_ok-front.ensures (rw (← c.payloads.view_is) c.fill_rest.ensures)

pub returns-in_err-front : goal.returns-in_err-front
returns-in_err-front g c =
    let a = c.args in
    let γ = a.payloads.now in
    let l = lists a.numbers.now a.words.now in
    let of = g.N.Number.of_bits in
    let read = room_for a.room.words a.room.numbers ((hatch a.rules.caps in_payload a.rules.version).read γ a.at) in
    stays (λ (r : _). CallIs of γ.main read l l r) _ c.from_residual.ensures
    (body_refused of a.rules.caps in_payload a.rules.version γ a.at a.room.words a.room.numbers l c.in_err-front.ensures)
