-- The tests come in document 01's order, and each refuses with its places; the body is read from the main start and from where the string reader stands.
use Rattle.std.specs.Prelude.{refl}
use Rattle.text.specs.Answers.{payloads_to}
use Rattle.hatch_format.specs.HandleRule.{in_payload}
use Rattle.hatch_points.specs.Lists.{lists}
use Rattle.hatch_call.proofs.CallLaws.{unknown, main_long, string_long, by_start, refused_is, call_as, known_version, unknown_version}
use Rattle.hatch_call.proofs.CallLaws.{payload_is, payload_long}
use Rattle.hatch_call.proofs.read_call.Goals as goal

pub returns-in_err-version : goal.returns-in_err-version
returns-in_err-version g c =
    let a = c.args in
    let γ = payloads_to a.main.now a.string.now a.reader in
    let l = lists a.numbers.now a.words.now in
    let of = g.N.Number.of_bits in
    let no = unknown_version a.release a.at c.in_err-version.ensures in
    refused_is of a.main.now l _ (unknown a.caps in_payload a.room.words a.room.numbers γ a.at a.release no.0) no.1 c.from_residual.ensures

pub returns-in_err-main : goal.returns-in_err-main
returns-in_err-main g c =
    let a = c.args in
    let γ = payloads_to a.main.now a.string.now a.reader in
    let l = lists a.numbers.now a.words.now in
    let of = g.N.Number.of_bits in
    let e = known_version a.release a.at c.in_ok-version.ensures in
    let long = payload_long a.main.now c.new.ensures _ c.in_err-main.ensures.value in
    let past = main_long a.caps in_payload a.room.words a.room.numbers γ a.at a.release e long.1 in
    refused_is of a.main.now l _ past long.0 c.from_residual-in_err-main.ensures

pub returns-in_err-string : goal.returns-in_err-string
returns-in_err-string g c =
    let a = c.args in
    let γ = payloads_to a.main.now a.string.now a.reader in
    let l = lists a.numbers.now a.words.now in
    let of = g.N.Number.of_bits in
    let e = known_version a.release a.at c.in_ok-version.ensures in
    let m = payload_is a.main.now c.new.ensures _ c.in_ok-main.ensures.value in
    let long = payload_long a.string.now c.new-2.ensures _ c.in_err-string.ensures.value in
    let past = string_long a.caps in_payload a.room.words a.room.numbers γ a.at a.release e m.1 long.1 in
    refused_is of a.main.now l _ past long.0 c.from_residual-in_err-string.ensures

pub returns-in_err-at : goal.returns-in_err-at
returns-in_err-at g c =
    let a = c.args in
    let γ = payloads_to a.main.now a.string.now a.reader in
    let l = lists a.numbers.now a.words.now in
    let of = g.N.Number.of_bits in
    let e = known_version a.release a.at c.in_ok-version.ensures in
    let m = payload_is a.main.now c.new.ensures _ c.in_ok-main.ensures.value in
    let s = payload_is a.string.now c.new-2.ensures _ c.in_ok-string.ensures.value in
    let past = by_start a.caps in_payload a.room.words a.room.numbers γ a.at a.release e m.1 s.1 (rw s.0 at c.in_err-at.ensures) in
    refused_is of a.main.now l _ past refl c.from_residual-in_err-at.ensures

pub returns : goal.returns
returns g c =
    let a = c.args in
    let γ = payloads_to a.main.now a.string.now a.reader in
    let l = lists a.numbers.now a.words.now in
    let l' = lists c.read_body.new.numbers c.read_body.new.words in
    let of = g.N.Number.of_bits in
    let e = known_version a.release a.at c.in_ok-version.ensures in
    let m = payload_is a.main.now c.new.ensures _ c.in_ok-main.ensures.value in
    let s = payload_is a.string.now c.new-2.ensures _ c.in_ok-string.ensures.value in
    let read = by_start a.caps in_payload a.room.words a.room.numbers γ a.at a.release e m.1 s.1 (rw s.0 at c.in_ok-at.ensures) in
    call_as of a.main.now l {l' = l'} read (rw (m.0, s.0) at c.read_body.ensures)
