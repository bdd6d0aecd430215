-- Each test in turn decides the definition's outcome: whole, upright, the origin, every coordinate; only behind all of them are the numbers moved.
use mathlib.Core.Path.{◌≡◌, sym, ◌∙◌}
use Rattle.std.proofs.Common.{rules, Err}
use lib.Seq.{length-take-le}
use Rattle.moved_hatch.specs.Moving.{arithmetic}
use Rattle.moved_hatch.specs.Parts.{movable_within}
use Rattle.move_origin.proofs.Outcomes.{holds_where, words_long, refused_11, refused_before, refused_13, movable, moves_all}
use Rattle.move_origin.proofs.move_origin.Goals as goal

pub returns-then-not-is_whole : goal.returns-then-not-is_whole
returns-then-not-is_whole g c =
    let a = c.args in
    let m = arithmetic g.C.Coordinate.pattern g.C.Coordinate.minus g.C.Coordinate.within in
    refused_11 m a.c a.words.now a.numbers.now _ a.x a.y c.is_whole.ensures c.if-not-is_whole.true

pub returns-in_err-may_move : goal.returns-in_err-may_move
returns-in_err-may_move g c =
    let a = c.args in
    let m = arithmetic g.C.Coordinate.pattern g.C.Coordinate.minus g.C.Coordinate.within in
    let held = holds_where m a.c a.words.now a.numbers.now c.is_whole.ensures c.if-not-is_whole.false in
    let is : c.from_residual.result ≡ Err c.in_err-may_move.field-0.0 = search rules in
    rw is (refused_before m a.c a.words.now a.numbers.now _ a.x a.y held c.may_move.ensures c.in_err-may_move.was)

pub slice_bounds-used-end : goal.slice_bounds-used-end
slice_bounds-used-end g c =
    let a = c.args in
    let m = arithmetic g.C.Coordinate.pattern g.C.Coordinate.minus g.C.Coordinate.within in
    let held = holds_where m a.c a.words.now a.numbers.now c.is_whole.ensures c.if-not-is_whole.false in
    sym (length-take-le a.c.words_used a.words.now (words_long m a.c a.words.now a.numbers.now held))

pub are_within-requires : goal.are_within-requires
are_within-requires g c =
    let a = c.args in
    let m = arithmetic g.C.Coordinate.pattern g.C.Coordinate.minus g.C.Coordinate.within in
    (holds_where m a.c a.words.now a.numbers.now c.is_whole.ensures c.if-not-is_whole.false).walks

pub returns-then-not-are_within : goal.returns-then-not-are_within
returns-then-not-are_within g c =
    let a = c.args in
    let m = arithmetic g.C.Coordinate.pattern g.C.Coordinate.minus g.C.Coordinate.within in
    let held = holds_where m a.c a.words.now a.numbers.now c.is_whole.ensures c.if-not-is_whole.false in
    refused_13 m a.c a.words.now a.numbers.now _ a.x a.y held c.may_move.ensures c.in_ok-may_move.was
    (sym c.are_within.ensures ∙ c.if-not-are_within.true)

pub move_all-requires : goal.move_all-requires
move_all-requires g c =
    let a = c.args in
    let m = arithmetic g.C.Coordinate.pattern g.C.Coordinate.minus g.C.Coordinate.within in
    let held = holds_where m a.c a.words.now a.numbers.now c.is_whole.ensures c.if-not-is_whole.false in (
      held.walks,
      movable_within g.met.C.Coordinate.within_can_minus
          (movable m a.c a.words.now a.numbers.now _ a.x a.y held c.may_move.ensures c.in_ok-may_move.was
          (sym c.are_within.ensures ∙ c.if-not-are_within.false)),
    )

pub returns : goal.returns
returns g c =
    let a = c.args in
    let m = arithmetic g.C.Coordinate.pattern g.C.Coordinate.minus g.C.Coordinate.within in
    let held = holds_where m a.c a.words.now a.numbers.now c.is_whole.ensures c.if-not-is_whole.false in
    moves_all m a.c a.words.now a.numbers.now _ a.x a.y held c.may_move.ensures c.in_ok-may_move.was
    (sym c.are_within.ensures ∙ c.if-not-are_within.false) c.move_all.ensures
