-- The coordinates so far are in range, item by item; at the end of the walk only the seed points are left.
use mathlib.Core.Path.{sym, ap, subst, ◌∙◌}
use Rattle.hatch_lists.specs.declared.Item.{Item}
use Rattle.hatch_lists.specs.Coordinates.{item_roles}
use Rattle.whole_lists.specs.declared.Place.{Place}
use Rattle.whole_lists.specs.Stepped.{Steps}
use Rattle.whole_lists.specs.Ended.{start_of}
use Rattle.moved_hatch.specs.Parts.{in_range_from}
use Rattle.move_origin.proofs.Walking.{InRange, in_range_start, in_range_next, in_range_no, in_range_end}
use Rattle.move_origin.proofs.are_within.Goals as goal

pub loop-walk-init : goal.loop-walk-init
loop-walk-init g c =
    let a = c.args in
    subst (λ (p : Place). InRange g.C.Coordinate.within a.words.now a.c.numbers_used a.numbers.now (start_of a.c) p) (sym c.start-at.ensures)
    (in_range_start g.C.Coordinate.within a.words.now a.c.numbers_used a.numbers.now a.c)

pub returns-then-not-item_within : goal.returns-then-not-item_within
returns-then-not-item_within g c =
    let a = c.args in
    let s = subst (Steps a.words.now a.c.numbers_used c.loop-walk.at) c.in-Some.is c.next_item.ensures in
    let no = sym c.item_within.ensures ∙ c.if-not-item_within.true in
    sym (in_range_no g.C.Coordinate.within a.words.now a.c.numbers_used a.numbers.now a.c.num_seed_points c.requires.ends c.loop-walk.invariant s no)

pub loop-walk-preserved : goal.loop-walk-preserved
loop-walk-preserved g c =
    let a = c.args in
    let s = subst (Steps a.words.now a.c.numbers_used c.loop-walk.at) c.in-Some.is c.next_item.ensures in
    let yes = sym c.item_within.ensures ∙ c.if-not-item_within.false in
    in_range_next g.C.Coordinate.within a.words.now a.c.numbers_used a.numbers.now c.loop-walk.invariant s yes

pub returns : goal.returns
returns g c =
    let a = c.args in
    let all = sym c.is_finished.ensures ∙ c.loop-walk-test.false in
    c.item_within-2.ensures
    ∙ ap (λ (i : Item). in_range_from g.C.Coordinate.within c.loop-walk.at.number (item_roles i) a.numbers.now) c.seeds_item.ensures
    ∙ sym (in_range_end g.C.Coordinate.within a.words.now a.c.numbers_used a.numbers.now a.c.num_seed_points c.requires.ends c.loop-walk.invariant all)
