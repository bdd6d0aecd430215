-- The coordinates so far are moved, item by item; at the end of the walk only the seed points are left, and they are moved last.
use mathlib.Core.Path.{sym, ap, subst, ◌∙◌}
use native.Mathlib.Omega.{arith}
use Rattle.hatch_lists.specs.declared.Item.{Item}
use Rattle.hatch_lists.specs.Items.{item_size}
use Rattle.hatch_lists.specs.Coordinates.{item_roles}
use Rattle.list_items.specs.Found.{Small}
use Rattle.whole_lists.specs.declared.Place.{Place}
use Rattle.whole_lists.specs.Stepped.{Steps}
use Rattle.whole_lists.specs.Ended.{start_of}
use Rattle.moved_hatch.specs.Parts.{moved_from, Movable}
use Rattle.move_origin.proofs.Walking.{MovedSoFar, moved_start, moved_next, moved_end, moved_long, movable_next, movable_end, seeds_room, seeds_small}
use Rattle.move_origin.proofs.move_all.Goals as goal

pub loop-walk-init : goal.loop-walk-init
loop-walk-init g c =
    let a = c.args in
    let minus = g.C.Coordinate.minus in
    subst (λ (p : Place). MovedSoFar minus a.x a.y a.words.now a.c.numbers_used a.numbers.now (start_of a.c) p a.numbers.now) (sym c.start-at.ensures)
    (moved_start minus a.x a.y a.words.now a.c.numbers_used a.numbers.now a.c)

pub move_item-requires : goal.move_item-requires
move_item-requires g c =
    let a = c.args in
    let minus = g.C.Coordinate.minus in
    let s = subst (Steps a.words.now a.c.numbers_used c.loop-walk.at) c.in-Some.is c.next_item.ensures in
    let on = s.onward in
    let long = moved_long minus a.x a.y a.words.now a.c.numbers_used a.numbers.now c.loop-walk.invariant in (
      on.3,
      omega (arith, on.2, on.1.number, c.requires.0.room, long),
      movable_next g.C.Coordinate.can_minus minus a.x a.y a.words.now a.c.numbers_used a.numbers.now a.c.num_seed_points (omega arith) c.requires.0.ends
          c.loop-walk.invariant c.requires.1 s,
    )

pub loop-walk-preserved : goal.loop-walk-preserved
loop-walk-preserved g c =
    let a = c.args in
    let s = subst (Steps a.words.now a.c.numbers_used c.loop-walk.at) c.in-Some.is c.next_item.ensures in
    moved_next g.C.Coordinate.minus a.x a.y a.words.now a.c.numbers_used a.numbers.now (omega arith) c.loop-walk.invariant s c.move_item.ensures

pub move_item-requires-2 : goal.move_item-requires-2
move_item-requires-2 g c =
    let a = c.args in
    let minus = g.C.Coordinate.minus in
    let may = g.C.Coordinate.can_minus in
    let all = sym c.is_finished.ensures ∙ c.loop-walk-test.false in
    let room = seeds_room a.words.now a.c.numbers_used a.c.num_seed_points (start_of a.c) c.loop-walk.invariant.along c.requires.0.ends all in
    let long = moved_long minus a.x a.y a.words.now a.c.numbers_used a.numbers.now c.loop-walk.invariant in
    let is = c.seeds_item.ensures in (
      subst Small (sym is) (seeds_small a.c.num_seed_points c.requires.0.few),
      omega (arith, ap item_size is, room, c.requires.0.room, long),
      subst (λ (i : Item). Movable may a.x a.y c.loop-walk.at.number (item_roles i) c.loop-walk.numbers) (sym is)
          (movable_end may minus a.x a.y a.words.now a.c.numbers_used a.numbers.now a.c.num_seed_points (omega arith) c.requires.0.ends
          c.loop-walk.invariant c.requires.1 all),
    )

pub returns : goal.returns
returns g c =
    let a = c.args in
    let minus = g.C.Coordinate.minus in
    let all = sym c.is_finished.ensures ∙ c.loop-walk-test.false in
    let seeds = ap (λ (i : Item). moved_from minus a.x a.y c.loop-walk.at.number (item_roles i) c.loop-walk.numbers) c.seeds_item.ensures in
    moved_end minus a.x a.y a.words.now a.c.numbers_used a.numbers.now a.c.num_seed_points (omega arith) c.requires.0.ends c.loop-walk.invariant all
    (c.move_item-2.ensures ∙ seeds)
