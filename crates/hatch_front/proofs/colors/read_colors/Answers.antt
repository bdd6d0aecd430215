-- Each turn reads one colour more, or all are zero.
use Rattle.std.specs.Prelude.{List, ◌≡◌, ◌++◌, map}
use Rattle.std.proofs.Common.{sym, ap, ap₂, ◌∙◌, arith}
use lib.ListN.{set, take, drop}
use Rattle.hatch_front.specs.Answers.{sixteen_of}
use Rattle.hatch_front.proofs.ColorLaws.{none_read, one_read, one_refused, all_read, filled, filled_none, filled_all, filled_more, set_as}
use Rattle.hatch_front.proofs.colors.read_colors.Goals as goal

pub loop-slot-init : goal.loop-slot-init
loop-slot-init g c =
    let a = c.args in
    (none_read a.s.now a.at, ap (take a.n) c.zero_colors-colors.ensures ∙ filled_none g.C.Color.of_bits a.n a.s.now a.at c.requires)

pub loop-slot-preserved : goal.loop-slot-preserved
loop-slot-preserved g c =
    let l = c.loop-slot in
    let h = l.invariant.0 in
    let got = sym c.in-Ok.ensures in
    let stored = ap₂ (λ (m : List _) (v : _). set m l.slot-index v) l.invariant.1 c.from_bits.ensures in (
      one_read h got,
      stored ∙ set_as g.C.Color.of_bits (filled c.args.n h) l.slot-index c.in-Ok.color ∙ ap (map g.C.Color.of_bits) (filled_more h got (omega arith)),
    )

pub returns-in_default : goal.returns-in_default
returns-in_default g c =
    let no = one_refused c.loop-slot.invariant.0 (omega arith) (sym c.in_default.ensures) in
    c.zero_colors.ensures ∙ ap (map g.C.Color.of_bits) (sym (ap sixteen_of no))

pub returns : goal.returns
returns g c =
    let l = c.loop-slot in
    let h = l.invariant.0 in
    let all : l.slot-index ≡ c.args.n = omega arith in
    ap₂ (λ (a b : List _). a ++ drop c.args.n b) l.invariant.1 c.zero_colors-colors.ensures
    ∙ filled_all g.C.Color.of_bits h all ∙ ap (map g.C.Color.of_bits) (sym (ap sixteen_of (all_read h all)))
