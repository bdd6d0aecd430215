use Rattle.std.specs.Prelude.{◌≡◌, map}
use Rattle.hatch_front.proofs.ColorLaws.{ReadTo, filled}
use Rattle.hatch_front.proofs.colors.read_colors.Given as goal

abbrev pub invariant-loop-slot : goal.invariant-loop-slot
invariant-loop-slot g l = (h : ReadTo l.s l.at l.slot-index l.p) × (l.slot-items ≡ map g.C.Color.of_bits (filled l.n h))
