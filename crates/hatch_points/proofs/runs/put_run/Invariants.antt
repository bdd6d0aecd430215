-- After i turns the list holds the first i doubles of the run, where they belong, and is as it was elsewhere.
use mathlib.Core.Path.{◌≡◌}
use lib.Seq.{sets}
use Rattle.std.specs.Prelude.{map}
use Rattle.hatch_points.specs.Stores.{raw_at}
use Rattle.hatch_points.proofs.runs.put_run.Given as goal

abbrev pub invariant-loop-i : goal.invariant-loop-i
invariant-loop-i g l = l.numbers ≡ sets l.initial.numbers l.from (map g.N.Number.of_bits (raw_at l.s l.at l.i))
