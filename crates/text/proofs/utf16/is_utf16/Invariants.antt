use mathlib.Core.Path.{◌≡◌}
use mathlib.Core.Bool.{false}
use Prim.Native.Nat.{◌+◌, ◌-◌, ◌*◌, ◌≤◌}
use Rattle.text.specs.Units.{units_at}
use Rattle.text.specs.Utf16.{paired_from}
use Rattle.text.proofs.utf16.is_utf16.Given as goal

abbrev pub invariant-loop-i : goal.invariant-loop-i
invariant-loop-i l = (l.i ≤ l.n) × (paired_from false (units_at l.s l.at 2 l.n) ≡ paired_from l.half (units_at l.s (l.at + 16 * l.i) 2 (l.n - l.i)))

abbrev pub decreases-loop-i : goal.decreases-loop-i
decreases-loop-i l = l.n - l.i
