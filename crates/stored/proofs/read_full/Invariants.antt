-- What is read lies within the slice; what is left of it falls.
use Rattle.std.proofs.Common.{◌-◌, ◌≤◌, length}
use Rattle.stored.proofs.read_full.Given as goal

abbrev pub invariant-loop-done : goal.invariant-loop-done
invariant-loop-done g l = l.done ≤ length l.s

abbrev pub decreases-loop-done : goal.decreases-loop-done
decreases-loop-done g l = length l.s - l.done
