-- After i bytes v is their number.
use Rattle.std.proofs.Common.{◌≡◌, ◌*◌}
use Rattle.loads.specs.Bits.{number, window}
use Rattle.loads.proofs.last_at.Given as goal

abbrev pub invariant-loop-i : goal.invariant-loop-i
invariant-loop-i l = l.v ≡ number (window l.s l.at (8 * l.i))
