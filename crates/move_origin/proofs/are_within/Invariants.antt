-- The coordinates so far are in range, item by item; at the end of the walk only the seed points are left.
use Prim.Native.Nat.{◌-◌}
use lib.ListN.{length}
use Rattle.whole_lists.specs.Ended.{start_of}
use Rattle.move_origin.proofs.Walking.{InRange}
use Rattle.move_origin.proofs.are_within.Given as goal

abbrev pub invariant-loop-walk : goal.invariant-loop-walk
invariant-loop-walk g l = InRange g.C.Coordinate.within l.words l.c.numbers_used l.numbers (start_of l.c) l.at

abbrev pub decreases-loop-walk : goal.decreases-loop-walk
decreases-loop-walk g l = length l.words - l.at.word
