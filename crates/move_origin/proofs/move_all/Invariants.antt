-- The coordinates so far are moved, item by item; at the end of the walk only the seed points are left, and they are moved last.
use Prim.Native.Nat.{◌-◌}
use lib.ListN.{length}
use Rattle.whole_lists.specs.Ended.{start_of}
use Rattle.move_origin.proofs.Walking.{MovedSoFar}
use Rattle.move_origin.proofs.move_all.Given as goal

abbrev pub invariant-loop-walk : goal.invariant-loop-walk
invariant-loop-walk g l = MovedSoFar g.C.Coordinate.minus l.x l.y l.words l.c.numbers_used l.initial.numbers (start_of l.c) l.at l.numbers

abbrev pub decreases-loop-walk : goal.decreases-loop-walk
decreases-loop-walk g l = length l.words - l.at.word
