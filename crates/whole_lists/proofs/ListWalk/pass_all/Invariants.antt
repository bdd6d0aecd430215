-- The walk goes on from item to item, a word at least each time; where nothing is left, what comes behind it begins there.
use Prim.Native.Nat.{◌-◌}
use lib.ListN.{length}
use Rattle.whole_lists.proofs.Loops.{Along}
use Rattle.whole_lists.proofs.ListWalk.pass_all.Given as goal

abbrev pub invariant-loop-walk : goal.invariant-loop-walk
invariant-loop-walk l = Along l.self.words.now l.self.numbers l.self.at l.at

abbrev pub decreases-loop-walk : goal.decreases-loop-walk
decreases-loop-walk l = length l.self.words.now - l.at.word
