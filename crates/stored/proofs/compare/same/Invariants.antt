-- So far the numbers agree, item by item.
use Rattle.std.proofs.Common.{◌≡◌, ℕ, ◌+◌, ◌*◌, ◌<◌, get_or}
use Rattle.stored.specs.Items.{item_at}
use Rattle.stored.proofs.compare.same.Given as goal

abbrev pub invariant-loop-k : goal.invariant-loop-k
invariant-loop-k l = (j : ℕ) → j < l.k → item_at l.s (l.at + 8 * j) ≡ get_or l.found j 0
