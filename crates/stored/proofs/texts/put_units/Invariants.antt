-- No unit that is put takes a number away: the numbers that were there before the loop are there still.
use Rattle.std.proofs.Common.{◌≤◌}
use Rattle.stored.proofs.texts.put_units.Given as goal

abbrev pub invariant-loop : goal.invariant-loop
invariant-loop l = l.initial.answer.count ≤ l.answer.count
