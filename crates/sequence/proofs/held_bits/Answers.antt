-- A number of at most eight bits is below 2 ^ 8.
use Rattle.std.proofs.Common.{lt_of_lt_of_le, pow_mono}
use Rattle.bitcursor.proofs.Steps.{raw_small}
use Rattle.sequence.proofs.held_bits.Goals as goal

pub overflow_cast-result : goal.overflow_cast-result
overflow_cast-result c =
    let a = c.args in
    record { fits = lt_of_lt_of_le (raw_small a.n a.s.now a.at c.in_ok-v.ensures) (pow_mono {j = 8} c.requires.1) }
