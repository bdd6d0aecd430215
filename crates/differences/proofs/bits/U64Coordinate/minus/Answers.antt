-- Numbers in range are no NaNs, and neither is their difference, so that patterns are doubles and a double its pattern: the definition, step by step.
use mathlib.Core.Path.{refl}
use lib.Ieee.{binary64, of_bits}
use Rattle.differences.specs.Limits.{is_within_sound}
use Rattle.differences.specs.Difference.{difference, difference_bits, difference_within}
use Rattle.differences.proofs.Patterns.{no_nan_within, number_no_nan}
use Rattle.differences.proofs.bits.U64Coordinate.minus.Goals as goal

pub float_from_bits-result : goal.float_from_bits-result
float_from_bits-result c = no_nan_within c.args.self c.requires.0

pub float_from_bits-result-2 : goal.float_from_bits-result-2
float_from_bits-result-2 c = no_nan_within c.args.o c.requires.1

pub float_to_bits-result : goal.float_to_bits-result
float_to_bits-result c =
    let x = of_bits binary64 c.args.self in
    let o = of_bits binary64 c.args.o in
    number_no_nan (difference x o) (difference_within x o (is_within_sound x c.requires.0) (is_within_sound o c.requires.1)).0

pub returns : goal.returns
unfolding difference_bits
returns c = refl
