-- Above the infinities' patterns every pattern is a NaN's, and 0.0 / 0.0 is the NaN; at every other `from_bits` is defined.
use mathlib.Core.Path.{◌≡◌, refl, sym, ◌∙◌}
use native.Mathlib.Omega.{arith}
use lib.Ieee.{nan, div, of_bits, binary64}
use Rattle.bitcursor.proofs.Nans.{doubled, nan_of, no_nan_of}
use Rattle.bitcursor.proofs.values.double_of.Goals as goal

nans : div binary64 (of_bits binary64 0) (of_bits binary64 0) ≡ nan
unfolding div of_bits
nans = refl

pub returns-then-bits-gt18437736874454810624 : goal.returns-then-bits-gt18437736874454810624
returns-then-bits-gt18437736874454810624 c = nans ∙ sym (nan_of c.args.bits (omega arith))

pub float_from_bits-result : goal.float_from_bits-result
float_from_bits-result c = let bits = c.args.bits in no_nan_of bits (omega (arith, doubled bits))
