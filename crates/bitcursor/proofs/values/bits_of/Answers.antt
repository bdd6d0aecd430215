-- Only the NaN differs from itself; at every other double `to_bits` is defined.
use mathlib.Core.Path.{◌≡◌, refl, sym, ap, subst, ◌∙◌}
use lib.Dec.{T}
use lib.Ieee.{nan, to_bits, binary64}
use lib.Ieee.Compare.{differs_from_itself}
use Rattle.bitcursor.proofs.Nans.{no_nan}
use Rattle.bitcursor.proofs.values.bits_of.Goals as goal

at-nan : 0x7ff8_0000_0000_0000 ≡ to_bits binary64 nan
unfolding to_bits
at-nan = refl

pub returns-then-x : goal.returns-then-x
returns-then-x c = at-nan ∙ ap (to_bits binary64) (sym (differs_from_itself c.args.x (subst T (sym c.if-x.true) tt)))

pub float_to_bits-result : goal.float_to_bits-result
float_to_bits-result c = no_nan c.args.x c.if-x.false
