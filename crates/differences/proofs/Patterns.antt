-- What the tests of patterns rest on: the top bit tells, of a sum, whether a pattern is beyond 2 ^ 40's, and of an `|` whether one of both is. A number
-- within ±2 ^ 40 is no NaN. Assumes nothing.
use mathlib.Core.Path.{◌≡◌, refl, sym, ◌∙◌}
use mathlib.Core.Bool.{Bool, true, false, not, ◌&&◌}
use Prim.Native.Nat.{ℕ, ◌+◌, ◌%◌, ◌^◌}
use native.Mathlib.Omega.{arith}
use lib.Bits.{bit_or, or_lt, or_add_and, and_le_l, and_le_r}
use lib.Dec.{T, leb}
use lib.Ieee.{Float, nan, inf, fin, binary64, is_nan, nan_bits}
use borrow.Author.Tests.{leb-true, leb-false, lt-ltb, le-ltb, ltb-true, ltb-false}
use Rattle.bitcursor.proofs.Nans.{no_nan_of}
use Rattle.differences.specs.Rational.{IsNumber}
use Rattle.differences.specs.Limits.{is_within_bits, below}
use Rattle.differences.specs.LimitBits.{within_pattern}

-- what is added brings the pattern of the next double behind 2 ^ 40, and no lower one, to the top bit
top_bit : (n : ℕ) → below (n + 0x3d8f_ffff_ffff_ffff) ≡ leb n 0x4270_0000_0000_0000
top_bit n = go (leb n 0x4270_0000_0000_0000) refl
  where
    go : (b : Bool) → leb n 0x4270_0000_0000_0000 ≡ b → below (n + 0x3d8f_ffff_ffff_ffff) ≡ b
    go true e = let low = leb-true n 0x4270_0000_0000_0000 e in lt-ltb (n + 0x3d8f_ffff_ffff_ffff) 0x8000_0000_0000_0000 (omega (arith, low))
    go false e = let high = leb-false n 0x4270_0000_0000_0000 e in le-ltb (n + 0x3d8f_ffff_ffff_ffff) 0x8000_0000_0000_0000 (omega (arith, high))

pub top_bit_tells : (n : ℕ) → below (n % 0x8000_0000_0000_0000 + 0x3d8f_ffff_ffff_ffff) ≡ is_within_bits n
top_bit_tells n = top_bit (n % 0x8000_0000_0000_0000) ∙ sym (within_pattern n)

-- gathered by `|`: the top bit tells whether one of them has it
pub gathered : (a b : ℕ) → below (bit_or a b) ≡ below a && below b
gathered a b = go (below a) (below b) refl refl
  where
    go : (s t : Bool) → below a ≡ s → below b ≡ t → below (bit_or a b) ≡ s && t
    go true true e f = lt-ltb (bit_or a b) (2 ^ 63) (or_lt 63 a b (ltb-true a (2 ^ 63) e) (ltb-true b (2 ^ 63) f))
    go true false e f = let high = ltb-false b (2 ^ 63) f in le-ltb (bit_or a b) (2 ^ 63) (omega (arith, high, or_add_and a b, and_le_l a b))
    go false t e f = let high = ltb-false a (2 ^ 63) e in le-ltb (bit_or a b) (2 ^ 63) (omega (arith, high, or_add_and a b, and_le_r a b))

pub no_nan_within : (n : ℕ) → is_within_bits n ≡ true → T (not (nan_bits binary64 n))
no_nan_within n h =
    let low = leb-true (n % 0x8000_0000_0000_0000) 0x4270_0000_0000_0000 (sym (within_pattern n) ∙ h) in
    no_nan_of n (omega (arith, low))

pub number_no_nan : (x : Float) → IsNumber x → T (not (is_nan x))
unfolding is_nan
number_no_nan nan h = absurd h
number_no_nan (inf s) h = tt
number_no_nan (fin s m e) h = tt
