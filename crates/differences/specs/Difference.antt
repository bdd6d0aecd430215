-- A coordinate minus an origin, by one rounding. Document 02, L1: where both are multiples of 1 / 1,048,576 within ±2 ^ 30 the difference is exact; where
-- both are numbers within ±2 ^ 40 it is a number within 1 / 8,192 of the exact difference. Assumes nothing.
use Rattle.std.specs.Prelude.{◌≡◌, refl, ℕ, ◌^◌, ◌<◌, ℤ, ◌-ℤ◌, Float}
use Rattle.std.proofs.Common.{sym, subst}
use Rattle.std.specs.Float.{binary64}
use Rattle.std.specs.Float.Ieee.{sub, of_bits, to_bits}
use Rattle.std.specs.Float.Ieee.Bits.{of_bits-to_bits, to_bits-lt}
use Rattle.std.specs.Float.Ieee.Fits.{sub-fits}
use Rattle.differences.specs.Rational.{Worth, Within, Near, difference_numerator, difference_denominator}
use Rattle.differences.specs.Multiples.{multiple_bound, multiples_exact}
use Rattle.differences.specs.Nearness.{rounded, near_of, within_of}

-- x - o as f64 has it
abbrev pub difference : Float → Float → Float
difference x o = sub binary64 x o

-- x is z / 1,048,576 and o is y / 1,048,576, both within ±2 ^ 30: then x - o is (z - y) / 1,048,576
pub difference_exact : (x o : Float) (z y : ℤ) → Within 30 x → Within 30 o → Worth x z (2 ^ 20) → Worth o y (2 ^ 20)
    → Worth (difference x o) (z -ℤ y) (2 ^ 20)
difference_exact x o z y w u p q = multiples_exact x o z y p q (multiple_bound x z w p) (multiple_bound o y u q)

-- |(x - o) - (exact x - exact o)| ≤ 1 / 8,192
pub difference_near : (x o : Float) → Within 40 x → Within 40 o
    → Near 8192 (difference x o) (difference_numerator x o) (difference_denominator x o)
difference_near x o p q =
    let r = rounded x o p q in
    near_of (difference x o) r.sign r.size (difference_denominator x o) (difference_numerator x o) r.exact r.from

pub difference_within : (x o : Float) → Within 40 x → Within 40 o → Within 41 (difference x o)
difference_within x o p q = let r = rounded x o p q in within_of (difference x o) r.sign r.size (difference_denominator x o) r.from

-- ---- patterns
-- the difference of two doubles, each as its 64 bits
unfoldable pub difference_bits : ℕ → ℕ → ℕ
difference_bits x o = to_bits binary64 (difference (of_bits binary64 x) (of_bits binary64 o))

-- the double of that pattern is the difference
pub difference_of_bits : (x o : ℕ) → of_bits binary64 (difference_bits x o) ≡ difference (of_bits binary64 x) (of_bits binary64 o)
unfolding difference_bits
difference_of_bits x o =
    let r = difference (of_bits binary64 x) (of_bits binary64 o) in of_bits-to_bits binary64 r (sub-fits binary64 (of_bits binary64 x) (of_bits binary64 o))

pub difference_bits_lt : (x o : ℕ) → difference_bits x o < 2 ^ 64
unfolding difference_bits
difference_bits_lt x o =
    let r = difference (of_bits binary64 x) (of_bits binary64 o) in to_bits-lt binary64 r (sub-fits binary64 (of_bits binary64 x) (of_bits binary64 o))

pub difference_bits_exact : (x o : ℕ) (z y : ℤ) → Within 30 (of_bits binary64 x) → Within 30 (of_bits binary64 o)
    → Worth (of_bits binary64 x) z (2 ^ 20) → Worth (of_bits binary64 o) y (2 ^ 20)
    → Worth (of_bits binary64 (difference_bits x o)) (z -ℤ y) (2 ^ 20)
difference_bits_exact x o z y w u p q =
    subst (λ (r : Float). Worth r (z -ℤ y) (2 ^ 20)) (sym (difference_of_bits x o)) (difference_exact (of_bits binary64 x) (of_bits binary64 o) z y w u p q)

pub difference_bits_near : (x o : ℕ) → Within 40 (of_bits binary64 x) → Within 40 (of_bits binary64 o)
    → Near 8192 (of_bits binary64 (difference_bits x o))
    (difference_numerator (of_bits binary64 x) (of_bits binary64 o)) (difference_denominator (of_bits binary64 x) (of_bits binary64 o))
difference_bits_near x o p q =
    let a = of_bits binary64 x in
    let b = of_bits binary64 o in
    subst (λ (r : Float). Near 8192 r (difference_numerator a b) (difference_denominator a b)) (sym (difference_of_bits x o)) (difference_near a b p q)

-- 1 / 8,192 is reached: 2 ^ 40 minus -2 ^ -13 is 2 ^ 40
farthest : difference_bits 0x4270_0000_0000_0000 0xbf20_0000_0000_0000 ≡ 0x4270_0000_0000_0000
unfolding difference_bits sub of_bits to_bits
farthest = refl
