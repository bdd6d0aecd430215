-- The exact value of a double as a fraction, and what is said of it: what theorems about rational numbers are stated with. Assumes nothing.
use Rattle.std.specs.Prelude.{◌≡◌, Bool, true, false, ℕ, ◌*◌, ◌^◌, ◌≤◌, ◌<◌, ℤ, pos, neg_ℤ, nat_abs, ◌-ℤ◌, ◌*ℤ◌, Float}
use Rattle.std.proofs.Common.{pow_pos}
use Rattle.std.specs.Float.{nan, inf, fin}
use Rattle.std.specs.Float.Ieee.{up, down}
use Rattle.std.specs.Float.Ieee.Fits.{down_pos}

-- n, or -n
abbrev pub with_sign : Bool → ℕ → ℤ
with_sign false n = pos n
with_sign true n = neg_ℤ (pos n)

-- x is a number: neither a NaN nor an infinity
abbrev pub IsNumber : Float → Type 0
IsNumber nan = ⊥
IsNumber (inf s) = ⊥
IsNumber (fin s m e) = Unit {0}

-- the exact value of a number is numerator x / denominator x, of which the second is above 0
abbrev pub numerator : Float → ℤ
numerator nan = pos 0
numerator (inf s) = pos 0
numerator (fin s m e) = with_sign s (m * up e)

abbrev pub denominator : Float → ℕ
denominator nan = 1
denominator (inf s) = 1
denominator (fin s m e) = down e

pub denominator_pos : (x : Float) → 0 < denominator x
denominator_pos nan = pow_pos 0
denominator_pos (inf s) = pow_pos 0
denominator_pos (fin s m e) = down_pos e

-- x is a number, and its exact value is n / d, for a d above 0
abbrev pub Worth : Float → ℤ → ℕ → Type 0
Worth x n d = IsNumber x × (numerator x *ℤ pos d ≡ n *ℤ pos (denominator x))

-- x is a number from -2 ^ k to 2 ^ k, the bounds included
abbrev pub Within : ℕ → Float → Type 0
Within k x = IsNumber x × (nat_abs (numerator x) ≤ 2 ^ k * denominator x)

-- x is a number, and its exact value is at most 1 / m away from n / d: |numerator / denominator - n / d| ≤ 1 / m, times both denominators
abbrev pub Near : ℕ → Float → ℤ → ℕ → Type 0
Near m x n d = IsNumber x × (nat_abs (numerator x *ℤ pos d -ℤ n *ℤ pos (denominator x)) * m ≤ denominator x * d)

-- the exact difference of two numbers, as a fraction
abbrev pub difference_numerator : Float → Float → ℤ
difference_numerator x o = numerator x *ℤ pos (denominator o) -ℤ numerator o *ℤ pos (denominator x)

abbrev pub difference_denominator : Float → Float → ℕ
difference_denominator x o = denominator x * denominator o
