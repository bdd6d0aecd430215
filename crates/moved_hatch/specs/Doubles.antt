-- The arithmetic of moving: over doubles, and over their 64 bits. Assumes nothing.
use Rattle.std.specs.Prelude.{ℕ, Float}
use Rattle.std.specs.Float.Ieee.{to_bits}
use Rattle.std.specs.Float.{binary64}
use Rattle.differences.specs.Difference.{difference, difference_bits}
use Rattle.differences.specs.Limits.{is_within, is_within_bits}
use Rattle.moved_hatch.specs.Moving.{Arithmetic}

abbrev pub of_doubles : Arithmetic Float
of_doubles = record { pattern = to_bits binary64; difference = difference; in_range = is_within }

abbrev pub of_bits : Arithmetic ℕ
of_bits = record { pattern = λ n. n; difference = difference_bits; in_range = is_within_bits }
