-- Every coordinate of a moved hatch (document 02, L1): it is the coordinate minus the origin's by one subtraction of doubles, within 1 / 8,192 of the exact
-- difference, and exact where both are multiples of 1 / 1,048,576 within ±2 ^ 30; every other entry is as it was. Assumes nothing.
use Rattle.std.specs.Prelude.{◌≡◌, refl, List, [], ◌∷◌, ◌^◌, ℤ, ◌-ℤ◌, Float}
use Rattle.differences.specs.Rational.{Worth, Within, Near, difference_numerator, difference_denominator}
use Rattle.differences.specs.Difference.{difference, difference_of_bits}
use Rattle.differences.specs.Limits.{is_within}
use Rattle.hatch_lists.specs.Coordinates.{Role, x, y, other}
use Rattle.moved_hatch.specs.Moving.{Arithmetic}
use Rattle.moved_hatch.specs.Doubles.{of_doubles, of_bits}
use Rattle.moved_hatch.specs.MovedDoubles.{double_of}

-- a coordinate before the move and after it, and the origin's: what L1 says of them
pub record CoordinateMoved (origin before afterwards : Float) : Type 0 where
  pub subtracted : afterwards ≡ difference before origin
  pub before_in_range : Within 40 before
  pub origin_in_range : Within 40 origin
  pub near : Near 8192 afterwards (difference_numerator before origin) (difference_denominator before origin)
  pub exact : (z z₀ : ℤ) → Within 30 before → Within 30 origin → Worth before z (2 ^ 20) → Worth origin z₀ (2 ^ 20) → Worth afterwards (z -ℤ z₀) (2 ^ 20)

-- `value` is the double that an entry is
module _ {A : Type 0} (value : A → Float) (x₀ y₀ : A) where
  -- an entry before and after, by its role
  abbrev pub EntryMoved : Role → A → A → Type 0
  EntryMoved x a b = CoordinateMoved (value x₀) (value a) (value b)
  EntryMoved y a b = CoordinateMoved (value y₀) (value a) (value b)
  EntryMoved other a b = b ≡ a

  -- the list before and after: every role has its entry in both, and entries past the roles are as they were
  abbrev pub EachMoved : List Role → List A → List A → Type 0
  EachMoved [] before afterwards = afterwards ≡ before
  EachMoved (r ∷ rs) (a ∷ before) (b ∷ afterwards) = EntryMoved r a b × EachMoved rs before afterwards
  EachMoved (r ∷ rs) (a ∷ before) [] = ⊥
  EachMoved (r ∷ rs) [] afterwards = ⊥

-- the arithmetic of the doubles that entries are; with it proofs/MovedExactly proves each entry moved so
pub record OfValues {A : Type 0} (m : Arithmetic A) (value : A → Float) : Type 0 where
  pub subtracts : (a o : A) → value (m.difference a o) ≡ difference (value a) (value o)
  pub tests : (a : A) → m.in_range a ≡ is_within (value a)

-- ---- the call over doubles, and that over their 64 bits
pub of_doubles_lem : OfValues of_doubles (λ a. a)
of_doubles_lem = record { subtracts = λ a o. refl; tests = λ a. refl }

pub of_bits_lem : OfValues of_bits double_of
of_bits_lem = record { subtracts = difference_of_bits; tests = λ a. refl }
