-- Inline text: a length code, that many units, one closing zero dropped and said, and 16-bit units valid UTF-16. Assumes nothing.
use Rattle.std.specs.Prelude.{◌≡◌, refl, Bool, true, false, List, [], ◌∷◌, ◌++◌, ℕ, ◌^◌, eqb, length}
use Rattle.bitcursor.specs.declared.Refusal.TheVariants.{NotUtf16}
use Rattle.bitcursor.specs.Code.{Code, give, refuse, ◌>>=◌, measured}
use Rattle.bitcursor.specs.Codes.{BS, BS_codes}
use Rattle.bitcursor.specs.Handles.{checked}
use Rattle.text.specs.Units.{AllBelow, unit_bits, units}
use Rattle.text.specs.Utf16.{Utf16, paired_from, utf16_test}

-- units of one byte, or of two
pub data UnitWidth : Type 0 where
  narrow wide : UnitWidth

abbrev pub unit_bytes : UnitWidth → ℕ
unit_bytes narrow = 1
unit_bytes wide = 2

-- ---- one closing zero unit is dropped, not more
abbrev pub unclosed : List ℕ → List ℕ
unclosed [] = []
unclosed (u ∷ []) = elim (eqb u 0) [ true ↦ [] | false ↦ u ∷ [] ]
unclosed (u ∷ (v ∷ us)) = u ∷ unclosed (v ∷ us)

-- whether the last unit is a zero; of the units that are laid out this is whether the text is padded
abbrev pub ends_in_zero : List ℕ → Bool
ends_in_zero [] = false
ends_in_zero (u ∷ []) = eqb u 0
ends_in_zero (u ∷ (v ∷ us)) = ends_in_zero (v ∷ us)

-- what is laid out: the units and, if padded, one zero behind them
abbrev pub laid_out : List ℕ → Bool → List ℕ
laid_out us true = us ++ (0 ∷ [])
laid_out us false = us

-- a text that is not padded does not end in a zero unit
abbrev pub Unpadded : List ℕ → Bool → Type 0
Unpadded us padded = padded ≡ false → ends_in_zero us ≡ false

-- ---- what units may be: 8-bit units anything, 16-bit units valid UTF-16
abbrev pub Valid : UnitWidth → List ℕ → Type 0
Valid narrow us = Unit {0}
Valid wide us = Utf16 us

abbrev pub valid : UnitWidth → List ℕ → Bool
valid narrow us = true
valid wide us = paired_from false us

pub valid_to : (w : UnitWidth) (us : List ℕ) → valid w us ≡ true → Valid w us
valid_to narrow us e = tt
valid_to wide us e = (utf16_test us).0 e

pub valid_from : (w : UnitWidth) (us : List ℕ) → Valid w us → valid w us ≡ true
valid_from narrow us l = refl
valid_from wide us l = (utf16_test us).1 l

-- ---- a text as it is written: how many bits its length code has, its units without a closing zero, and whether one stands behind them
pub record Written : Type 0 where
  pub code_bits : ℕ
  pub units : List ℕ
  pub padded : Bool

abbrev pub written : ℕ → List ℕ → Bool → Written
written bits us padded = record { code_bits = bits; units = us; padded = padded }

-- the text that units as they are laid out make
abbrev pub written_of : ℕ → List ℕ → Written
written_of bits laid = written bits (unclosed laid) (ends_in_zero laid)

-- length code, units and, if padded, one zero. That the codes of TV are those of this table is `TV_to` and `TV_from` of proofs/PaddedUnits
pub data TV_codes (w : UnitWidth) : Written → List Bool → Type 0 where
  TV_of : {us : List ℕ} {padded : Bool} {ds : List Bool} → BS_codes (length (laid_out us padded)) ds → AllBelow (256 ^ unit_bytes w) (laid_out us padded)
      → Unpadded us padded → Valid w us → TV_codes w (written (length ds) us padded) (ds ++ unit_bits (unit_bytes w) (laid_out us padded))

-- what is made of the units: refusal 7 after all of them
unfoldable pub checked_units : UnitWidth → ℕ → List ℕ → Code Written
checked_units w bits laid = checked (valid w (unclosed laid)) (give (written_of bits laid)) (refuse NotUtf16 tt)

unfoldable pub TV_read : UnitWidth → Code Written
TV_read w = do
  m ← measured BS
  laid ← units (unit_bytes w) m.1
  checked_units w m.0 laid

unfoldable pub TV : UnitWidth → Code Written
TV w = TV_read w
