-- What the text readers know of a length code, and what they make of units that are there, or cut short. Assumes nothing.
use mathlib.Core.Path.{◌≡◌, sym, ap, ap₂, ◌∙◌}
use mathlib.Core.Bool.{Bool, true, false}
use mathlib.Core.List.{List}
use Prim.Native.Nat.{ℕ, ◌+◌, ◌-◌, ◌*◌, ◌/◌, ◌^◌, ◌≤◌, ◌<◌}
use Rattle.bitcursor.specs.declared.Refusal.{Refusal}
use Rattle.bitcursor.specs.declared.Refusal.TheVariants.{TooFewBits, NotUtf16}
use Rattle.loads.specs.Bits.{bit, size}
use Rattle.text.specs.declared.Text.{Text}
use Rattle.bitcursor.specs.Reading.{Out, got, refused}
use Rattle.bitcursor.specs.Codes.{BS}
use Rattle.bitcursor.specs.Ranges.{read_below, BS_below}
use Rattle.bitcursor.specs.Stops.{ends_inside, BS_past}
use Rattle.text.specs.declared.Source.{Source}
use Rattle.text.specs.Units.{units, units_at, units_there, units_short}
use Rattle.text.specs.Utf16.{paired_from}
use Rattle.text.specs.Texts.{UnitWidth, wide, unit_bytes, unclosed, ends_in_zero, valid}
use Rattle.text.proofs.UnitsLeft.{unclosed_units}
use Rattle.text.specs.Fields.{text_at}
use Rattle.text.specs.Answers.{units_text}
use Rattle.text.proofs.UnitLaws.{count_left}

-- a length code that was read
pub record LengthCode (xs : List ℕ) (at n p : ℕ) : Type 0 where
  pub read : BS.read xs at ≡ got n p
  pub on : at ≤ p
  pub inside : p ≤ size xs
  pub small : n < 2 ^ 16

pub length_code : (xs : List ℕ) (at : ℕ) {n p : ℕ} → got n p ≡ BS.read xs at → LengthCode xs at n p
length_code xs at e =
    let o = sym e in
    let i = ends_inside BS BS_past xs at o in
    record { read = o; on = i.0; inside = i.1; small = read_below BS BS_below xs at o }

-- one pass over the units that are left judges them all
pub all_valid : (xs : List ℕ) (at n : ℕ) {padded b : Bool} → padded ≡ ends_in_zero (units_at xs at 2 n)
    → b ≡ paired_from false (units_at xs at 2 (n - bit padded)) → b ≡ valid wide (unclosed (units_at xs at 2 n))
all_valid xs at n e f =
    f ∙ ap (λ (m : ℕ). paired_from false (units_at xs at 2 m)) (count_left xs at 2 n e) ∙ ap (paired_from false) (sym (unclosed_units xs at 2 n))

module _ (source : Source) (w : UnitWidth) (xs : List ℕ) (at n p : ℕ) where
  -- what n units at a place are by the definition
  abbrev defined : Out ℕ Text
  defined = units_text source w at ((units (unit_bytes w) n).read xs at)

  module _ (fits : 8 * (unit_bytes w * n) ≤ size xs - at) (next : p ≡ at + 8 * (unit_bytes w * n)) where
    abbrev laid : List ℕ
    laid = units_at xs at (unit_bytes w) n

    there : (units (unit_bytes w) n).read xs at ≡ got laid p
    there = units_there (unit_bytes w) n xs at fits ∙ ap (got laid) (sym next)

    pub units_found : {padded : Bool} → padded ≡ ends_in_zero laid → valid w (unclosed laid) ≡ true
        → got (text_at source w at (n - bit padded) padded) p ≡ defined
    units_found e l =
        ap₂ (λ (m : ℕ) (b : Bool). got (text_at source w at m b) p) (count_left xs at (unit_bytes w) n e) e
        ∙ sym (ap (units_text source w at) there ∙ rw (l, units_text))

    pub units_bad : valid w (unclosed laid) ≡ false → refused NotUtf16 p ≡ defined
    units_bad l = sym (ap (units_text source w at) there ∙ rw (l, units_text))

  pub units_cut : {r : Refusal} → size xs - at < 8 * (unit_bytes w * n) → r ≡ TooFewBits → p ≡ at + (size xs - at) / 8 * 8 → refused r p ≡ defined
  units_cut h e f = ap₂ refused e f ∙ sym (ap (units_text source w at) (units_short (unit_bytes w) n xs at h))
