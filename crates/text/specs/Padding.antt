-- What every text that is laid out says of its units: those at its position and its padding together are what was laid out there, up to
-- the place behind it; and where it is not padded they do not end in a zero. That every text does is proved in proofs/PaddedTexts. Assumes nothing.
use Rattle.std.specs.Prelude.{◌≡◌, Bool, true, false, List, ℕ, ◌+◌, ◌*◌, ◌/◌, length}
use Rattle.bitcursor.specs.Fields.{Payload, main, string}
use Rattle.text.specs.declared.Text.{Text}
use Rattle.text.specs.Units.{units_at}
use Rattle.text.specs.Texts.{laid_out, Unpadded}

-- the units of a text, taken out of its payload
abbrev pub units_in : List ℕ → Text → List ℕ
units_in xs t = units_at xs t.position (t.width / 8) t.count

-- the same and, if it is padded, one zero behind them
abbrev pub laid_in : List ℕ → Text → List ℕ
laid_in xs t = laid_out (units_in xs t) t.padded

-- a text in a payload, and the place behind it
pub record Padding (xs : List ℕ) (t : Text) (q : ℕ) : Type 0 where
  pub laid_there : units_at xs t.position (t.width / 8) (length (laid_in xs t)) ≡ laid_in xs t
  pub behind : q ≡ t.position + t.width * length (laid_in xs t)
  pub unpadded : Unpadded (units_in xs t) t.padded

-- the payload that texts come from: the reader's, if one is lent
abbrev pub text_payload : Bool → Payload
text_payload true = string
text_payload false = main
