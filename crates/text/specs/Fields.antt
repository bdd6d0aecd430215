-- Texts as fields of a format: inline in the main payload, or from the lent string reader by the reader's rule. Assumes nothing.
use Rattle.std.specs.Prelude.{Bool, true, false, ◌||◌, List, ℕ, ◌+◌, ◌*◌, leb, eqb, length}
use Rattle.bitcursor.specs.declared.Refusal.TheVariants.{TextPastEnd}
use Rattle.bitcursor.specs.Code.{measured}
use Rattle.bitcursor.specs.Codes.{BS}
use Rattle.bitcursor.specs.Inputs.{both}
use Rattle.bitcursor.specs.Format.{Format, pure, refuse, ◌>>=◌, peek, either}
use Rattle.bitcursor.specs.Fields.{Payload, main, string, place_in, field}
use Rattle.text.specs.declared.Source.{Source}
use Rattle.text.specs.declared.Source.TheVariants.{Main, String}
use Rattle.text.specs.declared.Text.{Text}
use Rattle.text.specs.declared.version.Version.{Version}
use Rattle.text.specs.Releases.{release_number}
use Rattle.text.specs.Units.{units}
use Rattle.text.specs.Texts.{UnitWidth, narrow, wide, unit_bytes, unclosed, ends_in_zero, Written, checked_units, TV}

-- document 01's text: payload, unit width, position of the first unit, unit count; and document 02's: whether a closing zero was dropped
abbrev pub text_at : Source → UnitWidth → ℕ → ℕ → Bool → Text
text_at source w position count padded = record { source = source; width = 8 * unit_bytes w; position = position; count = count; padded = padded }

-- the text whose length code begins at `at`
abbrev pub text_of : Source → UnitWidth → ℕ → Written → Text
text_of source w at t = text_at source w (at + t.code_bits) (length t.units) t.padded

-- the text whose units are laid out from a position on
abbrev pub laid_text : Source → UnitWidth → ℕ → List ℕ → Text
laid_text source w position laid = text_at source w position (length (unclosed laid)) (ends_in_zero laid)

-- the place in a payload
unfoldable pub here : Payload → Format both ℕ
here w = peek both (λ reader p. place_in w p)

abbrev pub width_by : Bool → UnitWidth
width_by true = wide
width_by false = narrow

-- 8-bit units before release 4, 16-bit units from it
abbrev pub width_of : Version → UnitWidth
width_of v = width_by (leb 4 (release_number v))

unfoldable pub inline : UnitWidth → Format both Text
inline w = do
  at ← here main
  t ← field main (TV w)
  pure (text_of Main w at t)

-- the reader's rule: at or past its end bit empty and unmoved; else a length code, and then length 0 or units that end by the end bit
unfoldable pub past_end : Format both Bool
past_end = peek both (λ reader p. leb reader.end p.string)

unfoldable pub room_for : ℕ → Format both Bool
room_for n = peek both (λ reader p. eqb n 0 || leb (p.string + 16 * n) reader.end)

unfoldable pub from_reader : Format both Text
from_reader = do
  at ← here string
  over ← past_end
  either over (pure (text_at String wide at 0 false)) (do
    m ← field string (measured BS)
    room ← room_for m.1
    either room (do
      laid ← field string (units 2 m.1)
      t ← field string (checked_units wide m.0 laid)
      pure (text_of String wide at t)) (refuse TextPastEnd tt))
