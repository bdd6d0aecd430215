-- What a text's reading is as the calls' answers, the reader's rule on its one payload, and what a call on any input gives.
-- Assumes nothing.
use Rattle.std.specs.Prelude.{Option, Some, None, Bool, true, false, ◌||◌, List, ℕ, ◌+◌, ◌*◌, leb, eqb}
use Rattle.bitcursor.specs.declared.Refusal.TheVariants.{TextPastEnd, NotUtf16, UnknownRelease}
use Rattle.bitcursor.specs.Reading.{Out, got, refused, and_then}
use Rattle.bitcursor.specs.Code.{measured}
use Rattle.bitcursor.specs.Codes.{BS}
use Rattle.bitcursor.specs.Inputs.{Payloads}
use Rattle.text.specs.declared.Source.{Source}
use Rattle.text.specs.declared.Source.TheVariants.{Absent, Main, String}
use Rattle.text.specs.declared.Text.{Text}
use Rattle.text.specs.declared.version.Version.{Version}
use Rattle.text.specs.Units.{units}
use Rattle.text.specs.Texts.{UnitWidth, wide, unclosed, valid, Written, checked_units, TV}
use Rattle.text.specs.Fields.{text_at, text_of, laid_text, width_of}

-- which payload a text lies in, as a number
abbrev pub source_number : Source → ℕ
source_number Absent = 0
source_number Main = 1
source_number String = 2

-- a text that was written from place `at` on
abbrev pub placed : Source → UnitWidth → ℕ → Out ℕ Written → Out ℕ Text
placed source w at (got t p) = got (text_of source w at t) p
placed source w at (refused r p) = refused r p

-- the text that n units at a place are: the units were read from there
abbrev pub units_text : Source → UnitWidth → ℕ → Out ℕ (List ℕ) → Out ℕ Text
units_text source w at (got laid p) =
    elim (valid w (unclosed laid)) [ true ↦ got (laid_text source w at laid) p | false ↦ refused NotUtf16 p ]
units_text source w at (refused r p) = refused r p

-- inline text of a release
unfoldable pub inline_text : Version → List ℕ → ℕ → Out ℕ Text
inline_text v xs p = placed Main (width_of v) p ((TV (width_of v)).read xs p)

-- the reader's rule, on its payload: at or past its end bit empty and unmoved; else a length code, and then length 0 or units that
-- end by the end bit, or refusal 6 right after the length code
unfoldable pub reader_text : ℕ → List ℕ → ℕ → Out ℕ Text
reader_text end xs p =
    elim (leb end p) [
      | true ↦ got (text_at String wide p 0 false) p
      | false ↦ and_then ((measured BS).read xs p) (λ m q.
          elim (eqb m.1 0 || leb (q + 16 * m.1) end) [
            | true ↦ and_then ((units 2 m.1).read xs q) (λ laid r. placed String wide p ((checked_units wide m.0 laid).read xs r))
            | false ↦ refused TextPastEnd q
          ])
    ]

-- a call with any release number: refusal 9 where it is none of the seven
unfoldable pub released : {A : Type 0} → (Version → List ℕ → ℕ → Out ℕ A) → Option Version → List ℕ → ℕ → Out ℕ A
released f (Some v) xs p = f v xs p
released f None xs p = refused UnknownRelease p

-- ---- both payloads
abbrev pub payloads : List ℕ → List ℕ → Bool → ℕ → Payloads
payloads xs ys reader end = record { main = xs; string = ys; reader = reader; end = end }

-- a string reader is lent if its end bit is said
abbrev pub is_lent : Option ℕ → Bool
is_lent (Some end) = true
is_lent None = false

abbrev pub end_bit : Option ℕ → ℕ
end_bit (Some end) = end
end_bit None = 0

abbrev pub payloads_to : List ℕ → List ℕ → Option ℕ → Payloads
payloads_to xs ys reader = payloads xs ys (is_lent reader) (end_bit reader)
