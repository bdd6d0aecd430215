-- A text field of a body: the reader's text where one is lent, inline text where none is. Assumes nothing.
use Rattle.std.specs.Prelude.{◌≡◌, refl, Bool, true, false, ℕ}
use Rattle.std.proofs.Common.{ap, subst, subst₂, ◌∙◌}
use Rattle.bitcursor.specs.Inputs.{both, Places, Payloads}
use Rattle.bitcursor.specs.Format.{Format, pure, relay, ◌>>=◌, peek, either, either_yes, either_no, reads}
use Rattle.bitcursor.specs.Fields.{main, string, Field, part_in, lifted}
use Rattle.text.specs.declared.Source.TheVariants.{Main}
use Rattle.text.specs.declared.Text.{Text}
use Rattle.text.specs.declared.version.Version.{Version}
use Rattle.text.specs.Texts.{UnitWidth, Written, TV}
use Rattle.text.specs.Fields.{width_of, text_of, here, inline}
use Rattle.text.specs.Answers.{inline_text, reader_text}
use Rattle.text.specs.FieldReads.{inline_reads, reader_reads}
use Rattle.text.specs.Layouts.{ReaderText, reader_text_format}

-- ---- its layouts, said directly
-- inline text: a length code and units in the main payload
abbrev pub InlineText : UnitWidth → Payloads → Text → Places → Places → Type 0
InlineText w γ t p q = (u : Written) × Field main (TV w) γ u p q × (t ≡ text_of Main w p.main u)

abbrev pub TextBy : Bool → Version → Payloads → Text → Places → Places → Type 0
TextBy true v γ t p q = ReaderText γ t p q
TextBy false v γ t p q = InlineText (width_of v) γ t p q

-- by the reader where one is lent, at every release
abbrev pub TextLaid : Version → Payloads → Text → Places → Places → Type 0
TextLaid v γ = TextBy γ.reader v γ

-- ---- its reading
unfoldable pub has_reader : Format both Bool
has_reader = peek both (λ reader p. reader.has_reader)

unfoldable pub TV_read : Version → Format both Text
TV_read v = do
  reader ← has_reader
  either reader reader_text_format (inline (width_of v))

inline_to : (w : UnitWidth) (γ : Payloads) (t : Text) (p q : Places) → (inline w).lays γ t p q → InlineText w γ t p q
unfolding inline here peek ◌>>=◌ pure part_in
inline_to w γ t p q l =
    let m = l.3 in (
      m.0,
      rw m.3.1 (subst (λ (r : Places). Field main (TV w) γ m.0 r m.1) l.2.1 m.2),
      m.3.0 ∙ ap (λ (n : ℕ). text_of Main w n m.0) l.2.0,
    )

inline_from : (w : UnitWidth) (γ : Payloads) (t : Text) (p q : Places) → InlineText w γ t p q → (inline w).lays γ t p q
unfolding inline here peek ◌>>=◌ pure part_in
inline_from w γ t p q l = (p.main, p, (refl, refl), (l.0, q, l.1, (l.2, refl)))

pub text_to : (v : Version) (γ : Payloads) (t : Text) (p q : Places) → (TV_read v).lays γ t p q → TextLaid v γ t p q
unfolding TV_read has_reader peek ◌>>=◌ either reader_text_format relay
text_to v γ t p q l =
    go γ.reader (subst₂ (λ (b : Bool) (r : Places). (either b reader_text_format (inline (width_of v))).lays γ t r q) l.2.0 l.2.1 l.3)
  where
    go : (b : Bool) → (either b reader_text_format (inline (width_of v))).lays γ t p q → TextBy b v γ t p q
    go true m = m
    go false m = inline_to (width_of v) γ t p q m

pub text_from : (v : Version) (γ : Payloads) (t : Text) (p q : Places) → TextLaid v γ t p q → (TV_read v).lays γ t p q
unfolding TV_read has_reader peek ◌>>=◌ either reader_text_format relay
text_from v γ t p q l = (γ.reader, p, (refl, refl), go γ.reader l)
  where
    go : (b : Bool) → TextBy b v γ t p q → (either b reader_text_format (inline (width_of v))).lays γ t p q
    go true m = m
    go false m = inline_from (width_of v) γ t p q m

unfoldable pub TV_field : Version → Format both Text
TV_field v = relay (TV_read v) (TextLaid v) (text_to v) (text_from v)

-- what it reads, by the one-payload definitions
module _ (γ : Payloads) (p : Places) (v : Version) where
  pub field_reader : γ.reader ≡ true → (TV_field v).read γ p ≡ lifted string p (reader_text γ.end γ.string p.string)
  unfolding TV_field TV_read has_reader peek ◌>>=◌ reader_text_format relay
  field_reader e = reads (either_yes reader_text_format (inline (width_of v)) e) γ p ∙ reader_reads γ p

  pub field_inline : γ.reader ≡ false → (TV_field v).read γ p ≡ lifted main p (inline_text v γ.main p.main)
  unfolding TV_field TV_read has_reader peek ◌>>=◌ relay
  field_inline e = reads (either_no reader_text_format (inline (width_of v)) e) γ p ∙ inline_reads γ p v
