-- Every text that is laid out, and every text that a call on one payload reads, has the padding that specs/Padding says. Assumes nothing.
use Rattle.std.specs.Prelude.{◌≡◌, refl, Bool, true, false, List, [], ℕ, ◌+◌, ◌-◌, ◌*◌, length}
use Rattle.std.proofs.Common.{sym, ap, subst, subst₂, ◌∙◌, arith}
use Rattle.bitcursor.specs.Reading.{Out, got, refused, never}
use Rattle.bitcursor.specs.Inputs.{Places, Payloads}
use Rattle.bitcursor.specs.Fields.{string, bytes_in, place_in, lifted, moved_in}
use Rattle.text.specs.declared.Source.{Source}
use Rattle.text.specs.declared.Source.TheVariants.{Main, String}
use Rattle.text.specs.declared.Text.{Text}
use Rattle.text.specs.declared.version.Version.{Version}
use Rattle.text.specs.Units.{units_at}
use Rattle.text.specs.Texts.{UnitWidth, narrow, wide, unit_bytes, unclosed, ends_in_zero, laid_out, Unpadded, Written, TV}
use Rattle.text.proofs.PaddedUnits.{laid_back, unpadded_back}
use Rattle.text.proofs.UnitsLeft.{length_units, unclosed_units}
use Rattle.text.specs.Parts.{parts, code_on, units_end, units_are}
use Rattle.text.specs.Fields.{text_of, laid_text, width_of, from_reader}
use Rattle.text.specs.Answers.{placed, inline_text, reader_text, payloads}
use Rattle.text.specs.FieldReads.{reader_reads}
use Rattle.text.specs.Layouts.{ReaderText, over, laid, reader_to}
use Rattle.text.specs.TextField.{InlineText, TextBy, TextLaid}
use Rattle.text.specs.Padding.{Padding, text_payload}

-- ---- the text that n units at r are
module _ (xs : List ℕ) (r k n : ℕ) where
  abbrev all : List ℕ
  all = units_at xs r k n

  abbrev left : List ℕ
  left = units_at xs r k (length (unclosed all))

  again : laid_out left (ends_in_zero all) ≡ all
  again = ap (λ (us : List ℕ). laid_out us (ends_in_zero all)) (sym (unclosed_units xs r k n)) ∙ laid_back all

  long : length (laid_out left (ends_in_zero all)) ≡ n
  long = ap length again ∙ length_units xs r k n

  there : units_at xs r k (length (laid_out left (ends_in_zero all))) ≡ laid_out left (ends_in_zero all)
  there = ap (units_at xs r k) long ∙ sym again

  not_padded : Unpadded left (ends_in_zero all)
  not_padded = subst (λ (us : List ℕ). Unpadded us (ends_in_zero all)) (unclosed_units xs r k n) (unpadded_back all)

units_padding : (source : Source) (w : UnitWidth) (xs : List ℕ) (r n : ℕ)
    → Padding xs (laid_text source w r (units_at xs r (unit_bytes w) n)) (r + 8 * (unit_bytes w * n))
units_padding source narrow xs r n =
    record { laid_there = there xs r 1 n; behind = omega (arith, long xs r 1 n); unpadded = not_padded xs r 1 n }
units_padding source wide xs r n =
    record { laid_there = there xs r 2 n; behind = omega (arith, long xs r 2 n); unpadded = not_padded xs r 2 n }

-- ---- the text that is written from p to s
module _ (source : Source) (w : UnitWidth) (xs : List ℕ) (p : ℕ) {u : Written} {s : ℕ} (e : (TV w).read xs p ≡ got u s) where
  written_at : (r n : ℕ) × (text_of source w p u ≡ laid_text source w r (units_at xs r (unit_bytes w) n)) × (s ≡ r + 8 * (unit_bytes w * n))
  written_at =
      let t = parts w xs p u s e in
      let on = code_on xs p t.length_code in
      let after : p + (t.r - p) ≡ t.r = omega arith in
      let are = units_are w xs t.n t.r t.units_read in (
        t.r,
        t.n,
        ap (text_of source w p) t.whole ∙ ap (λ (m : ℕ). laid_text source w m t.units_laid) after ∙ ap (laid_text source w t.r) (sym are),
        units_end w xs t.n t.r t.units_read,
      )

  pub written_padding : Padding xs (text_of source w p u) s
  written_padding = subst₂ (Padding xs) (sym written_at.2) (sym written_at.3) (units_padding source w xs written_at.0 written_at.1)

-- ---- every layout of a text
pub inline_padding : (w : UnitWidth) (γ : Payloads) (t : Text) (p q : Places) → InlineText w γ t p q → Padding γ.main t q.main
inline_padding w γ t p q l =
    let read = (TV w).complete γ.main l.0 p.main l.1.end l.1.laid in
    subst₂ (Padding γ.main) (sym l.2) (sym (ap (λ (s : Places). s.main) l.1.moved)) (written_padding Main w γ.main p.main read)

pub reader_padding : (γ : Payloads) (t : Text) (p q : Places) → ReaderText γ t p q → Padding γ.string t q.string
unfolding units_at
reader_padding γ t p q (over h e f) =
    let at = p.string in
    let end : at + 8 * (2 * 0) ≡ q.string = omega (arith, ap (λ (s : Places). s.string) f) in
    subst₂ (Padding γ.string) (sym e) end (units_padding String wide γ.string at 0)
reader_padding γ t p q (laid u h l f e) =
    let read = (TV wide).complete γ.string u p.string l.end l.laid in
    subst₂ (Padding γ.string) (sym e) (sym (ap (λ (s : Places). s.string) l.moved)) (written_padding String wide γ.string p.string read)

pub text_padding : (v : Version) (γ : Payloads) (t : Text) (p q : Places) → TextLaid v γ t p q
    → Padding (bytes_in (text_payload γ.reader) γ) t (place_in (text_payload γ.reader) q)
text_padding v γ t p q l = go γ.reader l
  where
    go : (b : Bool) → TextBy b v γ t p q → Padding (bytes_in (text_payload b) γ) t (place_in (text_payload b) q)
    go true m = reader_padding γ t p q m
    go false m = inline_padding (width_of v) γ t p q m

-- ---- every text that a call on one payload reads
pub inline_read : (v : Version) (xs : List ℕ) (p : ℕ) {t : Text} {q : ℕ} → inline_text v xs p ≡ got t q → Padding xs t q
unfolding inline_text
inline_read v xs p {t} {q} e = go ((TV (width_of v)).read xs p) refl e
  where
    go : (o : Out ℕ Written) → (TV (width_of v)).read xs p ≡ o → placed Main (width_of v) p o ≡ got t q → Padding xs t q
    go (got u s) f m =
        let et : text_of Main (width_of v) p u ≡ t = cc in
        let es : s ≡ q = cc in
        subst₂ (Padding xs) et es (written_padding Main (width_of v) xs p f)
    go (refused r s) f m = never m

pub reader_read : (end : ℕ) (xs : List ℕ) (p : ℕ) {t : Text} {q : ℕ} → reader_text end xs p ≡ got t q → Padding xs t q
reader_read end xs p {t} {q} e =
    let γ = payloads [] xs true end in
    let from : Places = record { main = 0; string = p } in
    let to = moved_in string from q in
    reader_padding γ t from to (reader_to γ t from to (from_reader.sound γ t from to (reader_reads γ from ∙ ap (lifted string from) e)))
