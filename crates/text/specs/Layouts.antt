-- The layouts of a reader's text, said directly: empty at or past the end bit; else an inline text of 16-bit units that ends by
-- the end bit, or is a length code of 0 alone. Assumes nothing.
use Rattle.std.specs.Prelude.{◌≡◌, refl, Bool, true, false, List, ◌⊎◌, ℕ, ◌+◌, ◌-◌, ◌*◌, ◌≤◌, ◌<◌}
use Rattle.std.proofs.Common.{sym, ap, ap₂, ◌∙◌, ⊎_elim, inl, inr, arith}
use Rattle.bitcursor.specs.declared.Refusal.TheVariants.{NotUtf16}
use Rattle.bitcursor.specs.Reading.{Out, got, refused, never}
use Rattle.bitcursor.specs.Codes.{BS}
use Rattle.bitcursor.specs.Bytes.{le_or_lt}
use Rattle.bitcursor.specs.Inputs.{both, Places, Payloads}
use Rattle.bitcursor.specs.Format.{Format, relay}
use Rattle.bitcursor.specs.Fields.{string, Field, lifted, moved_in}
use Rattle.text.specs.declared.Source.TheVariants.{String}
use Rattle.text.specs.declared.Text.{Text}
use Rattle.text.specs.Units.{units}
use Rattle.text.specs.Texts.{wide, unclosed, valid, Written, written_of, TV}
use Rattle.text.specs.Fields.{text_at, text_of, laid_text, from_reader}
use Rattle.text.specs.Answers.{units_text, reader_text}
use Rattle.text.specs.Steps.{reader_over, reader_refused, reader_past, reader_empty, reader_units}
use Rattle.text.specs.Parts.{Parts, parts, code_on, units_end, join}
use Rattle.text.specs.FieldReads.{reader_reads}

pub data ReaderText (γ : Payloads) (t : Text) (p q : Places) : Type 0 where
  over : γ.end ≤ p.string → t ≡ text_at String wide p.string 0 false → q ≡ p → ReaderText γ t p q
  laid : (u : Written) → p.string < γ.end → Field string (TV wide) γ u p q → (q.string ≤ γ.end) ⊎ (q.string ≡ p.string + u.code_bits)
      → t ≡ text_of String wide p.string u → ReaderText γ t p q

-- ---- what the reader's rule makes of the parts
module _ (xs : List ℕ) (p : ℕ) where
  ruled : (end : ℕ) {u : Written} {s : ℕ} → Parts wide xs p u s → p < end → (s ≤ end) ⊎ (s ≡ p + u.code_bits)
      → reader_text end xs p ≡ got (text_of String wide p u) s
  ruled end {u} {s} t h f =
      let on = code_on xs p t.length_code in
      let e = units_end wide xs t.n t.r t.units_read in
      let bits : u.code_bits ≡ t.r - p = ap (λ (v : Written). v.code_bits) t.whole in
      let text : units_text String wide t.r ((units 2 t.n).read xs t.r) ≡ got (text_of String wide p u) s =
      ap (units_text String wide t.r) t.units_read ∙ shown t.r t.units_laid s u t.valid_units t.whole on in
      ⊎_elim
      (λ (z : t.n ≤ 0).
      let y : t.n ≡ 0 = omega arith in
      reader_empty end xs p h t.length_code on y ∙ ap (λ (m : ℕ). units_text String wide t.r ((units 2 m).read xs t.r)) (sym y) ∙ text)
      (λ (z : 0 < t.n).
      let room : t.r + 16 * t.n ≤ end = ⊎_elim (λ (w : s ≤ end). omega arith) (λ (w : s ≡ p + u.code_bits). absurd (omega arith)) f in
      reader_units end xs p h t.length_code on (λ y. omega arith) room ∙ text)
      (le_or_lt t.n 0)
    where
      shown : (r : ℕ) (l : List ℕ) (s : ℕ) (u : Written) → valid wide (unclosed l) ≡ true → u ≡ written_of (r - p) l → p ≤ r
          → units_text String wide r (got l s) ≡ got (text_of String wide p u) s
      shown r l s u e f on =
          let m : p + (r - p) ≡ r = omega arith in
          rw (e, units_text)
          (ap (λ (k : ℕ). got (laid_text String wide k l) s) (sym m) ∙ ap (λ (v : Written). got (text_of String wide p v) s) (sym f))

-- ---- the rule's readings are these layouts
module _ (γ : Payloads) (t : Text) (p q : Places) where
  -- units that were read and checked after a length code
  finish : (n r : ℕ) → BS.read γ.string p.string ≡ got n r → p.string < γ.end → (n ≡ 0) ⊎ (r + 16 * n ≤ γ.end)
      → lifted string p (units_text String wide r ((units 2 n).read γ.string r)) ≡ got t q → ReaderText γ t p q
  finish n r f h room e = by_units ((units 2 n).read γ.string r) refl e
    where
      by_law : (l : List ℕ) (s : ℕ) → (units 2 n).read γ.string r ≡ got l s → (b : Bool) → valid wide (unclosed l) ≡ b
          → lifted string p (elim b [ true ↦ got (laid_text String wide r l) s | false ↦ refused NotUtf16 s ]) ≡ got t q → ReaderText γ t p q
      by_law l s g false k m = never m
      by_law l s g true k m =
          let u = written_of (r - p.string) l in
          let et : t ≡ laid_text String wide r l = cc in
          let eq : q ≡ moved_in string p s = cc in
          let on = code_on γ.string p.string f in
          let ends = units_end wide γ.string n r g in
          let after : p.string + (r - p.string) ≡ r = omega arith in
          let es : q.string ≡ s = ap (λ (w : Places). w.string) eq in
          let whole : Parts wide γ.string p.string u s =
          record { n = n; r = r; units_laid = l; length_code = f; units_read = g; valid_units = k; whole = refl } in
          let read = join wide γ.string p.string whole in
          laid u h (record { end = s; laid = (TV wide).sound γ.string u p.string s read; moved = eq })
          (⊎_elim (λ (z : n ≡ 0). inr (omega arith)) (λ (z : r + 16 * n ≤ γ.end). inl (omega arith)) room)
          (et ∙ ap (λ (k : ℕ). laid_text String wide k l) (sym after))

      by_units : (o : Out ℕ (List ℕ)) → (units 2 n).read γ.string r ≡ o → lifted string p (units_text String wide r o) ≡ got t q → ReaderText γ t p q
      by_units (refused a s) g m = never m
      by_units (got l s) g m = by_law l s g (valid wide (unclosed l)) refl m

  -- by the length code that was read
  by_length : (o : Out ℕ ℕ) → BS.read γ.string p.string ≡ o → p.string < γ.end
      → lifted string p (reader_text γ.end γ.string p.string) ≡ got t q → ReaderText γ t p q
  by_length (refused a r) f h e = never (sym (ap (lifted string p) (reader_refused γ.end γ.string p.string h f)) ∙ e)
  by_length (got n r) f h e =
      let on = code_on γ.string p.string f in
      ⊎_elim
      (λ (z : n ≤ 0).
      let y : n ≡ 0 = omega arith in
      let read = reader_empty γ.end γ.string p.string h f on y
      ∙ ap (λ (m : ℕ). units_text String wide r ((units 2 m).read γ.string r)) (sym y) in
      finish n r f h (inl y) (sym (ap (lifted string p) read) ∙ e))
      (λ (z : 0 < n).
      let y : n ≡ 0 → ⊥ = λ x. omega arith in
      ⊎_elim
      (λ (w : r + 16 * n ≤ γ.end). finish n r f h (inr w) (sym (ap (lifted string p) (reader_units γ.end γ.string p.string h f on y w)) ∙ e))
      (λ (w : γ.end < r + 16 * n). never (sym (ap (lifted string p) (reader_past γ.end γ.string p.string h f on y w)) ∙ e))
      (le_or_lt (r + 16 * n) γ.end))
      (le_or_lt n 0)

  pub reader_to : from_reader.lays γ t p q → ReaderText γ t p q
  reader_to l =
      let e : lifted string p (reader_text γ.end γ.string p.string) ≡ got t q = sym (reader_reads γ p) ∙ from_reader.complete γ t p q l in
      ⊎_elim
      (λ (w : γ.end ≤ p.string).
      let f : got (text_at String wide p.string 0 false) p ≡ got t q = sym (ap (lifted string p) (reader_over γ.end γ.string p.string w)) ∙ e in
      over w (cc) (cc))
      (λ (w : p.string < γ.end). by_length (BS.read γ.string p.string) refl w e)
      (le_or_lt γ.end p.string)

  pub reader_from : ReaderText γ t p q → from_reader.lays γ t p q
  reader_from (over h e f) =
      from_reader.sound γ t p q
      (reader_reads γ p ∙ ap (lifted string p) (reader_over γ.end γ.string p.string h) ∙ ap₂ got (sym e) (sym f))
  reader_from (laid u h l f e) =
      let r = (TV wide).complete γ.string u p.string l.end l.laid in
      let m : q.string ≡ l.end = ap (λ (s : Places). s.string) l.moved in
      let ends : (l.end ≤ γ.end) ⊎ (l.end ≡ p.string + u.code_bits) =
      ⊎_elim (λ (w : q.string ≤ γ.end). inl (omega arith)) (λ (w : q.string ≡ p.string + u.code_bits). inr (omega arith)) f in
      let read = ruled γ.string p.string γ.end (parts wide γ.string p.string u l.end r) h ends in
      from_reader.sound γ t p q (reader_reads γ p ∙ ap (lifted string p) read ∙ ap₂ got (sym e) (sym l.moved))

-- text from the lent reader, with its layouts said so
unfoldable pub reader_text_format : Format both Text
reader_text_format = relay from_reader ReaderText reader_to reader_from
