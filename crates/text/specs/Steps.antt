-- A text read step by step: what follows its length code, inline and by the reader's rule. Assumes nothing.
use Rattle.std.specs.Prelude.{◌≡◌, refl, Bool, true, false, ◌||◌, List, ℕ, ◌+◌, ◌-◌, ◌*◌, ◌≤◌, ◌<◌, leb, eqb}
use Rattle.std.proofs.Common.{ap, ◌∙◌, le-leb, eq-eqb, ne_eqb}
use native.Mathlib.Omega.{arith}
use Rattle.std.proofs.lemmas.Bool.{lt-leb}
use Rattle.bitcursor.specs.declared.Refusal.{Refusal}
use Rattle.bitcursor.specs.declared.Refusal.TheVariants.{TextPastEnd, NotUtf16}
use Rattle.bitcursor.specs.Reading.{Out, got, refused, and_then}
use Rattle.bitcursor.specs.Code.{give, refuse, ◌>>=◌, measured}
use Rattle.bitcursor.specs.Codes.{BS}
use Rattle.bitcursor.specs.Handles.{checked}
use Rattle.text.specs.declared.Source.{Source}
use Rattle.text.specs.declared.Source.TheVariants.{Main, String}
use Rattle.text.specs.Units.{units}
use Rattle.text.specs.Texts.{UnitWidth, wide, unit_bytes, unclosed, valid, checked_units, written_of, TV, TV_read}
use Rattle.text.specs.Fields.{text_at, laid_text}
use Rattle.text.specs.Answers.{placed, units_text, reader_text}

-- ---- after a length code that ends at p
module _ (source : Source) (w : UnitWidth) (xs : List ℕ) (at p : ℕ) (on : at ≤ p) where
  checked_text : (laid : List ℕ) (q : ℕ) → placed source w at ((checked_units w (p - at) laid).read xs q) ≡ units_text source w p (got laid q)
  unfolding checked_units checked give refuse
  checked_text laid q = go (valid w (unclosed laid))
    where
      e : at + (p - at) ≡ p
      e = omega arith

      go : (b : Bool) → placed source w at ((checked b (give (written_of (p - at) laid)) (refuse NotUtf16 tt)).read xs q)
          ≡ elim b [ true ↦ got (laid_text source w p laid) q | false ↦ refused NotUtf16 q ]
      go true = ap (λ (m : ℕ). got (laid_text source w m laid) q) e
      go false = refl

  pub inline_rest : (o : Out ℕ (List ℕ)) → placed source w at (and_then o (λ laid q. (checked_units w (p - at) laid).read xs q)) ≡ units_text source w p o
  inline_rest (got laid q) = checked_text laid q
  inline_rest (refused r q) = refl

  pub reader_rest : (o : Out ℕ (List ℕ)) → and_then o (λ laid q. placed source w at ((checked_units w (p - at) laid).read xs q)) ≡ units_text source w p o
  reader_rest (got laid q) = checked_text laid q
  reader_rest (refused r q) = refl

-- ---- inline text, by its length code
module _ (w : UnitWidth) (xs : List ℕ) (at : ℕ) where
  pub inline_got : {n p : ℕ} → BS.read xs at ≡ got n p → at ≤ p
      → placed Main w at ((TV w).read xs at) ≡ units_text Main w p ((units (unit_bytes w) n).read xs p)
  unfolding TV TV_read ◌>>=◌ measured
  inline_got {n} {p} e on = rw e (inline_rest Main w xs at p on ((units (unit_bytes w) n).read xs p))

  pub inline_refused : {r : Refusal} {p : ℕ} → BS.read xs at ≡ refused r p → placed Main w at ((TV w).read xs at) ≡ refused r p
  unfolding TV TV_read ◌>>=◌ measured
  inline_refused e = rw e

-- ---- text from a reader, step by step
module _ (end : ℕ) (xs : List ℕ) (at : ℕ) where
  pub reader_over : end ≤ at → reader_text end xs at ≡ got (text_at String wide at 0 false) at
  unfolding reader_text
  reader_over h = rw (le-leb end at h, reader_text)

  module _ (before : at < end) where
    reader_on : {m : ℕ × ℕ} {q : ℕ} → (measured BS).read xs at ≡ got m q → reader_text end xs at
        ≡ elim (eqb m.1 0 || leb (q + 16 * m.1) end) [
          | true ↦ and_then ((units 2 m.1).read xs q) (λ laid r. placed String wide at ((checked_units wide m.0 laid).read xs r))
          | false ↦ refused TextPastEnd q
        ]
    unfolding reader_text
    reader_on e = rw (lt-leb end at before, e, reader_text)

    pub reader_refused : {r : Refusal} {p : ℕ} → BS.read xs at ≡ refused r p → reader_text end xs at ≡ refused r p
    unfolding reader_text measured
    reader_refused e = rw (lt-leb end at before, e, reader_text)

    module _ {n p : ℕ} (e : BS.read xs at ≡ got n p) (on : at ≤ p) where
      length_read : (measured BS).read xs at ≡ got (p - at, n) p
      unfolding measured
      length_read = rw e

      pub reader_past : (n ≡ 0 → ⊥) → end < p + 16 * n → reader_text end xs at ≡ refused TextPastEnd p
      reader_past z h = reader_on length_read ∙ rw (ne_eqb n 0 z, lt-leb (p + 16 * n) end h)

      fits_text : eqb n 0 || leb (p + 16 * n) end ≡ true → reader_text end xs at ≡ units_text String wide p ((units 2 n).read xs p)
      fits_text t = reader_on length_read ∙ rw t (reader_rest String wide xs at p on ((units 2 n).read xs p))

      pub reader_empty : n ≡ 0 → reader_text end xs at ≡ units_text String wide p ((units 2 0).read xs p)
      reader_empty z =
          fits_text (rw (eq-eqb n 0 z)) ∙ ap (λ (m : ℕ). units_text String wide p ((units 2 m).read xs p)) z

      pub reader_units : (n ≡ 0 → ⊥) → p + 16 * n ≤ end → reader_text end xs at ≡ units_text String wide p ((units 2 n).read xs p)
      reader_units z h = fits_text (rw (ne_eqb n 0 z, le-leb (p + 16 * n) end h))
