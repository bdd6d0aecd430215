-- A text as a field reads what the one-payload definitions read, with the other payload's place unmoved. Assumes nothing.
use Rattle.std.specs.Prelude.{◌≡◌, Bool, ◌||◌, List, eqb}
use Rattle.std.proofs.Math.Path.{refl}
use Rattle.std.proofs.Math.Bool.{true, false}
use Prim.Native.Nat.{ℕ, ◌+◌, ◌*◌}
use Rattle.std.proofs.Math.Dec.{leb}
use Rattle.bitcursor.specs.declared.Refusal.TheVariants.{TextPastEnd}
use Rattle.bitcursor.specs.Reading.{Out, got, refused, and_then}
use Rattle.bitcursor.specs.Code.{measured}
use Rattle.bitcursor.specs.Codes.{BS}
use Rattle.bitcursor.specs.Inputs.{both, Places, Payloads}
use Rattle.bitcursor.specs.Format.{Format, pure, refuse, ◌>>=◌, peek, either}
use Rattle.bitcursor.specs.Fields.{main, string, part_in, field, lifted, moved_in}
use Rattle.text.specs.declared.Source.TheVariants.{Main, String}
use Rattle.text.specs.declared.Text.{Text}
use Rattle.text.specs.declared.version.Version.{Version}
use Rattle.text.specs.Units.{units}
use Rattle.text.specs.Texts.{wide, Written, checked_units, TV}
use Rattle.text.specs.Fields.{text_of, text_at, width_of, here, inline, past_end, room_for, from_reader}
use Rattle.text.specs.Answers.{placed, inline_text, reader_text}

module _ (γ : Payloads) (p : Places) where
  pub inline_reads : (v : Version) → (inline (width_of v)).read γ p ≡ lifted main p (inline_text v γ.main p.main)
  unfolding inline here peek ◌>>=◌ pure part_in inline_text
  inline_reads v = go ((TV (width_of v)).read γ.main p.main)
    where
      go : (o : Out ℕ Written) → and_then (lifted main p o) (λ t q. got (text_of Main (width_of v) p.main t) q)
          ≡ lifted main p (placed Main (width_of v) p.main o)
      go (got t n) = refl
      go (refused r n) = refl

  -- the units of a reader's text, read and checked
  unfoldable units_of : ℕ × ℕ → Format both Text
  units_of m = field string (units 2 m.1) >>= λ laid. field string (checked_units wide m.0 laid) >>= λ t. pure (text_of String wide p.string t)

  -- the same in the reader's payload alone, behind the units
  abbrev placed_after : ℕ × ℕ → List ℕ → ℕ → Out ℕ Text
  placed_after m laid r = placed String wide p.string ((checked_units wide m.0 laid).read γ.string r)

  rest_reads : (m : ℕ × ℕ) (q : ℕ) → (units_of m).read γ (moved_in string p q)
      ≡ lifted string p (and_then ((units 2 m.1).read γ.string q) (placed_after m))
  unfolding units_of ◌>>=◌ part_in pure
  rest_reads m q = units_go ((units 2 m.1).read γ.string q)
    where
      checked_go : (k : ℕ) (o : Out ℕ Written) → and_then (lifted string (moved_in string p k) o) (λ t s. got (text_of String wide p.string t) s)
          ≡ lifted string p (placed String wide p.string o)
      checked_go k (got t n) = refl
      checked_go k (refused r n) = refl

      units_go : (o : Out ℕ (List ℕ))
          → and_then (lifted string (moved_in string p q) o) (λ laid s.
          and_then (lifted string s ((checked_units wide m.0 laid).read γ.string s.string)) (λ t s. got (text_of String wide p.string t) s))
          ≡ lifted string p (and_then o (placed_after m))
      units_go (got laid r) = checked_go r ((checked_units wide m.0 laid).read γ.string r)
      units_go (refused k r) = refl

  -- what follows the length code, in the reader's payload alone
  abbrev after : ℕ × ℕ → ℕ → Bool → Out ℕ Text
  after m q b =
      elim b [
        | true ↦ and_then ((units 2 m.1).read γ.string q) (placed_after m)
        | false ↦ refused TextPastEnd q
      ]

  room_reads : (m : ℕ × ℕ) (q : ℕ) (b : Bool) → (either b (units_of m) (refuse TextPastEnd tt)).read γ (moved_in string p q) ≡ lifted string p (after m q b)
  unfolding either refuse
  room_reads m q true = rest_reads m q
  room_reads m q false = refl

  -- the length code and what follows it
  unfoldable measured_text : Format both Text
  measured_text = field string (measured BS) >>= λ m. room_for m.1 >>= λ room. either room (units_of m) (refuse TextPastEnd tt)

  length_reads : measured_text.read γ p
      ≡ lifted string p (and_then ((measured BS).read γ.string p.string) (λ m q. after m q (eqb m.1 0 || leb (q + 16 * m.1) γ.end)))
  unfolding measured_text ◌>>=◌ part_in room_for peek
  length_reads = go ((measured BS).read γ.string p.string)
    where
      go : (o : Out ℕ (ℕ × ℕ))
          → and_then (lifted string p o) (λ m s. (either (eqb m.1 0 || leb (s.string + 16 * m.1) γ.end) (units_of m) (refuse TextPastEnd tt)).read γ s)
          ≡ lifted string p (and_then o (λ m q. after m q (eqb m.1 0 || leb (q + 16 * m.1) γ.end)))
      go (got m q) = room_reads m q (eqb m.1 0 || leb (q + 16 * m.1) γ.end)
      go (refused r q) = refl

  over_reads : (b : Bool) → (either b (pure (text_at String wide p.string 0 false)) measured_text).read γ p
      ≡ lifted string p (elim b [
        | true ↦ got (text_at String wide p.string 0 false) p.string
        | false ↦ and_then ((measured BS).read γ.string p.string) (λ m q. after m q (eqb m.1 0 || leb (q + 16 * m.1) γ.end))
      ])
  unfolding either pure
  over_reads true = refl
  over_reads false = length_reads

  pub reader_reads : from_reader.read γ p ≡ lifted string p (reader_text γ.end γ.string p.string)
  unfolding from_reader here past_end peek ◌>>=◌ reader_text measured_text units_of
  reader_reads = over_reads (leb γ.end p.string)
