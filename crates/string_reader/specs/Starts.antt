-- Where a string reader starts (document 02, L4), for every start bit and every payload: of the reader that holds its payload, and of a text by value, which is
-- told where its reader stands and seeks nothing. Assumes nothing.
use Rattle.std.specs.Prelude.{◌≡◌, refl, Bool, true, false, List, ℕ, ◌*◌, ◌≤◌, ◌<◌, leb, length}
use Rattle.std.proofs.Math.Path.{sym, ap, ap₂}
use Rattle.std.proofs.Common.{◌∙◌}
use Rattle.bitcursor.specs.declared.Refusal.TheVariants.{TooFewBits, PayloadTooLong}
use Rattle.loads.specs.Bits.{size, limit}
use Rattle.bitcursor.specs.Reading.{Out, got, refused}
use Rattle.bitcursor.specs.Code.{measured}
use Rattle.bitcursor.specs.Stops.{BS_past}
use Rattle.bitcursor.specs.Answers.{limited}
use Rattle.bitcursor.proofs.Steps.{limit_within}
use Rattle.string_start.specs.Start.{start_in, inside, past}
use Rattle.text.specs.declared.Source.TheVariants.{String}
use Rattle.text.specs.declared.Text.{Text}
use Rattle.text.specs.Texts.{wide}
use Rattle.text.specs.Fields.{text_at as empty_text}
use Rattle.text.specs.Answers.{reader_text}
use Rattle.string_reader.specs.Readers.{start_at, text_at}

-- what a text is whose reader stands at its payload's end or past it: empty at or past the end bit, else refusal 1 there
abbrev pub beyond_by : (p : ℕ) → (exhausted : Bool) → Out ℕ Text
beyond_by p true = got (empty_text String wide p 0 false) p
beyond_by p false = refused TooFewBits p

abbrev pub text_beyond : (end p : ℕ) → Out ℕ Text
text_beyond end p = beyond_by p (leb end p)

beyond : (xs : List ℕ) (p end : ℕ) → size xs ≤ p → reader_text end xs p ≡ text_beyond end p
unfolding reader_text measured
beyond xs p end h = go (leb end p) refl
  where
    go : (b : Bool) → leb end p ≡ b → reader_text end xs p ≡ beyond_by p b
    go true e = rw (e, reader_text)
    go false e = rw (e, reader_text, BS_past xs p h)

module _ (xs : List ℕ) (p : ℕ) (w : length xs ≤ limit) where
  -- it starts anywhere in its payload, the end included
  pub start_inside : p ≤ size xs → start_at xs p ≡ got tt p
  start_inside h = limit_within (λ ys. start_in (size ys)) xs p w ∙ inside (size xs) p h

  -- a start past the payload is refusal 1 at the payload's end
  pub start_past : size xs < p → start_at xs p ≡ refused TooFewBits (size xs)
  start_past h = limit_within (λ ys. start_in (size ys)) xs p w ∙ past (size xs) p h

  -- a text by value at or past that end
  pub text_past : (end : ℕ) → size xs ≤ p → text_at xs p end ≡ text_beyond end p
  text_past end h = limit_within (reader_text end) xs p w ∙ beyond xs p end h

-- no bit of the payload is looked at for a start: of two payloads of one length a reader starts at the same place or is refused alike, and so is a text
-- whose reader stands at their end or past it
module _ (xs ys : List ℕ) (e : length ys ≡ length xs) (p : ℕ) where
  -- refusal 10 by a payload's length, else what is read of it
  abbrev by_length : {A : Type 0} → ℕ → Out ℕ A → Out ℕ A
  by_length n o = elim (leb n limit) [ true ↦ o | false ↦ refused PayloadTooLong p ]

  pub same_start : start_at ys p ≡ start_at xs p
  unfolding limited
  same_start = ap (λ (n : ℕ). by_length n (start_in (8 * n) p)) e

  pub same_text_past : (end : ℕ) → size xs ≤ p → text_at ys p end ≡ text_at xs p end
  unfolding limited
  same_text_past end h = ap₂ by_length e (beyond ys p end (rw e h) ∙ sym (beyond xs p end h))
