-- Where a string reader starts, what its next text is, and where it stands afterwards. Assumes nothing.
use Rattle.std.specs.Prelude.{◌≡◌, List, ℕ, ◌-◌, leb, Result, Ok, Err}
use Rattle.std.specs.Borrow.{Bor}
use Rattle.loads.specs.Bits.{size}
use Rattle.bitcursor.specs.Reading.{Out, got, refused, place}
use Rattle.bitcursor.specs.Answers.{limited, answer}
use Rattle.bitcursor.specs.declared.Refusal.{Refusal}
use Rattle.bitcursor.specs.declared.Refused.{Refused}
use Rattle.string_start.specs.Start.{start_in}
use Rattle.text.specs.declared.Text.{Text}
use Rattle.text.specs.Answers.{reader_text}
use Rattle.string_reader.specs.declared.StringReader.{StringReader}
use Rattle.string_reader.specs.declared.readings.NextText.{NextText}

-- where a reader of any payload starts: refusal 10 at the start where the payload is above the limit
abbrev pub start_at : List ℕ → ℕ → Out ℕ (Unit {0})
start_at xs p = limited (λ ys. start_in (size ys)) xs p

-- the next text at a place: the call by value
abbrev pub text_at : List ℕ → ℕ → ℕ → Out ℕ Text
text_at xs p end = limited (reader_text end) xs p

-- the reader of a payload at a place, with an end bit
abbrev pub reader_on : Bor (List ℕ) → ℕ → ℕ → StringReader
reader_on payload p end = record { payload = payload; place = p; end_bit = end }

-- what `new` gives: a reader at the start's place, or the refusal and its place
abbrev pub opened : Bor (List ℕ) → ℕ → Out ℕ (Unit {0}) → Result StringReader (Refused ℕ)
opened payload end (got u p) = Ok (reader_on payload p end)
opened payload end (refused r p) = Err (record { refusal = r; place = p })

abbrev pub Opens : Bor (List ℕ) → ℕ → ℕ → Result StringReader (Refused ℕ) → Type 0
Opens payload start end r = r ≡ opened payload end (start_at payload.now start)

-- what `read_tv` gives: the text's answer, and the reader at the place afterwards
abbrev pub ReadsText : StringReader → Result Text Refusal → StringReader → Type 0
ReadsText h a r = let o = text_at h.payload.now h.place h.end_bit in (a ≡ answer o) × (r ≡ reader_on h.payload (place o) h.end_bit)

-- a reader made at a start bit, its next text, and what it says afterwards. Where no reader is made, it stands at the refusal's place
abbrev pub next_text : List ℕ → ℕ → ℕ → NextText
next_text xs start end =
    record {
      start = answer (start_at xs start);
      text = answer (text_at xs (place (start_at xs start)) end);
      exhausted = leb end (place (text_at xs (place (start_at xs start)) end));
      position = place (text_at xs (place (start_at xs start)) end);
      remaining = end - place (text_at xs (place (start_at xs start)) end);
    }
