-- What the calls answer, and the lists afterwards, from the definition of a whole call. Assumes nothing.
use Rattle.std.specs.Prelude.{◌≡◌, List, ◌++◌, ℕ, Float, length, drop, map, Option, Some, None, Result, Ok, Err}
use Rattle.bitcursor.specs.declared.Refused.{Refused}
use Rattle.bitcursor.specs.Reading.{Out, got, refused}
use Rattle.bitcursor.specs.Inputs.{Places}
use Rattle.hatch_format.specs.declared.GradientColor.{GradientColor}
use Rattle.hatch_format.specs.declared.GradientColorBits.{GradientColorBits}
use Rattle.hatch_format.specs.declared.Hatch.{Hatch}
use Rattle.hatch_format.specs.Caps.{document_caps}
use Rattle.hatch_format.specs.Values.{Rest, Body}
use Rattle.hatch_format.specs.Entries.{words, numbers}
use Rattle.hatch_format.specs.Record.{HatchBits, record_of, hatch_as, double, color_as_doubles}
use Rattle.hatch_format.specs.HandleRule.{in_payload}
use Rattle.hatch_format.specs.Call.{Strings, none, lent, hatch_call}
use Rattle.hatch_body.specs.declared.Parts.{Parts}
use Rattle.hatch_body.specs.Parts.{BodyIs, Readable}
use Rattle.hatch_record.specs.declared.Lengths.{Lengths}
use Rattle.hatch.specs.declared.calls.Strings.{Strings as CodeStrings}

-- ---- the record, or the refusal and its places; each double as what `of` makes of its 64 bits, each colour as what `color` makes of it
abbrev pub as_hatch : {N C : Type 0} → (ℕ → N) → (GradientColorBits → C) → Out Places Body → Result (Hatch N C) (Refused Places)
as_hatch of color (got a q) = Ok (hatch_as of color (record_of a q))
as_hatch of color (refused k q) = Err (record { refusal = k; place = q })

-- with each double as its 64 bits
abbrev pub as_bits : Out Places Body → Result HatchBits (Refused Places)
as_bits (got a q) = Ok (record_of a q)
as_bits (refused k q) = Err (record { refusal = k; place = q })

-- with each double as the double that it is, the NaN where its 64 bits are a NaN's
abbrev pub as_data : Out Places Body → Result (Hatch Float GradientColor) (Refused Places)
as_data = as_hatch double color_as_doubles

-- ---- a list afterwards: the entries and then what was there; unchanged on a refusal
abbrev pub filled : {A : Type 0} → (Rest → List A) → Out Places Body → List A → List A
filled e (got a q) l = e a.rest ++ drop (length (e a.rest)) l
filled e (refused k q) l = l

-- a body's numbers, each as what `of` makes of its 64 bits
abbrev pub numbers_as : {N : Type 0} → (ℕ → N) → Rest → List N
numbers_as of a = map of (numbers a)

abbrev pub doubles : Rest → List Float
doubles = numbers_as double

abbrev pub words_after : Out Places Body → List ℕ → List ℕ
words_after o l = filled words o l

abbrev pub numbers_after : Out Places Body → List ℕ → List ℕ
numbers_after o l = filled numbers o l

abbrev pub doubles_after : Out Places Body → List Float → List Float
doubles_after o l = filled doubles o l

-- ---- what a call ensures by what the definition reads: its answer, and each list before and after it
abbrev pub Reads : {N C : Type 0} → (ℕ → N) → (GradientColorBits → C) → Out Places Body → Result (Hatch N C) (Refused Places)
    → (numbers numbers' : List N) (words words' : List ℕ) → Type 0
Reads of color o r numbers numbers' words words' =
    (r ≡ as_hatch of color o) × ((numbers' ≡ filled (numbers_as of) o numbers) × (words' ≡ words_after o words))

-- ---- the calls: document 01's caps, and boundary handles in the payload
abbrev pub call_of : ℕ → List ℕ → ℕ → Strings → ℕ → ℕ → Out Places Body
call_of release xs start strings nw nn =
    hatch_call
    (record { release = release; main = xs; start = start; strings = strings; caps = document_caps; handles = in_payload; words = nw; numbers = nn })

-- what a caller lends of strings
abbrev pub strings_of : Option CodeStrings → Strings
strings_of (Some s) = lent s.bytes.now s.start s.end
strings_of None = none

-- ---- what the functions ensure that hand on a body's parts, for one list of numbers in the terms above
pub record ReadsParts {A : Type 0} (e : Rest → List A) (xs : List ℕ) (o : Out Places Body) (r : Result Parts (Refused Places)) (numbers numbers' : List A)
    (words words' : List ℕ) : Type 0 where
  pub body : BodyIs xs o r
  pub readable : Readable xs r
  pub numbers_then : numbers' ≡ filled e o numbers
  pub words_then : words' ≡ words_after o words

-- ---- the lengths that a readable hatch needs, whatever is lent
abbrev pub as_lengths : Out Places Body → Result Lengths (Refused Places)
as_lengths (got a q) = Ok (record { words = length (words a.rest); numbers = length (numbers a.rest); places = q })
as_lengths (refused k q) = Err (record { refusal = k; place = q })

-- longer than any list is
abbrev pub most : ℕ
most = 18_446_744_073_709_551_615
