-- Cases of string starts by document 01's rule (document 02, L4): at bit 0; at the payload's end, with the end bit there and past it; one bit past the
-- payload; no bytes. Assumes nothing.
use Rattle.std.specs.Prelude.{List, [], ◌∷◌, ℕ, pos}
use Rattle.hatch_format.specs.Values.{Body}
use Rattle.hatch_format.specs.Call.{lent}
use Rattle.cases.specs.Shown.{Shown, reading, refusal, Case, of_each_release}
use Rattle.cases.specs.Calls.{numbers_of, hatch_call_shown}

-- the pattern's name of a hatch of release 2 that has no lists, with this string payload, start bit and end bit
abbrev name_call : List ℕ → ℕ → ℕ → Shown
name_call xs start end = hatch_call_shown (λ (a : Body). numbers_of a.name) 2 (0xa9 ∷ 0xaa ∷ 0x80 ∷ []) (lent xs start end) 0 0

-- a hatch of a release with no bytes, whose fields are not come to
abbrev none_call : ℕ → List ℕ → ℕ → ℕ → Shown
none_call release xs start end = hatch_call_shown (λ (a : Body). []) release [] (lent xs start end) 0 0

-- from bit 0 to 26 a text of one unit, and six bits behind it
abbrev one_text : List ℕ
one_text = 0x40 ∷ 0x50 ∷ 0x40 ∷ 0x00 ∷ []

-- From bit 0 that text is read. At bit 32, the payload's end, the reader stands: where that is the end bit too, the name is empty and the reader stays; where
-- the end bit lies behind it, the text is refused with 1, the places 8 and 32. At bit 33 no reader stands: the call of any release is refused with 1, the
-- places 0 and 32. No bytes: a start at bit 0, and one past it
unfoldable pub start_cases : List Case
start_cases =
    record { computed = name_call one_text 0 32; stated = reading (pos 16 ∷ (pos 10 ∷ (pos 1 ∷ (pos 0 ∷ [])))) 18 26 }
    ∷ record { computed = name_call one_text 32 32; stated = reading (pos 16 ∷ (pos 32 ∷ (pos 0 ∷ (pos 0 ∷ [])))) 18 32 }
    ∷ record { computed = name_call one_text 32 33; stated = refusal 1 8 32 }
    ∷ record { computed = name_call [] 0 0; stated = reading (pos 16 ∷ (pos 0 ∷ (pos 0 ∷ (pos 0 ∷ [])))) 18 0 }
    ∷ of_each_release (λ release. record { computed = none_call release one_text 33 33; stated = refusal 1 0 32 }) (
    of_each_release (λ release. record { computed = none_call release [] 1 1; stated = refusal 1 0 0 }) [])
