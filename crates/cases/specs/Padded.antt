-- Document 02's cases of padded names: what each text says of a closing zero, with its unit width, its position and its unit count.
-- Assumes nothing.
use Rattle.std.specs.Prelude.{true, false, List, [], ◌∷◌, ◌++◌, ℕ, ◌+◌, ◌*◌, leb, ℤ, pos}
use Rattle.bitcursor.specs.Answers.{limited}
use Rattle.text.specs.Releases.{version_of}
use Rattle.text.specs.Answers.{released, inline_text, reader_text}
use Rattle.hatch_format.specs.Values.{Body}
use Rattle.hatch_format.specs.Call.{Strings, none, lent}
use Rattle.cases.specs.Shown.{Shown, reading, shown, Case, of_each_release}
use Rattle.cases.specs.Calls.{numbers_of, hatch_call_shown}

-- inline text from bit 0: release, payload
abbrev text_call : ℕ → List ℕ → Shown
text_call release xs = shown numbers_of (released (λ v. limited (inline_text v)) (version_of release) xs 0)

-- the bits of a unit
abbrev unit_bits : ℕ → ℕ
unit_bits release = elim (leb 4 release) [ true ↦ 16 | false ↦ 8 ]

-- the gradient's name and the pattern's of a hatch that has no lists
abbrev names_call : ℕ → List ℕ → Strings → Shown
names_call release xs strings = hatch_call_shown (λ (a : Body). numbers_of a.gradient.name ++ numbers_of a.name) release xs strings 0 0

-- a text's unit width, position and unit count, and 1 where it is padded
abbrev says : ℕ → ℕ → ℕ → ℕ → List ℤ
says width position count padded = pos width ∷ (pos position ∷ (pos count ∷ (pos padded ∷ [])))

-- Inline, at each release: one zero unit alone is count 0 and yes; length 0 is no; of two closing zeros one is dropped, and it is yes.
-- From a reader: at its end bit and past it no, and length 0 whose code crosses the end bit too; one zero unit alone yes.
-- Names of a hatch: a pattern's of one zero alone, at release 2 beside an absent gradient's, which is no; the same from a reader, and at its end bit;
-- at release 3 a gradient's of one zero alone, and the same with flag 0, which is absent and no.
unfoldable pub padded_cases : List Case
padded_cases =
    of_each_release (λ release. record {
      computed = text_call release (0x40 ∷ 0x40 ∷ 0x00 ∷ 0x00 ∷ []);
      stated = reading (says (unit_bits release) 10 0 1) (10 + unit_bits release) 0;
    }) (
    of_each_release (λ release. record { computed = text_call release (0x80 ∷ []); stated = reading (says (unit_bits release) 2 0 0) 2 0 }) (
    of_each_release (λ release. record {
      computed = text_call release (0x40 ∷ 0x80 ∷ 0x00 ∷ 0x00 ∷ 0x00 ∷ 0x00 ∷ []);
      stated = reading (says (unit_bits release) 10 1 1) (10 + 2 * unit_bits release) 0;
    }) (
    record { computed = shown numbers_of (reader_text 0 (0x40 ∷ 0x40 ∷ 0x00 ∷ 0x00 ∷ []) 0); stated = reading (says 16 0 0 0) 0 0 }
    ∷ record { computed = shown numbers_of (reader_text 3 (0x40 ∷ 0x40 ∷ 0x00 ∷ 0x00 ∷ []) 9); stated = reading (says 16 9 0 0) 9 0 }
    ∷ record { computed = shown numbers_of (reader_text 1 (0x80 ∷ []) 0); stated = reading (says 16 2 0 0) 2 0 }
    ∷ record { computed = shown numbers_of (reader_text 26 (0x40 ∷ 0x40 ∷ 0x00 ∷ 0x00 ∷ []) 0); stated = reading (says 16 10 0 1) 26 0 }
    ∷ record {
      computed = names_call 2 (0xa9 ∷ 0x40 ∷ 0x40 ∷ 0x2a ∷ 0xa0 ∷ []) none;
      stated = reading (says 0 0 0 0 ++ says 8 18 0 1) 36 0;
    }
    ∷ record {
      computed = names_call 2 (0xa9 ∷ 0xaa ∷ 0x80 ∷ []) (lent (0x40 ∷ 0x40 ∷ 0x00 ∷ 0x00 ∷ []) 0 26);
      stated = reading (says 0 0 0 0 ++ says 16 10 0 1) 18 26;
    }
    ∷ record {
      computed = names_call 2 (0xa9 ∷ 0xaa ∷ 0x80 ∷ []) (lent (0x40 ∷ 0x40 ∷ 0x00 ∷ 0x00 ∷ []) 0 0);
      stated = reading (says 0 0 0 0 ++ says 16 0 0 0) 18 0;
    }
    ∷ record {
      computed = names_call 3 (0x40 ∷ 0x6a ∷ 0xa9 ∷ 0x01 ∷ 0x00 ∷ 0xa9 ∷ 0xaa ∷ 0xa0 ∷ []) none;
      stated = reading (says 8 32 0 1 ++ says 8 50 0 0) 60 0;
    }
    ∷ record {
      computed = names_call 3 (0xaa ∷ 0xa9 ∷ 0x01 ∷ 0x00 ∷ 0xa9 ∷ 0xaa ∷ 0xa0 ∷ []) none;
      stated = reading (says 0 0 0 0 ++ says 8 42 0 0) 52 0;
    }
    ∷ [])))
