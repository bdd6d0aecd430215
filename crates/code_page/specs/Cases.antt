-- Document 02's cases: what calls answer. proofs/Cases.antt computes them by the definitions, in one proof over the whole table. Assumes nothing.
use Rattle.std.specs.Prelude.{Option, Ok, Err, List, [], ◌∷◌, ℕ}
use Rattle.code_page.specs.declared.refusal.ConversionRefusal.TheVariants.{UndefinedCharacter, OutputTooShort}
use Rattle.code_page.specs.Mapping.{unit_of, byte_of}
use Rattle.code_page.specs.Conversion.{Conversion, conversion}

-- a call, and what it answers
pub record Case : Type 0 where
  pub way : ℕ → Option ℕ
  pub input : List ℕ
  pub room : ℕ
  pub outcome : Conversion ℕ

abbrev to_units : List ℕ → ℕ → Conversion ℕ → Case
to_units bytes room o = record { way = unit_of; input = bytes; room = room; outcome = o }

abbrev to_bytes : List ℕ → ℕ → Conversion ℕ → Case
to_bytes units room o = record { way = byte_of; input = units; room = room; outcome = o }

abbrev pub cases : List Case
cases =
    -- Küche, and the euro sign
    to_units (0x4B ∷ 0xFC ∷ 0x63 ∷ 0x68 ∷ 0x65 ∷ []) 5 (Ok (0x004B ∷ 0x00FC ∷ 0x0063 ∷ 0x0068 ∷ 0x0065 ∷ []))
    ∷ to_units (0x80 ∷ []) 1 (Ok (0x20AC ∷ []))
    -- an undefined byte, also behind others and without room
    ∷ to_units (0x81 ∷ []) 1 (Err UndefinedCharacter)
    ∷ to_units (0x41 ∷ 0x9D ∷ []) 2 (Err UndefinedCharacter)
    ∷ to_units (0x41 ∷ 0x81 ∷ []) 0 (Err UndefinedCharacter)
    -- less room than input, more, and nothing to convert
    ∷ to_units (0x41 ∷ 0x80 ∷ []) 1 (Err OutputTooShort)
    ∷ to_units (0x9F ∷ []) 9 (Ok (0x0178 ∷ []))
    ∷ to_units [] 0 (Ok [])
    -- the way back; neither the mark nor 80 to 9F are units of the table
    ∷ to_bytes (0x20AC ∷ 0x0178 ∷ 0x0041 ∷ 0x00FF ∷ []) 4 (Ok (0x80 ∷ 0x9F ∷ 0x41 ∷ 0xFF ∷ []))
    ∷ to_bytes (0xFFFF ∷ []) 1 (Err UndefinedCharacter)
    ∷ to_bytes (0x0080 ∷ []) 1 (Err UndefinedCharacter)
    ∷ to_bytes (0x0100 ∷ []) 0 (Err UndefinedCharacter)
    ∷ to_bytes (0x20AC ∷ []) 0 (Err OutputTooShort)
    ∷ []

abbrev pub answered : List Case → List (Conversion ℕ)
answered [] = []
answered (c ∷ cs) = conversion c.way c.input c.room ∷ answered cs

abbrev pub outcomes : List Case → List (Conversion ℕ)
outcomes [] = []
outcomes (c ∷ cs) = c.outcome ∷ outcomes cs
