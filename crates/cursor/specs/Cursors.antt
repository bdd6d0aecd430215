-- Where a cursor stands, what a reading at a cursor answers, and where the cursor stands afterwards. Assumes nothing.
use Rattle.std.specs.Prelude.{◌≡◌, List, ℕ, ◌+◌, ◌*◌, ◌/◌, ◌%◌, min, Result}
use Rattle.bitcursor.specs.Reading.{Out, place}
use Rattle.bitcursor.specs.Code.{Code}
use Rattle.bitcursor.specs.Answers.{limited, answer}
use Rattle.bitcursor.specs.declared.Refusal.{Refusal}
use Rattle.cursor.specs.declared.BitCursor.{BitCursor}

-- the last place that a usize can say, and a number of bits as a usize says it
abbrev pub last_place : ℕ
last_place = 18_446_744_073_709_551_615

abbrev pub saturated : ℕ → ℕ
saturated n = min n last_place

-- the place at which a cursor stands, and the cursor at a place
abbrev pub place_of : BitCursor → ℕ
place_of c = saturated (c.byte_pos * 8 + c.bit_pos)

abbrev pub cursor_at : ℕ → BitCursor
cursor_at p = record { byte_pos = p / 8; bit_pos = p % 8 }

-- a code read at a cursor: the call by value at the place at which the cursor stands
abbrev pub read_at : {A : Type 0} → Code A → List ℕ → BitCursor → Out ℕ A
read_at code xs c = limited code.read xs (place_of c)

-- the cursor afterwards: after a value behind it, on a refusal at the refusal's place
abbrev pub after : {A : Type 0} → Out ℕ A → BitCursor
after o = cursor_at (place o)

-- a reader of `BitCursor` gives the answer of a reading, and leaves the cursor behind it
abbrev pub Reads : {A : Type 0} → Out ℕ A → Result A Refusal → BitCursor → Type 0
Reads o r c = (r ≡ answer o) × (c ≡ after o)
