-- A whole hatch call on any input: what a caller gives, and the body with its final places or the refusal with its places. Assumes nothing.
use Rattle.std.specs.Prelude.{Option, Some, None, Bool, true, false, ◌&&◌, List, [], ℕ, leb, length}
use Rattle.bitcursor.specs.declared.Refusal.TheVariants.{UnknownRelease, PayloadTooLong, ListTooShort}
use Rattle.loads.specs.Bits.{size, limit}
use Rattle.bitcursor.specs.Reading.{Out, got, refused}
use Rattle.bitcursor.specs.Inputs.{Places, Payloads}
use Rattle.bitcursor.specs.Fields.{string, lifted}
use Rattle.string_start.specs.Start.{start_in}
use Rattle.text.specs.declared.version.Version.{Version}
use Rattle.text.specs.Releases.{version_of}
use Rattle.text.specs.Answers.{payloads}
use Rattle.hatch_format.specs.declared.Caps.{Caps}
use Rattle.hatch_format.specs.HandleRule.{Handles}
use Rattle.hatch_format.specs.Values.{Body}
use Rattle.hatch_format.specs.Entries.{words, numbers}
use Rattle.hatch_format.specs.Hatch.{hatch}

-- a lent string reader: its payload, its start bit and its end bit; or none
pub data Strings : Type 0 where
  none : Strings
  lent : (bytes : List ℕ) (start end : ℕ) → Strings

-- what a caller gives; of the two lent lists their lengths
pub record Call : Type 0 where
  pub release : ℕ
  pub main : List ℕ
  pub start : ℕ
  pub strings : Strings
  pub caps : Caps
  pub handles : Handles
  pub words : ℕ
  pub numbers : ℕ

-- without a reader the string payload is empty, and the second place is 0
abbrev pub string_bytes_of : Strings → List ℕ
string_bytes_of none = []
string_bytes_of (lent bytes start end) = bytes

abbrev pub string_start_of : Strings → ℕ
string_start_of none = 0
string_start_of (lent bytes start end) = start

abbrev pub string_end : Strings → ℕ
string_end none = 0
string_end (lent bytes start end) = end

abbrev pub has_reader : Strings → Bool
has_reader none = false
has_reader (lent bytes start end) = true

abbrev pub payloads_of : Call → Payloads
payloads_of c = payloads c.main (string_bytes_of c.strings) (has_reader c.strings) (string_end c.strings)

abbrev pub starts_of : Call → Places
starts_of c = record { main = c.start; string = string_start_of c.strings }

-- refusal 11: a readable hatch, a list too short
abbrev pub room_for : ℕ → ℕ → Out Places Body → Out Places Body
room_for nw nn (got a q) =
    elim (leb (length (words a.rest)) nw && leb (length (numbers a.rest)) nn) [ true ↦ got a q | false ↦ refused ListTooShort q ]
room_for nw nn (refused r q) = refused r q

-- where the string reader stands, or why it stands nowhere: by its payload's length in bits and its start bit, whatever the payload's bits are
abbrev pub reader_start : List ℕ → Places → Out Places (Unit {0})
reader_start xs p = lifted string p (start_in (size xs) p.string)

-- the order of the refusals, over payloads and start places: 9; 10 of the main payload, 10 of the string payload; a string start past its
-- payload, with the second place at that payload's end; the fields, read with the string reader at its start, of which the first refuses a start
-- past the main payload with 1 at that start; 11. The tests are: which release, whether each payload is within the limit, where the reader stands
module _ (caps : Caps) (handles : Handles) (nw nn : ℕ) (γ : Payloads) (p : Places) where
  abbrev pub call_by : Option Version → Bool → Bool → Out Places (Unit {0}) → Out Places Body
  call_by None main_within string_within reader = refused UnknownRelease p
  call_by (Some v) false string_within reader = refused PayloadTooLong p
  call_by (Some v) true false reader = refused PayloadTooLong p
  call_by (Some v) true true (refused k q) = refused k q
  call_by (Some v) true true (got u q) = room_for nw nn ((hatch caps handles v).read γ q)

  unfoldable pub call_on : ℕ → Out Places Body
  call_on release =
      call_by (version_of release) (leb (length γ.main) limit) (leb (length γ.string) limit) (reader_start γ.string p)

-- a whole call
abbrev pub hatch_call : Call → Out Places Body
hatch_call c = call_on c.caps c.handles c.words c.numbers (payloads_of c) (starts_of c) c.release
