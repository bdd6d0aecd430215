-- Where the string reader of a hatch call starts (document 02, L4), for every start bit: what the theorems of proofs/Starts about the call's own
-- definition speak of. They hold of a measuring call too, and of a call without a reader, whose string payload is empty and whose string start is 0.
-- Assumes nothing.
use Rattle.std.specs.Prelude.{Some, ◌≡◌, ℕ, ◌≤◌, length}
use Rattle.loads.specs.Bits.{size, limit}
use Rattle.bitcursor.specs.Inputs.{Places}
use Rattle.text.specs.declared.version.Version.{Version}
use Rattle.text.specs.Releases.{version_of}
use Rattle.hatch_format.specs.Call.{string_bytes_of, string_start_of, Call}

-- the string payload's length in bits
abbrev pub string_bits : Call → ℕ
string_bits c = size (string_bytes_of c.strings)

-- the places of document 01 for a string start past its payload: the main start, and the payload's length in bits
abbrev pub past_places : Call → Places
past_places c = record { main = c.start; string = string_bits c }

-- a call that comes to its string start: no refusal 9 or 10 stands before it
pub record ComesToStart (c : Call) : Type 0 where
  pub version : Version
  pub known : version_of c.release ≡ Some version
  pub main_within : length c.main ≤ limit
  pub string_within : length (string_bytes_of c.strings) ≤ limit

-- two calls alike in release, start bits and payload lengths. Bits, reader or none, its end bit, caps, handles and lists may be any
pub record AlikeLengths (c d : Call) : Type 0 where
  pub release : d.release ≡ c.release
  pub start : d.start ≡ c.start
  pub string_start : string_start_of d.strings ≡ string_start_of c.strings
  pub main_length : length d.main ≡ length c.main
  pub string_length : length (string_bytes_of d.strings) ≡ length (string_bytes_of c.strings)
