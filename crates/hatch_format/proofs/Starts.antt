-- Where the string reader of a hatch call starts, for every start bit: theorems about the call's own definition. Assumes nothing.
use Rattle.std.specs.Prelude.{Option, Some, None, ◌≡◌, refl, Bool, true, false, ◌*◌, ◌≤◌, ◌<◌, leb, length}
use Rattle.std.proofs.Common.{sym, ap, ◌∙◌}
use borrow.Author.Tests.{le-leb}
use Rattle.bitcursor.specs.declared.Refusal.{Refusal}
use Rattle.bitcursor.specs.declared.Refusal.TheVariants.{TooFewBits}
use Rattle.loads.specs.Bits.{limit}
use Rattle.bitcursor.specs.Reading.{Out, refused}
use Rattle.bitcursor.specs.Inputs.{Places}
use Rattle.bitcursor.specs.Fields.{string, lifted}
use Rattle.string_start.specs.Start.{start_in, inside, past}
use Rattle.text.specs.declared.version.Version.{Version}
use Rattle.text.specs.Releases.{version_of}
use Rattle.hatch_format.specs.Values.{Body}
use Rattle.hatch_format.specs.Hatch.{hatch}
use Rattle.hatch_format.specs.Call.{string_bytes_of, string_start_of, Call, payloads_of, starts_of, room_for, reader_start, call_by, call_on, hatch_call}
use Rattle.hatch_format.specs.Starts.{string_bits, past_places, ComesToStart, AlikeLengths}

module _ (c : Call) (h : ComesToStart c) where
  -- from a start within the payload, its length in bits included, the reader stands at that start: the fields are read with it there
  pub start_inside : string_start_of c.strings ≤ string_bits c
      → hatch_call c ≡ room_for c.words c.numbers ((hatch c.caps c.handles h.version).read (payloads_of c) (starts_of c))
  unfolding call_on
  start_inside k = rw (h.known, le-leb _ _ h.main_within, le-leb _ _ h.string_within, inside _ _ k)

  -- past it refusal 1 with the places of document 01
  pub start_past : string_bits c < string_start_of c.strings → hatch_call c ≡ refused TooFewBits (past_places c)
  unfolding call_on
  start_past k = rw (h.known, le-leb _ _ h.main_within, le-leb _ _ h.string_within, past _ _ k)

module _ (c d : Call) where
  -- a call by the answers of its tests
  abbrev by : Call → Places → Option Version → Bool → Bool → Out Places (Unit {0}) → Out Places Body
  by a p = call_by a.caps a.handles a.words a.numbers (payloads_of a) p

  -- where no reader stands, nothing of a payload is asked but these answers
  unread : (p : Places) (m : Option Version) (s t : Bool) (k : Refusal) (q : Places) → by d p m s t (refused k q) ≡ by c p m s t (refused k q)
  unread p None s t k q = refl
  unread p (Some v) false t k q = refl
  unread p (Some v) true false k q = refl
  unread p (Some v) true true k q = refl

  module _ (h : AlikeLengths c d) where
    abbrev starts : starts_of d ≡ starts_of c
    starts = λ i. record { main = h.start i; string = h.string_start i }

    -- no bit of the payload is looked at for the start: the readers of both stand at the same place, or neither stands anywhere
    pub same_reader_start : reader_start (string_bytes_of d.strings) (starts_of d) ≡ reader_start (string_bytes_of c.strings) (starts_of c)
    same_reader_start = λ i. lifted string (starts i) (start_in (8 * h.string_length i) (h.string_start i))

    -- a call by the first one's starts, release and lengths
    abbrev by_lengths : Call → Out Places (Unit {0}) → Out Places Body
    by_lengths a o = by a (starts_of c) (version_of c.release) (leb (length c.main) limit) (leb (length (string_bytes_of c.strings)) limit) o

    -- and where a start is past its payload, the refusal is the same for every payload of that length
    pub same_past : string_bits c < string_start_of c.strings → hatch_call d ≡ hatch_call c
    unfolding call_on
    same_past k =
        let none = ap (lifted string (starts_of c)) (past (string_bits c) (string_start_of c.strings) k) in
        (λ i. by d (starts i) (version_of (h.release i)) (leb (h.main_length i) limit) (leb (h.string_length i) limit) (same_reader_start i))
        ∙ ap (by_lengths d) none ∙ unread (starts_of c) _ _ _ TooFewBits (past_places c) ∙ sym (ap (by_lengths c) none)
