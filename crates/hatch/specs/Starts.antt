-- A string start within its payload and past it (document 02, L4), as it is handed over: by every call that reads and by the one that measures.
-- Assumes nothing.
use Rattle.std.specs.Prelude.{◌≡◌, List, ℕ, ◌≤◌, ◌<◌}
use Rattle.std.proofs.Common.{ap}
use Rattle.bitcursor.specs.declared.Refusal.TheVariants.{TooFewBits}
use Rattle.bitcursor.specs.Reading.{Out, refused}
use Rattle.bitcursor.specs.Inputs.{Places}
use Rattle.hatch_format.specs.Values.{Rest, Body}
use Rattle.hatch_format.specs.Hatch.{hatch}
use Rattle.hatch_format.specs.Call.{string_start_of, Call, payloads_of, starts_of, room_for, hatch_call}
use Rattle.hatch_format.specs.Starts.{string_bits, past_places, ComesToStart, AlikeLengths}
use Rattle.hatch_format.proofs.Starts.{start_inside, start_past, same_past}
use Rattle.hatch.specs.Calls.{filled}
use Rattle.hatch.specs.Measuring.{lending}

-- a call comes to its string start whatever lists are lent
abbrev lent_to : {c : Call} → ComesToStart c → (nw nn : ℕ) → ComesToStart (lending c nw nn)
lent_to h nw nn = record { version = h.version; known = h.known; main_within = h.main_within; string_within = h.string_within }

-- `answer` is how the reading is handed over: `as_hatch`, or `as_lengths` where it is measured; `e` is what a body has for a list
module _ (c : Call) {R : Type 0} (answer : Out Places Body → R) where
  -- from a start within the payload, its length in bits included, the fields are read with the reader at that start, whatever lists are lent
  pub inside_answer : (h : ComesToStart c) → string_start_of c.strings ≤ string_bits c → (nw nn : ℕ)
      → answer (hatch_call (lending c nw nn)) ≡ answer (room_for nw nn ((hatch c.caps c.handles h.version).read (payloads_of c) (starts_of c)))
  inside_answer h inside nw nn = ap answer (start_inside (lending c nw nn) (lent_to h nw nn) inside)

  module _ (past : string_bits c < string_start_of c.strings) where
    -- past it refusal 1 with the main start and the string payload's length in bits, whatever lists are lent; these stay as they are
    pub past_answer : ComesToStart c → (nw nn : ℕ) → answer (hatch_call (lending c nw nn)) ≡ answer (refused TooFewBits (past_places c))
    past_answer h nw nn = ap answer (start_past (lending c nw nn) (lent_to h nw nn) past)

    pub past_list : ComesToStart c → {A : Type 0} (e : Rest → List A) (l : List A) → filled e (hatch_call c) l ≡ l
    past_list h e l = ap (λ (o : Out Places Body). filled e o l) (start_past c h past)

    -- the same answer for every payload of that length
    pub past_same_answer : (d : Call) → AlikeLengths c d → answer (hatch_call d) ≡ answer (hatch_call c)
    past_same_answer d h = ap answer (same_past c d h past)
