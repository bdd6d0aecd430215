-- What moving a hatch's points across the boundary ensures, by the definition: its answer, and the list of numbers before and after it; and that whatever a
-- hatch call handed over is whole for it. Assumes nothing.
use Rattle.std.specs.Prelude.{◌≡◌, List, ◌++◌, ℕ, ◌≤◌, Float, length, drop, map}
use Rattle.std.proofs.Common.{arith, length-append}
use Rattle.std.proofs.lemmas.List.{length-map}
use Rattle.bitcursor.specs.Reading.{got}
use Rattle.bitcursor.specs.Inputs.{Places}
use Rattle.hatch_format.specs.Caps.{document_caps, above_itself}
use Rattle.hatch_format.specs.HandleRule.{in_payload}
use Rattle.hatch_format.specs.Values.{Body}
use Rattle.hatch_format.specs.Entries.{words, numbers}
use Rattle.hatch_format.specs.Record.{double}
use Rattle.hatch_format.specs.Call.{Strings}
use Rattle.hatch.specs.Calls.{call_of, as_bits, as_data, words_after, numbers_after, doubles_after}
use Rattle.hatch_lists.specs.Holding.{Holding, holding_of}
use Rattle.hatch_lists.specs.Whole.{Whole}
use Rattle.hatch_lists.specs.Items.{held_items}
use Rattle.hatch_lists.specs.DecodedWhole.{decoded_whole, decoded_doubles}
use Rattle.differences.specs.Upright.{is_upright, is_upright_bits}
use Rattle.moved_hatch.specs.Moving.{Outcome, outcome, answer_of, after, patterns}
use Rattle.moved_hatch.specs.MovedLists.{patterns_length}
use Rattle.moved_hatch.specs.Doubles.{of_doubles, of_bits}
use Rattle.boundary.specs.declared.given.BodyGiven.{BodyGiven}
use Rattle.boundary.specs.declared.given.BodyBitsGiven.{BodyBitsGiven}
use Rattle.boundary.specs.declared.moves.MoveAnswer.{MoveAnswer}
use Rattle.boundary.specs.MoveBoundary.{given_counts, as_given, move_answer}
use Rattle.boundary.specs.declared.bodies.BodyAnswer.{BodyAnswer}
use Rattle.boundary.specs.declared.bodies.BodyBitsAnswer.{BodyBitsAnswer}
use Rattle.boundary.specs.HatchBoundary.{body_answer, body_bits}

abbrev pub doubles_outcome : BodyGiven → List ℕ → Float → Float → List Float → Outcome
doubles_outcome a ws x y ns =
    outcome of_doubles (given_counts a.fields a.gradient.num_colors) (is_upright a.extrusion_x a.extrusion_y a.extrusion_z) ws ns x y

abbrev pub bits_outcome : BodyBitsGiven → List ℕ → ℕ → ℕ → List ℕ → Outcome
bits_outcome a ws x y ns =
    outcome of_bits (given_counts a.fields a.gradient.num_colors) (is_upright_bits a.extrusion_x a.extrusion_y a.extrusion_z) ws ns x y

abbrev pub MovesDoubles : BodyGiven → List ℕ → Float → Float → MoveAnswer → (numbers numbers' : List Float) → Type 0
MovesDoubles a ws x y r numbers numbers' =
    let o = doubles_outcome a ws x y numbers in
    (r ≡ move_answer (answer_of o)) × (numbers' ≡ after of_doubles o x y numbers)

abbrev pub MovesBits : BodyBitsGiven → List ℕ → ℕ → ℕ → MoveAnswer → (bits bits' : List ℕ) → Type 0
MovesBits a ws x y r bits bits' =
    let o = bits_outcome a ws x y bits in
    (r ≡ move_answer (answer_of o)) × (bits' ≡ after of_bits o x y bits)

-- ---- whatever a hatch call hands over is whole: its answer given back, with both lists as they are after it. The caps are document 01's
module _ (release : ℕ) (xs : List ℕ) (start : ℕ) (strings : Strings) (nw nn : ℕ) (a : Body) (q : Places)
    (read : call_of release xs start strings nw nn ≡ got a q) where
  abbrev answered : BodyBitsAnswer
  answered = body_bits (as_bits (got a q))

  pub decoded_bits_whole : (ws ns : List ℕ)
      → Whole (given_counts (as_given answered.fields) answered.gradient.num_colors)
      (words_after (got a q) ws) (numbers_after (got a q) ns) (holding_of a.rest)
  decoded_bits_whole ws ns =
      decoded_whole
      (record { release = release; main = xs; start = start; strings = strings; caps = document_caps; handles = in_payload; words = nw; numbers = nn })
      (above_itself document_caps) a q read (drop (length (words a.rest)) ws) (drop (length (numbers a.rest)) ns)

  abbrev answered_doubles : BodyAnswer
  answered_doubles = body_answer (as_data (got a q))

  -- over doubles the lists hold the same items, whatever 64 bits a NaN has
  long : (ns : List Float) → length (numbers a.rest) ≤ length (patterns of_doubles.pattern (doubles_after (got a q) ns))
  long ns =
      let own = map double (numbers a.rest) in
      let rest = drop (length own) ns in
      omega (arith, patterns_length of_doubles.pattern (own ++ rest), length-append own rest, length-map (numbers a.rest) double)

  pub decoded_doubles_whole : (ws : List ℕ) (ns : List Float)
      → (b : Holding) × Whole (given_counts (as_given answered_doubles.fields) answered_doubles.gradient.num_colors)
      (words_after (got a q) ws)
      (patterns of_doubles.pattern (doubles_after (got a q) ns)) b × (held_items b ≡ held_items (holding_of a.rest))
  decoded_doubles_whole ws ns =
      decoded_doubles
      (record { release = release; main = xs; start = start; strings = strings; caps = document_caps; handles = in_payload; words = nw; numbers = nn })
      (above_itself document_caps) a q read (drop (length (words a.rest)) ws) (patterns of_doubles.pattern (doubles_after (got a q) ns)) (long ns)
