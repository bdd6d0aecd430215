-- What the exports hand over of a refused call: the refusal's number, both places, and zero in every other field, in both forms; and of the lengths of a
-- refused measuring the same. By computation. Assumes nothing.
use Rattle.std.specs.Prelude.{◌≡◌, refl}
use Rattle.bitcursor.specs.declared.Refusal.{Refusal}
use Rattle.bitcursor.specs.Refusals.{refusal_number}
use Rattle.bitcursor.specs.Reading.{refused}
use Rattle.bitcursor.specs.Inputs.{Places}
use Rattle.hatch_format.specs.Record.{zero_record, as_doubles}
use Rattle.hatch.specs.Calls.{as_bits, as_data, as_lengths}
use Rattle.boundary.specs.HatchBoundary.{body_answer, body_bits, lengths_answer, body_with, bits_with}

module _ (k : Refusal) (q : Places) where
  pub bits_zero_refused : body_bits (as_bits (refused k q)) ≡ bits_with (refusal_number k) (zero_record q)
  bits_zero_refused = refl

  pub doubles_zero_refused : body_answer (as_data (refused k q)) ≡ body_with (refusal_number k) (as_doubles (zero_record q))
  doubles_zero_refused = refl

  pub lengths_zero_refused : lengths_answer (as_lengths (refused k q))
      ≡ record { refusal = refusal_number k; place = q.main; string_place = q.string; words = 0; numbers = 0 }
  lengths_zero_refused = refl
