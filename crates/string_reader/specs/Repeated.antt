-- What follows for a string reader that is used again and again: that it ends. Assumes nothing.
use Rattle.std.specs.Prelude.{◌≡◌, false, List, ℕ, ◌≤◌, length}
use Rattle.std.proofs.Common.{◌∙◌, le-leb}
use Rattle.loads.specs.Bits.{limit}
use Rattle.bitcursor.specs.Reading.{got}
use Rattle.bitcursor.proofs.Steps.{limit_within}
use Rattle.text.specs.declared.Source.TheVariants.{String}
use Rattle.text.specs.Texts.{wide}
use Rattle.text.specs.Fields.{text_at as empty_text}
use Rattle.text.specs.Answers.{reader_text}
use Rattle.string_reader.specs.Readers.{text_at}

module _ (xs : List ℕ) (p : ℕ) (w : length xs ≤ limit) where
  -- at the end bit and past it a text is empty, and the reader stays
  pub exhausted_empty : (end : ℕ) → end ≤ p → text_at xs p end ≡ got (empty_text String wide p 0 false) p
  unfolding reader_text
  exhausted_empty end h = limit_within (reader_text end) xs p w ∙ rw (le-leb _ _ h, reader_text)
