-- Over 64 bits the record of a reading is the record that was laid out. Assumes nothing.
use Rattle.std.specs.Prelude.{◌≡◌, ℕ}
use Rattle.std.proofs.Common.{refl}
use Rattle.bitcursor.specs.Reading.{Out, got, refused}
use Rattle.bitcursor.specs.Answers.{value_as}
use Rattle.prefix_format.specs.declared.CommonEntityData.{CommonEntityData}
use Rattle.prefix_format.specs.Record.{data_of}

pub bits_same : (d : CommonEntityData ℕ) → data_of (λ bits. bits) d ≡ d
bits_same d = refl

pub reading_same : (o : Out ℕ (CommonEntityData ℕ)) → value_as (data_of (λ bits. bits)) o ≡ o
reading_same (got d p) = refl
reading_same (refused r p) = refl
