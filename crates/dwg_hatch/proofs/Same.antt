-- The 64 bits of what was read as themselves. Assumes nothing.
use Rattle.std.specs.Prelude.{◌≡◌, refl, ℕ}
use Rattle.bitcursor.specs.Reading.{Out, got, refused}
use Rattle.bitcursor.specs.Answers.{value_as}

pub same : (o : Out ℕ ℕ) → value_as (λ bits. bits) o ≡ o
same (got v p) = refl
same (refused r p) = refl
