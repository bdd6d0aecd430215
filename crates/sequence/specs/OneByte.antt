-- One byte is eight raw bits: a field that is an RC may be read as such. Assumes nothing.
use Rattle.std.specs.Prelude.{◌≡◌, refl, Bool, true, false, List, [], ◌∷◌, ℕ, ◌+◌, ◌*◌}
use Rattle.std.proofs.Common.{ap, arith}
use Rattle.bitcursor.specs.Reading.{Out, got, refused, and_then}
use Rattle.bitcursor.specs.Code.{give, raw, ◌>>=◌, mapped, tabled}
use Rattle.loads.specs.Bytes.{low_number}
use Rattle.bitcursor.specs.Bytes.{bytes, bytes_read, low_first}
use Rattle.bitcursor.specs.Codes.{RC}
use Rattle.bitcursor.specs.Held.{held}

pub byte_bits : (xs : List ℕ) (p : ℕ) → RC.read xs p ≡ (raw 8).read xs p
unfolding RC low_first mapped tabled bytes bytes_read low_number give ◌>>=◌
byte_bits xs p = go ((raw 8).read xs p)
  where
    go : (o : Out ℕ ℕ) → and_then (and_then o (λ b r. got (b ∷ []) r)) (λ bs r. got (low_number bs) r) ≡ o
    go (got v q) = let e : 0 * 256 + v ≡ v = omega arith in ap (λ (n : ℕ). got n q) e
    go (refused n q) = refl

-- where a release may lack it
pub held_byte : (has : Bool) (absent : ℕ) (xs : List ℕ) (p : ℕ) → (held has RC absent).read xs p ≡ (held has (raw 8) absent).read xs p
unfolding held
held_byte true absent xs p = byte_bits xs p
held_byte false absent xs p = refl
