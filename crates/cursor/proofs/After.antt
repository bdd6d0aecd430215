-- What follows for a cursor that is used again and again, of the cursor afterwards (specs/Repeated.antt has the rest). They rest on the definition
-- `after`, so they stand here: an edit of that definition is then tried against the contracts. Assumes nothing.
use Rattle.std.specs.Prelude.{◌≡◌, refl, List, ℕ, ◌≤◌, ◌<◌, length}
use Rattle.std.proofs.Common.{ap, ⊎_elim, arith}
use Rattle.bitcursor.specs.Reading.{Out, got, refused, place}
use Rattle.bitcursor.specs.Code.{Code}
use Rattle.bitcursor.specs.Bytes.{le_or_lt}
use Rattle.bitcursor.specs.Answers.{limited, value_as}
use Rattle.loads.specs.Bits.{limit}
use Rattle.bitcursor.proofs.Steps.{limit_above}
use Rattle.cursor.specs.declared.BitCursor.{BitCursor}
use Rattle.cursor.specs.Cursors.{last_place, place_of, read_at, after}
use Rattle.cursor.specs.Repeated.{made_at, stands_within, read_moves}

module _ {A : Type 0} (code : Code A) (xs : List ℕ) where
  -- the cursor afterwards stands at the reading's final place: behind the value, or at the refusal's place
  pub stands_after : (c : BitCursor) → place_of (after (read_at code xs c)) ≡ place (read_at code xs c)
  stands_after c = made_at (place (read_at code xs c)) (ends c)
    where
      ends : (c : BitCursor) → place (read_at code xs c) ≤ last_place
      ends c =
          ⊎_elim
          (λ (w : length xs ≤ limit). let m = read_moves code xs c in omega arith)
          (λ (w : limit < length xs). rw (limit_above code.read xs (place_of c) w) (stands_within c))
          (le_or_lt (length xs) limit)

  -- so the next code is read where this one ended, as two calls by value do it
  pub read_next : {B : Type 0} (next : Code B) (c : BitCursor) → read_at next xs (after (read_at code xs c)) ≡ limited next.read xs (place (read_at code xs c))
  read_next next c = ap (limited next.read xs) (stands_after c)

-- and a double read leaves the cursor where its 64 bits do
pub after_as : {A B : Type 0} (as_value : A → B) (o : Out ℕ A) → after (value_as as_value o) ≡ after o
after_as as_value (got a p) = refl
after_as as_value (refused r p) = refl
