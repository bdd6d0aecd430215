-- What follows for a cursor that is used again and again: the calls by value, from place to place. Assumes nothing.
use Rattle.std.specs.Prelude.{◌≡◌, List, ℕ, ◌+◌, ◌*◌, ◌/◌, ◌%◌, ◌≤◌, ◌<◌, min, length}
use Rattle.std.proofs.Common.{ap, ◌∙◌, ⊎_elim, div-add-mod', arith}
use Rattle.bitcursor.specs.Reading.{place}
use Rattle.bitcursor.specs.Code.{Code, Moves, stay}
use Rattle.bitcursor.specs.Bytes.{le_or_lt}
use Rattle.bitcursor.specs.Answers.{limited}
use Rattle.loads.specs.Bits.{limit}
use Rattle.bitcursor.proofs.Steps.{limit_within, limit_above}
use Rattle.cursor.specs.declared.BitCursor.{BitCursor}
use Rattle.cursor.specs.Cursors.{last_place, place_of, cursor_at, read_at}

-- a cursor made at a place stands there
pub made_at : (p : ℕ) → p ≤ last_place → place_of (cursor_at p) ≡ p
made_at p h = let e : p / 8 * 8 + p % 8 ≡ p = div-add-mod' p 8 in ap (λ (n : ℕ). min n last_place) e ∙ omega arith

-- no cursor stands past the last place
pub stands_within : (c : BitCursor) → place_of c ≤ last_place
stands_within c = omega arith

module _ {A : Type 0} (code : Code A) (xs : List ℕ) where
  -- so a code read at a cursor made at a place is the call by value there
  pub read_made : (p : ℕ) → p ≤ last_place → read_at code xs (cursor_at p) ≡ limited code.read xs p
  read_made p h = ap (limited code.read xs) (made_at p h)

  -- a reading goes on from where the cursor stands, and ends inside the payload unless the cursor stood past it
  pub read_moves : (c : BitCursor) → Moves xs (place_of c) (place (read_at code xs c))
  read_moves c =
      ⊎_elim
      (λ (w : length xs ≤ limit). rw (limit_within code.read xs (place_of c) w) (code.grows xs (place_of c)))
      (λ (w : limit < length xs). rw (limit_above code.read xs (place_of c) w) (stay xs (place_of c)))
      (le_or_lt (length xs) limit)
