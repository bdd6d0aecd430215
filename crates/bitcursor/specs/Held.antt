-- A field that a release may lack: its code, or the value that stands for it. Assumes nothing.
use Rattle.std.specs.Prelude.{◌≡◌, Bool, true, false, ℕ, ◌<◌, Option, Some, None}
use Rattle.std.proofs.Common.{ap}
use Rattle.bitcursor.specs.Code.{Code, give, mapped}
use Rattle.bitcursor.specs.Ranges.{Below}

module _ {A : Type 0} where
  unfoldable pub held : Bool → Code A → A → Code A
  held true c absent = c
  held false c absent = give absent

  pub held_yes : (c : Code A) (absent : A) {b : Bool} → b ≡ true → held b c absent ≡ c
  unfolding held
  held_yes c absent e = ap (λ (t : Bool). held t c absent) e

  pub held_no : (c : Code A) (absent : A) {b : Bool} → b ≡ false → held b c absent ≡ give absent
  unfolding held
  held_no c absent e = ap (λ (t : Bool). held t c absent) e

-- where the value says whether the field was there
unfoldable pub marked : {A : Type 0} → Bool → Code A → Code (Option A)
marked there c = held there (mapped Some c) None

pub held_below : (n : ℕ) (b : Bool) (c : Code ℕ) (absent : ℕ) → absent < n → Below n c → Below n (held b c absent)
unfolding held give
held_below n true c absent h k v cs l = k v cs l
held_below n false c absent h k v cs l = rw l.0 h
