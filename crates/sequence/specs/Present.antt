-- What is read where a release may lack a field, of whatever reads the field. Assumes nothing.
use Rattle.std.specs.Prelude.{◌≡◌, refl, Bool, true, false, List, ℕ, Option, Some, None}
use Rattle.bitcursor.specs.Reading.{Out, got, and_then}
use Rattle.bitcursor.specs.Code.{Code, give, ◌>>=◌, mapped, tabled}
use Rattle.bitcursor.specs.Held.{held, marked}

-- what a field reads, of any payload, at any place
abbrev pub Reads : Type 0 → Type 0
Reads A = List ℕ → ℕ → Out ℕ A

module _ {A : Type 0} where
  -- the field where it is there, else the value that stands for it
  unfoldable pub read_if : Bool → Reads A → A → Reads A
  read_if true f absent xs p = f xs p
  read_if false f absent xs p = got absent p

  -- the same where the value says whether the field was there
  unfoldable pub marked_if : Bool → Reads A → Reads (Option A)
  marked_if true f xs p = and_then (f xs p) (λ a q. got (Some a) q)
  marked_if false f xs p = got None p

  pub held_reads : (has : Bool) (c : Code A) (absent : A) (xs : List ℕ) (p : ℕ) → (held has c absent).read xs p ≡ read_if has c.read absent xs p
  unfolding held read_if give
  held_reads true c absent xs p = refl
  held_reads false c absent xs p = refl

  pub marked_reads : (has : Bool) (c : Code A) (xs : List ℕ) (p : ℕ) → (marked has c).read xs p ≡ marked_if has c.read xs p
  unfolding held marked marked_if give mapped tabled ◌>>=◌
  marked_reads true c xs p = refl
  marked_reads false c xs p = refl

-- the two, as a proof of a row of fields takes them
pub ruleset present = (held_reads, marked_reads)
