-- A call with any release number: what it reads of a release, and refusal 9 where the number is none. Assumes nothing.
use Rattle.std.specs.Prelude.{◌≡◌, List, ℕ, Option, Some, None}
use Rattle.bitcursor.specs.declared.Refusal.TheVariants.{UnknownRelease}
use Rattle.bitcursor.specs.Reading.{Out, refused}
use Rattle.text.specs.declared.version.Version.{Version}
use Rattle.text.specs.Answers.{released}

module _ {A : Type 0} (f : Version → List ℕ → ℕ → Out ℕ A) (xs : List ℕ) (p : ℕ) where
  pub released_known : {m : Option Version} {v : Version} → m ≡ Some v → released f m xs p ≡ f v xs p
  unfolding released
  released_known e = rw e

  pub released_unknown : {m : Option Version} → m ≡ None → released f m xs p ≡ refused UnknownRelease p
  unfolding released
  released_unknown e = rw e
