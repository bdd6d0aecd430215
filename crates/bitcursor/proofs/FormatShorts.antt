-- Formats in a row are short as `short_then` says. Assumes nothing.
use Rattle.std.specs.Prelude.{◌≡◌}
use Rattle.bitcursor.specs.Reading.{short_then}
use Rattle.bitcursor.specs.Format.{Input, Format, ◌>>=◌}
use Rattle.bitcursor.proofs.Shorts.{short_of_is}

pub formats_short : {M : Input} {A B : Type 0} (f : Format M A) (g : A → Format M B) (γ : M.Bytes) (p : M.Place)
    → (f >>= g).short γ p ≡ short_then (f.read γ p) (f.short γ p) (λ a r. (g a).short γ r)
unfolding ◌>>=◌
formats_short f g γ p = short_of_is (f.read γ p) (f.short γ p) (λ a r. (g a).short γ r)
