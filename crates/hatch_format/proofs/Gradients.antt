-- A gradient is laid out as specs/Layouts says where it is read, and read where it is so laid out. Assumes nothing.
use Rattle.std.specs.Prelude.{refl, Bool, ℕ}
use Rattle.std.proofs.Math.Bool.{true, false}
use Rattle.bitcursor.specs.Format.{pure, ◌>>=◌, relay}
use Rattle.bitcursor.specs.Inputs.{Places, Payloads}
use Rattle.bitcursor.specs.Fields.{part_in}
use Rattle.text.specs.declared.version.Version.{Version}
use Rattle.text.specs.TextField.{TV_field}
use Rattle.hatch_format.specs.Values.{Gradient}
use Rattle.hatch_format.specs.Layouts.{GradientLaid}
use Rattle.hatch_format.specs.Gradients.{block, gradient_read}

module _ (cap : ℕ) (v : Version) where
  pub gradient_to : (t : Bool) (γ : Payloads) (a : Gradient) (p q : Places) → (gradient_read cap v t).lays γ a p q → GradientLaid cap v t γ a p q
  unfolding gradient_read part_in block TV_field relay ◌>>=◌ pure
  gradient_to true γ a p q l = let e = l.3.3 in rw e.1 (l.0, l.3.0, (l.1, l.2, l.3.2), e.0)
  gradient_to false γ a p q l = l

  pub gradient_from : (t : Bool) (γ : Payloads) (a : Gradient) (p q : Places) → GradientLaid cap v t γ a p q → (gradient_read cap v t).lays γ a p q
  unfolding gradient_read part_in block TV_field relay ◌>>=◌ pure
  gradient_from true γ a p q l = (l.0, l.2.0, l.2.1, (l.1, q, l.2.2, (l.3, refl)))
  gradient_from false γ a p q l = l
