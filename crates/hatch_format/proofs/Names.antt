-- The names of every hatch that is laid out say of their units what specs/Names says. Assumes nothing.
use Rattle.std.specs.Prelude.{refl, Bool, true, false, ℕ, leb, eqb}
use Rattle.std.proofs.Common.{sym}
use Rattle.std.proofs.Math.Path.{subst⁻¹}
use Rattle.bitcursor.specs.Code.{never_true}
use Rattle.bitcursor.specs.Inputs.{Places, Payloads}
use Rattle.text.specs.declared.Text.{Text}
use Rattle.text.specs.declared.version.Version.{Version}
use Rattle.text.specs.Releases.{release_number}
use Rattle.text.proofs.PaddedTexts.{text_padding}
use Rattle.hatch_format.specs.declared.Caps.{Caps}
use Rattle.hatch_format.specs.HandleRule.{Handles}
use Rattle.hatch_format.specs.Values.{Block, Gradient, no_gradient, shown, Body}
use Rattle.hatch_format.specs.Layouts.{GradientLaid, BodyLaid}
use Rattle.hatch_format.specs.Names.{NameLaid, GradientNameLaid, NamesLaid}

module _ (γ : Payloads) where
  none_laid : GradientNameLaid γ no_gradient
  none_laid = record { present = λ e. never_true e; absent = λ e. refl }

  shown_laid : (b : Block) (name : Text) → NameLaid γ name → GradientNameLaid γ (shown b name)
  shown_laid b name l = go (eqb b.flag 0)
    where
      go : (c : Bool) → GradientNameLaid γ (elim c [
        | true ↦ no_gradient
        | false ↦ record { present = true; angle = b.angle; shift = b.shift; single_color = b.single_color; tint = b.tint; colors = b.colors; name = name }
      ])
      go true = none_laid
      go false = record { present = λ e. l; absent = λ e. never_true (sym e) }

  gradient_laid : (cap : ℕ) (v : Version) (c : Bool) (a : Gradient) (p q : Places) → GradientLaid cap v c γ a p q → GradientNameLaid γ a
  gradient_laid cap v true a p q l =
      let name : NameLaid γ l.1 = (_, text_padding v γ l.1 l.2.0 q l.2.2) in
      subst⁻¹ (GradientNameLaid γ) l.3 (shown_laid l.0 l.1 name)
  gradient_laid cap v false a p q l = subst⁻¹ (GradientNameLaid γ) l.0 none_laid

  pub names_laid : (caps : Caps) (handles : Handles) (v : Version) (a : Body) (p q : Places) → BodyLaid caps handles v γ a p q → NamesLaid γ a
  names_laid caps handles v a p q l =
      record {
        pattern = (_, text_padding v γ a.name l.2.0 l.2.2.0 l.2.2.1);
        gradient = gradient_laid caps.colors v (leb 3 (release_number v)) a.gradient p l.0 l.1;
      }
