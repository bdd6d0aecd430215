-- What the names of every hatch that is laid out say of their units (document 02, "Padded names"): units and padding together are what was
-- laid out there, the gradient's name too where there is a gradient; an absent one's name is no text. Assumes nothing.
use Rattle.std.specs.Prelude.{◌≡◌, true, false, ℕ}
use Rattle.bitcursor.specs.Inputs.{Payloads}
use Rattle.bitcursor.specs.Fields.{bytes_in}
use Rattle.text.specs.declared.Text.{Text}
use Rattle.text.specs.Padding.{Padding, text_payload}
use Rattle.hatch_format.specs.Values.{Gradient, no_text, Body}

-- a name in the payload that texts come from, up to some place
abbrev pub NameLaid : Payloads → Text → Type 0
NameLaid γ t = (q : ℕ) × Padding (bytes_in (text_payload γ.reader) γ) t q

-- the name of a gradient, if it is present
pub record GradientNameLaid (γ : Payloads) (a : Gradient) : Type 0 where
  pub present : a.present ≡ true → NameLaid γ a.name
  pub absent : a.present ≡ false → a.name ≡ no_text

pub record NamesLaid (γ : Payloads) (a : Body) : Type 0 where
  pub pattern : NameLaid γ a.name
  pub gradient : GradientNameLaid γ a.gradient
