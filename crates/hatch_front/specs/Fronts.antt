-- The fields of a body up to its pattern's name, as a format; a body is this front and the rest of the main payload behind it. Assumes nothing.
use Rattle.std.specs.Prelude.{◌≡◌, leb}
use Rattle.std.proofs.Math.Path.{refl}
use Rattle.bitcursor.specs.Reading.{Out, got, refused, and_then}
use Rattle.bitcursor.specs.Format.{Format, pure, ◌>>=◌, relay}
use Rattle.bitcursor.specs.Inputs.{both, Places, Payloads}
use Rattle.bitcursor.specs.Fields.{main, part_in, lifted}
use Rattle.text.specs.declared.Text.{Text}
use Rattle.text.specs.declared.version.Version.{Version}
use Rattle.text.specs.Releases.{release_number}
use Rattle.text.specs.TextField.{TV_field}
use Rattle.hatch_format.specs.declared.Caps.{Caps}
use Rattle.hatch_format.specs.HandleRule.{Handles}
use Rattle.hatch_format.specs.Values.{Gradient, Plane, Body}
use Rattle.hatch_format.specs.Patterns.{rest}
use Rattle.hatch_format.specs.Gradients.{gradient}
use Rattle.hatch_format.specs.Hatch.{plane, hatch_read, hatch}

-- ---- the plane and the pattern's name; and the gradient in front of them
pub record Named : Type 0 where
  pub plane : Plane
  pub name : Text

abbrev pub named_as : Plane → Text → Named
named_as a name = record { plane = a; name = name }

unfoldable pub named : Version → Format both Named
named v = do
  a ← part_in main plane
  name ← TV_field v
  pure (named_as a name)

pub record Front : Type 0 where
  pub gradient : Gradient
  pub plane : Plane
  pub name : Text

abbrev pub front_with : Gradient → Named → Front
front_with fill a = record { gradient = fill; plane = a.plane; name = a.name }

unfoldable pub front : Caps → Version → Format both Front
front caps v = do
  fill ← gradient caps.colors v (leb 3 (release_number v))
  a ← named v
  pure (front_with fill a)

-- a body is its front, and the rest of the main payload behind it
module _ (caps : Caps) (handles : Handles) (v : Version) (γ : Payloads) where
  abbrev pub whole : Front → Places → Out Places Body
  whole f q =
      and_then (lifted main q ((rest caps handles v).read γ.main q.main))
      (λ b r. got (record { gradient = f.gradient; plane = f.plane; name = f.name; rest = b }) r)

  pub hatch_front : (p : Places) → (hatch caps handles v).read γ p ≡ and_then ((front caps v).read γ p) whole
  unfolding hatch hatch_read front named part_in relay ◌>>=◌ pure
  hatch_front p = gradients ((gradient caps.colors v (leb 3 (release_number v))).read γ p)
    where
      texts : (fill : Gradient) (a : Plane) (o : Out Places Text)
          → and_then o (λ name q. whole (front_with fill (named_as a name)) q)
          ≡ and_then (and_then (and_then o (λ name q. got (named_as a name) q)) (λ n q. got (front_with fill n) q)) whole
      texts fill a (got name q) = refl
      texts fill a (refused k q) = refl

      planes : (fill : Gradient) (o : Out Places Plane)
          → and_then o (λ a r. and_then ((TV_field v).read γ r) (λ name q. whole (front_with fill (named_as a name)) q))
          ≡ and_then (and_then (and_then o (λ a r. and_then ((TV_field v).read γ r) (λ name q. got (named_as a name) q))) (λ n q. got
          (front_with fill n) q)) whole
      planes fill (got a q) = texts fill a ((TV_field v).read γ q)
      planes fill (refused k q) = refl

      gradients : (o : Out Places Gradient)
          → and_then o (λ fill p₁. and_then (lifted main p₁ (plane.read γ.main p₁.main))
          (λ a r. and_then ((TV_field v).read γ r) (λ name q. whole (front_with fill (named_as a name)) q)))
          ≡ and_then (and_then o (λ fill p₁. and_then
          (and_then (lifted main p₁ (plane.read γ.main p₁.main)) (λ a r. and_then ((TV_field v).read γ r) (λ name q. got (named_as a name) q)))
          (λ n q. got (front_with fill n) q))) whole
      gradients (got fill q) = planes fill (lifted main q (plane.read γ.main q.main))
      gradients (refused k q) = refl
