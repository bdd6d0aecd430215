-- The hatch body as a format: gradient, elevation and extrusion, the pattern's name, and the rest. Its layout is proved in proofs/Bodies. Assumes nothing.
use Rattle.std.specs.Prelude.{refl, List, ℕ, leb}
use Rattle.bitcursor.specs.Doubles.{BD}
use Rattle.bitcursor.specs.Format.{Format, pure, ◌>>=◌, relay}
use Rattle.bitcursor.specs.Inputs.{one, both}
use Rattle.bitcursor.specs.Fields.{coded, main, part_in}
use Rattle.text.specs.declared.version.Version.{Version}
use Rattle.text.specs.Releases.{release_number}
use Rattle.text.specs.TextField.{TV_field}
use Rattle.hatch_format.specs.declared.Caps.{Caps}
use Rattle.hatch_format.specs.HandleRule.{Handles}
use Rattle.hatch_format.specs.Values.{Plane, Body}
use Rattle.hatch_format.specs.Layouts.{PlaneLaid}
use Rattle.hatch_format.specs.Patterns.{rest}
use Rattle.hatch_format.specs.Gradients.{gradient}

-- ---- BD elevation, 3 BD extrusion
unfoldable pub plane_read : Format one Plane
plane_read = do
  elevation ← coded BD
  x ← coded BD
  y ← coded BD
  z ← coded BD
  pure (record { elevation = elevation; x = x; y = y; z = z })

pub plane_to : (xs : List ℕ) (a : Plane) (p q : ℕ) → plane_read.lays xs a p q → PlaneLaid xs a p q
unfolding plane_read ◌>>=◌ pure
plane_to xs a p q l =
    let e = l.3.3.3.3 in
    rw (e.0, e.1) (l.1, l.2, (l.3.1, l.3.2, (l.3.3.1, l.3.3.2, l.3.3.3.2)))

pub plane_from : (xs : List ℕ) (a : Plane) (p q : ℕ) → PlaneLaid xs a p q → plane_read.lays xs a p q
unfolding plane_read ◌>>=◌ pure
plane_from xs a p q l = (a.elevation, l.0, l.1, (a.x, l.2.0, l.2.1, (a.y, l.2.2.0, l.2.2.1, (a.z, q, l.2.2.2, (refl, refl)))))

unfoldable pub plane : Format one Plane
plane = relay plane_read PlaneLaid plane_to plane_from

-- ---- the body
module _ (caps : Caps) (handles : Handles) (v : Version) where
  unfoldable pub hatch_read : Format both Body
  hatch_read = do
    fill ← gradient caps.colors v (leb 3 (release_number v))
    a ← part_in main plane
    name ← TV_field v
    b ← part_in main (rest caps handles v)
    pure (record { gradient = fill; plane = a; name = name; rest = b })

  unfoldable pub hatch : Format both Body
  hatch = hatch_read
