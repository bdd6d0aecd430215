-- A body's layout begins within its payload: its first field is a code of two bits at least. Assumes nothing.
use Rattle.std.specs.Prelude.{Bool, true, false, List, ℕ, ◌<◌, leb}
use Rattle.std.proofs.Common.{subst, arith}
use Rattle.loads.specs.Bits.{size}
use Rattle.bitcursor.specs.Codes.{BL}
use Rattle.bitcursor.specs.Doubles.{BD}
use Rattle.bitcursor.specs.Inputs.{Places, Payloads}
use Rattle.bitcursor.specs.Fields.{coded}
use Rattle.bitcursor.specs.Joins.{Coded}
use Rattle.text.specs.declared.version.Version.{Version}
use Rattle.text.specs.Releases.{release_number}
use Rattle.hatch_format.specs.declared.Caps.{Caps}
use Rattle.hatch_format.specs.HandleRule.{Handles}
use Rattle.hatch_format.specs.Values.{Body}
use Rattle.hatch_format.specs.Layouts.{GradientLaid, BodyLaid}
use Rattle.hatch_format.specs.Takes.{moved, takes_BL, takes_BD}

pub BL_begins : (xs : List ℕ) (n p q : ℕ) → Coded xs BL n p q → p < size xs
BL_begins xs n p q l = let h = takes_BL xs n p q l in let m = moved (coded BL) xs n p q l in omega (arith, h, m.inside)

pub BD_begins : (xs : List ℕ) (n p q : ℕ) → Coded xs BD n p q → p < size xs
BD_begins xs n p q l = let h = takes_BD xs n p q l in let m = moved (coded BD) xs n p q l in omega (arith, h, m.inside)

pub body_begins : (caps : Caps) (handles : Handles) (v : Version) (γ : Payloads) (a : Body) (p q : Places)
    → BodyLaid caps handles v γ a p q → p.main < size γ.main
body_begins caps handles v γ a p q l = go (leb 3 (release_number v)) l.1
  where
    r : Places
    r = l.0

    plane_begins : r.main < size γ.main
    plane_begins = let k = l.2.1 in BD_begins γ.main a.plane.elevation r.main k.laid.0 k.laid.1

    go : (b : Bool) → GradientLaid caps.colors v b γ a.gradient p r → p.main < size γ.main
    go true g = let k = g.2.1 in BL_begins γ.main g.0.flag p.main k.laid.0 k.laid.1
    go false g = subst (λ (s : Places). s.main < size γ.main) g.1 plane_begins
