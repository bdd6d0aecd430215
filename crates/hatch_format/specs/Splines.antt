-- Splines as formats, read in document 01's order; that they are laid out as specs/Layouts says is proved in proofs/Splines. Both counts stand before
-- the knots, and each is tested where it stands. Assumes nothing.
use Rattle.std.specs.Prelude.{Bool, true, false, ℕ, zero, suc, leb}
use Rattle.std.proofs.Common.{arith}
use Rattle.bitcursor.specs.Codes.{B, BL}
use Rattle.bitcursor.specs.Doubles.{BD}
use Rattle.bitcursor.specs.Format.{Format, pure, ◌>>=◌}
use Rattle.bitcursor.specs.Inputs.{one}
use Rattle.bitcursor.specs.Fields.{coded}
use Rattle.text.specs.declared.version.Version.{Version}
use Rattle.text.specs.Releases.{release_number}
use Rattle.hatch_format.specs.declared.Caps.{Caps}
use Rattle.hatch_format.specs.Values.{Fits, unfitted, fitted, Spline}
use Rattle.hatch_format.specs.Takes.{Takes, takes_none, takes_less, takes_first, takes_later, takes_BD}
use Rattle.hatch_format.specs.Counts.{times, takes_times, counted, takes_counted}
use Rattle.hatch_format.specs.Points.{point, takes_point, vertex, takes_vertex}

-- ---- fits: a count and, if it is not 0, so many points and two tangents
unfoldable pub fitted_by : ℕ → Format one Fits
fitted_by zero = pure unfitted
fitted_by (suc n) = do
  points ← times (suc n) point
  start ← point
  end ← point
  pure (fitted points start end)

pub takes_fitted : (n : ℕ) → Takes n (fitted_by n)
unfolding fitted_by
takes_fitted zero = takes_none (fitted_by zero)
takes_fitted (suc n) = takes_first (suc n) (times (suc n) point) _ (takes_times (suc n) point takes_point)

unfoldable pub fits_read : ℕ → Bool → Format one Fits
fits_read cap true = counted cap BL fitted_by takes_fitted
fits_read cap false = pure unfitted

-- from release 5
unfoldable pub fits : ℕ → Bool → Format one Fits
fits cap b = fits_read cap b

-- ---- BL degree, B rational, B periodic, BL knots, BL controls, knots BD, controls (2 RD, BD if rational), fits
module _ (caps : Caps) (v : Version) where
  -- what follows both counts
  unfoldable pub spline_lists : ℕ → Bool → Bool → ℕ → ℕ → Format one Spline
  spline_lists degree rational periodic knots controls = do
    ks ← times knots (coded BD)
    cs ← times controls (vertex rational)
    fs ← fits caps.fit_points (leb 5 (release_number v))
    pure (record { degree = degree; rational = rational; periodic = periodic; knots = ks; control_points = cs; fits = fs })

  module _ (degree : ℕ) (rational periodic : Bool) where
    pub takes_controls : (knots n : ℕ) → Takes n (spline_lists degree rational periodic knots n)
    unfolding spline_lists
    takes_controls knots n =
        takes_later n (times knots (coded BD)) _ (λ ks. takes_first n (times n (vertex rational)) _ (takes_times n (vertex rational) (takes_vertex rational)))

    unfoldable pub spline_controls : ℕ → Format one Spline
    spline_controls knots = counted caps.control_points BL (spline_lists degree rational periodic knots) (takes_controls knots)

    pub takes_knots : (n : ℕ) → Takes n (spline_controls n)
    unfolding spline_controls spline_lists
    takes_knots n =
        takes_counted caps.control_points BL (spline_lists degree rational periodic n) n (takes_controls n)
        (λ controls. takes_first n (times n (coded BD)) _ (takes_times n (coded BD) (takes_less 1 2 (coded BD) (omega arith) takes_BD)))

    unfoldable pub spline_counts : Format one Spline
    spline_counts = counted caps.knots BL spline_controls takes_knots

  unfoldable pub spline_read : Format one Spline
  spline_read = do
    degree ← coded BL
    rational ← coded B
    periodic ← coded B
    spline_counts degree rational periodic

  unfoldable pub spline_edge : Format one Spline
  spline_edge = spline_read
