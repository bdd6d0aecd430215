-- What splines are read from is laid out as specs/Layouts says, and what is so laid out is read. Assumes nothing.
use Rattle.std.specs.Prelude.{◌≡◌, refl, Bool, true, false, List, [], ◌∷◌, ℕ, zero, suc}
use Rattle.std.proofs.Common.{sym, arith}
use Rattle.std.proofs.Math.Path.{subst}
use Rattle.std.proofs.Math.ListN.{length}
use Rattle.bitcursor.specs.Codes.{BL}
use Rattle.bitcursor.specs.Format.{pure, ◌>>=◌, relay}
use Rattle.text.specs.declared.version.Version.{Version}
use Rattle.hatch_format.specs.declared.Caps.{Caps}
use Rattle.hatch_format.specs.Values.{Fits, unfitted, fitted, Spline}
use Rattle.hatch_format.specs.Layouts.{Count, FitsLaid, SplineLaid}
use Rattle.hatch_format.specs.Counts.{times, counted}
use Rattle.hatch_format.specs.Points.{point, vertex}
use Rattle.hatch_format.specs.Splines.{fitted_by, fits_read, fits, spline_lists, spline_controls, spline_counts, spline_read}

pub fits_to : (cap : ℕ) (b : Bool) (xs : List ℕ) (a : Fits) (p q : ℕ) → (fits_read cap b).lays xs a p q → FitsLaid xs cap b a p q
unfolding fits_read fitted_by counted times relay point ◌>>=◌ pure
fits_to cap false xs a p q l = rw l.0 l.1
fits_to cap true xs a p q l = go l.0 l.2 l.3
  where
    go : (n : ℕ) → Count xs cap BL n p l.1 → (fitted_by n).lays xs a l.1 q → FitsLaid xs cap true a p q
    go zero c m = rw (m.0, m.1) c
    go (suc n) c m =
        let e = m.3.3.3 in
        let k : length m.0 ≡ suc n = m.2.0 in
        rw (e.0, e.1) (omega (arith, k), (m.1, (l.1, subst (λ (i : ℕ). Count xs cap BL i p l.1) (sym k) c, m.2.1), (m.3.1, m.3.2, m.3.3.2)))

pub fits_from : (cap : ℕ) (b : Bool) (xs : List ℕ) (a : Fits) (p q : ℕ) → FitsLaid xs cap b a p q → (fits_read cap b).lays xs a p q
unfolding fits_read fitted_by counted times relay point ◌>>=◌ pure
fits_from cap false xs unfitted p q l = (refl, l)
fits_from cap false xs (fitted points start end) p q l = absurd l
fits_from cap true xs unfitted p q l = (0, q, l, (refl, refl))
fits_from cap true xs (fitted [] start end) p q l = absurd (omega (arith, l.0))
fits_from cap true xs (fitted (a ∷ points) start end) p q l =
    let m = l.1 in
    (length (a ∷ points), m.1.0, m.1.1, ((a ∷ points), m.0, (refl, m.1.2), (start, m.2.0, m.2.1, (end, q, m.2.2, (refl, refl)))))

module _ (caps : Caps) (v : Version) where
  pub spline_to : (xs : List ℕ) (a : Spline) (p q : ℕ) → (spline_read caps v).lays xs a p q → SplineLaid xs caps v a p q
  unfolding spline_read spline_counts spline_controls spline_lists counted times fits vertex relay ◌>>=◌ pure
  spline_to xs a p q l =
      let c = l.3.3.3 in
      let d = c.3 in
      let m = d.3 in
      let e = m.3.3.3 in
      let controls = subst (λ (i : ℕ). Count xs caps.control_points BL i c.1 d.1) (sym m.3.2.0) d.2 in
      rw (e.0, e.1) (
        l.1,
        l.2,
        (
          l.3.1,
          l.3.2,
          (
            l.3.3.1,
            l.3.3.2,
            (
              c.1,
              subst (λ (i : ℕ). Count xs caps.knots BL i l.3.3.1 c.1) (sym m.2.0) c.2,
              (d.1, controls, (m.1, m.2.1, (m.3.1, m.3.2.1, fits_to _ _ xs _ _ _ m.3.3.2))),
            ),
          ),
        ),
      )

  pub spline_from : (xs : List ℕ) (a : Spline) (p q : ℕ) → SplineLaid xs caps v a p q → (spline_read caps v).lays xs a p q
  unfolding spline_read spline_counts spline_controls spline_lists counted times fits vertex relay ◌>>=◌ pure
  spline_from xs a p q l =
      let k = l.2.2.2 in
      let c = k.2 in
      let m = c.2 in (
        a.degree,
        l.0,
        l.1,
        (
          a.rational,
          l.2.0,
          l.2.1,
          (
            a.periodic,
            l.2.2.0,
            l.2.2.1,
            (
              length a.knots,
              k.0,
              k.1,
              (
                length a.control_points,
                c.0,
                c.1,
                (a.knots, m.0, (refl, m.1), (a.control_points, m.2.0, (refl, m.2.1), (a.fits, q, fits_from _ _ xs _ _ _ m.2.2, (refl, refl)))),
              ),
            ),
          ),
        ),
      )
