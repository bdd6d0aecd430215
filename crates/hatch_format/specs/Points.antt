-- Points, arcs and ellipses as certified formats, each read in document 01's order, their layouts those of specs/Layouts. Assumes nothing.
use Rattle.std.specs.Prelude.{refl, Bool, List, ℕ}
use Rattle.std.proofs.Common.{arith}
use Rattle.bitcursor.specs.Codes.{B, RD}
use Rattle.bitcursor.specs.Doubles.{BD}
use Rattle.bitcursor.specs.Held.{held}
use Rattle.bitcursor.specs.Format.{Format, pure, ◌>>=◌, relay}
use Rattle.bitcursor.specs.Inputs.{one}
use Rattle.bitcursor.specs.Fields.{coded}
use Rattle.hatch_format.specs.Values.{Point, Vertex, Arc, Ellipse}
use Rattle.hatch_format.specs.Layouts.{PointLaid, VertexLaid, ArcLaid, EllipseLaid}
use Rattle.hatch_format.specs.Takes.{Takes, takes_less, takes_first, takes_RD}

-- ---- 2 RD
unfoldable pub point_read : Format one Point
point_read = do
  x ← coded RD
  y ← coded RD
  pure (record { x = x; y = y })

pub point_to : (xs : List ℕ) (a : Point) (p q : ℕ) → point_read.lays xs a p q → PointLaid xs a p q
unfolding point_read ◌>>=◌ pure
point_to xs a p q l = rw (l.3.3.0, l.3.3.1) (l.1, l.2, l.3.2)

pub point_from : (xs : List ℕ) (a : Point) (p q : ℕ) → PointLaid xs a p q → point_read.lays xs a p q
unfolding point_read ◌>>=◌ pure
point_from xs a p q l = (a.x, l.0, l.1, (a.y, q, l.2, (refl, refl)))

unfoldable pub point : Format one Point
point = relay point_read PointLaid point_to point_from

-- ---- 2 RD and, where there is more, BD
unfoldable pub vertex_read : Bool → Format one Vertex
vertex_read more = do
  a ← point
  extra ← coded (held more BD 0)
  pure (record { point = a; extra = extra })

pub vertex_to : (more : Bool) (xs : List ℕ) (a : Vertex) (p q : ℕ) → (vertex_read more).lays xs a p q → VertexLaid xs more a p q
unfolding vertex_read point relay ◌>>=◌ pure
vertex_to more xs a p q l = rw (l.3.3.0, l.3.3.1) (l.1, l.2, l.3.2)

pub vertex_from : (more : Bool) (xs : List ℕ) (a : Vertex) (p q : ℕ) → VertexLaid xs more a p q → (vertex_read more).lays xs a p q
unfolding vertex_read point relay ◌>>=◌ pure
vertex_from more xs a p q l = (a.point, l.0, l.1, (a.extra, q, l.2, (refl, refl)))

unfoldable pub vertex : Bool → Format one Vertex
vertex more = relay (vertex_read more) (λ xs. VertexLaid xs more) (vertex_to more) (vertex_from more)

-- ---- 2 RD, 3 BD, B
unfoldable pub arc_read : Format one Arc
arc_read = do
  center ← point
  radius ← coded BD
  start ← coded BD
  end ← coded BD
  ccw ← coded B
  pure (record { center = center; radius = radius; start_angle = start; end_angle = end; counter_clockwise = ccw })

pub arc_to : (xs : List ℕ) (a : Arc) (p q : ℕ) → arc_read.lays xs a p q → ArcLaid xs a p q
unfolding arc_read point relay ◌>>=◌ pure
arc_to xs a p q l =
    let m = l.3.3.3.3.3 in
    rw (m.0, m.1) (l.1, l.2, (l.3.1, l.3.2, (l.3.3.1, l.3.3.2, (l.3.3.3.1, l.3.3.3.2, l.3.3.3.3.2))))

pub arc_from : (xs : List ℕ) (a : Arc) (p q : ℕ) → ArcLaid xs a p q → arc_read.lays xs a p q
unfolding arc_read point relay ◌>>=◌ pure
arc_from xs a p q l = (
  a.center,
  l.0,
  l.1,
  (
    a.radius,
    l.2.0,
    l.2.1,
    (
      a.start_angle,
      l.2.2.0,
      l.2.2.1,
      (a.end_angle, l.2.2.2.0, l.2.2.2.1, (a.counter_clockwise, q, l.2.2.2.2, (refl, refl))),
    ),
  ),
)

unfoldable pub arc_edge : Format one Arc
arc_edge = relay arc_read ArcLaid arc_to arc_from

-- ---- 4 RD, 3 BD, B
unfoldable pub ellipse_read : Format one Ellipse
ellipse_read = do
  center ← point
  endpoint ← point
  ratio ← coded BD
  start ← coded BD
  end ← coded BD
  ccw ← coded B
  pure (record { center = center; endpoint = endpoint; axis_ratio = ratio; start_angle = start; end_angle = end; counter_clockwise = ccw })

pub ellipse_to : (xs : List ℕ) (a : Ellipse) (p q : ℕ) → ellipse_read.lays xs a p q → EllipseLaid xs a p q
unfolding ellipse_read point relay ◌>>=◌ pure
ellipse_to xs a p q l =
    let m = l.3.3.3.3.3.3 in
    rw (m.0, m.1)
    (l.1, l.2, (l.3.1, l.3.2, (l.3.3.1, l.3.3.2, (l.3.3.3.1, l.3.3.3.2, (l.3.3.3.3.1, l.3.3.3.3.2, l.3.3.3.3.3.2)))))

pub ellipse_from : (xs : List ℕ) (a : Ellipse) (p q : ℕ) → EllipseLaid xs a p q → ellipse_read.lays xs a p q
unfolding ellipse_read point relay ◌>>=◌ pure
ellipse_from xs a p q l = (
  a.center,
  l.0,
  l.1,
  (
    a.endpoint,
    l.2.0,
    l.2.1,
    (
      a.axis_ratio,
      l.2.2.0,
      l.2.2.1,
      (
        a.start_angle,
        l.2.2.2.0,
        l.2.2.2.1,
        (
          a.end_angle,
          l.2.2.2.2.0,
          l.2.2.2.2.1,
          (a.counter_clockwise, q, l.2.2.2.2.2, (refl, refl)),
        ),
      ),
    ),
  ),
)

unfoldable pub ellipse_edge : Format one Ellipse
ellipse_edge = relay ellipse_read EllipseLaid ellipse_to ellipse_from

-- ---- each takes a bit
pub takes_point : Takes 1 point
unfolding point point_read relay
takes_point xs a p q l = takes_first 1 (coded RD) _ (takes_less 1 64 (coded RD) (omega arith) takes_RD) xs a p q (point_from xs a p q l)

pub takes_vertex : (more : Bool) → Takes 1 (vertex more)
unfolding vertex vertex_read relay
takes_vertex more xs a p q l = takes_first 1 point _ takes_point xs a p q (vertex_from more xs a p q l)
