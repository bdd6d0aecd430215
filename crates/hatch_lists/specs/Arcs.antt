-- Arcs and ellipses read back from the lists. Assumes nothing.
use Rattle.std.specs.Prelude.{refl, [], ◌∷◌, ◌++◌}
use Rattle.bitcursor.specs.Format.{Format, pure, ◌>>=◌, relay}
use Rattle.loads.specs.Bits.{bit}
use Rattle.hatch_format.specs.Values.{Arc, Ellipse, arc, ellipse}
use Rattle.hatch_format.specs.Entries.{point_numbers, edge_numbers}
use Rattle.hatch_lists.specs.Lists.{Lists, lists, Stands, stands_then, stands_first, stands_second, between, number, entry, switch}
use Rattle.hatch_lists.specs.Points.{point}

-- ---- counter-clockwise; centre, radius, angles
unfoldable pub arc_read : Format lists Arc
arc_read = do
  ccw ← switch
  center ← point
  radius ← entry number
  start ← entry number
  end ← entry number
  pure (record { center = center; radius = radius; start_angle = start; end_angle = end; counter_clockwise = ccw })

abbrev pub ArcHeld : Arc → Lists → Lists → Type 0
ArcHeld a = Stands (bit a.counter_clockwise ∷ []) (edge_numbers (arc a))

pub arc_to : (γ : Unit {0}) (a : Arc) (p q : Lists) → arc_read.lays γ a p q → ArcHeld a p q
unfolding arc_read switch point entry relay ◌>>=◌ pure
arc_to γ a p q l =
    let m = l.3.3.3 in
    rw (m.3.3.0, m.3.3.1) (stands_then l.2 (stands_then l.3.2 (stands_then l.3.3.2 (stands_then m.2 m.3.2))))

pub arc_from : (γ : Unit {0}) (a : Arc) (p q : Lists) → ArcHeld a p q → arc_read.lays γ a p q
unfolding arc_read switch point entry relay ◌>>=◌ pure
arc_from γ a p q l =
    let angles = a.start_angle ∷ (a.end_angle ∷ []) in
    let sizes = a.radius ∷ angles in
    let all = point_numbers a.center ++ sizes in (
      a.counter_clockwise,
      between [] all q,
      stands_first (bit a.counter_clockwise ∷ []) [] [] all l,
      (
        a.center,
        between [] sizes q,
        stands_first [] (point_numbers a.center) [] sizes (stands_second [] all q),
        (
          a.radius,
          between [] angles q,
          stands_first [] (a.radius ∷ []) [] angles (stands_second [] sizes q),
          (
            a.start_angle,
            between [] (a.end_angle ∷ []) q,
            stands_first [] (a.start_angle ∷ []) [] (a.end_angle ∷ []) (stands_second [] angles q),
            (a.end_angle, q, stands_second [] (a.end_angle ∷ []) q, (refl, refl)),
          ),
        ),
      ),
    )

unfoldable pub arc_edge : Format lists Arc
arc_edge = relay arc_read (λ γ. ArcHeld) arc_to arc_from

-- ---- counter-clockwise; centre, endpoint, ratio, angles
unfoldable pub ellipse_read : Format lists Ellipse
ellipse_read = do
  ccw ← switch
  center ← point
  endpoint ← point
  ratio ← entry number
  start ← entry number
  end ← entry number
  pure (record { center = center; endpoint = endpoint; axis_ratio = ratio; start_angle = start; end_angle = end; counter_clockwise = ccw })

abbrev pub EllipseHeld : Ellipse → Lists → Lists → Type 0
EllipseHeld a = Stands (bit a.counter_clockwise ∷ []) (edge_numbers (ellipse a))

pub ellipse_to : (γ : Unit {0}) (a : Ellipse) (p q : Lists) → ellipse_read.lays γ a p q → EllipseHeld a p q
unfolding ellipse_read switch point entry relay ◌>>=◌ pure
ellipse_to γ a p q l =
    let m = l.3.3.3 in
    rw (m.3.3.3.0, m.3.3.3.1)
    (stands_then l.2 (stands_then l.3.2 (stands_then l.3.3.2 (stands_then m.2 (stands_then m.3.2 m.3.3.2)))))

pub ellipse_from : (γ : Unit {0}) (a : Ellipse) (p q : Lists) → EllipseHeld a p q → ellipse_read.lays γ a p q
unfolding ellipse_read switch point entry relay ◌>>=◌ pure
ellipse_from γ a p q l =
    let angles = a.start_angle ∷ (a.end_angle ∷ []) in
    let sizes = a.axis_ratio ∷ angles in
    let behind = point_numbers a.endpoint ++ sizes in
    let all = point_numbers a.center ++ behind in (
      a.counter_clockwise,
      between [] all q,
      stands_first (bit a.counter_clockwise ∷ []) [] [] all l,
      (
        a.center,
        between [] behind q,
        stands_first [] (point_numbers a.center) [] behind (stands_second [] all q),
        (
          a.endpoint,
          between [] sizes q,
          stands_first [] (point_numbers a.endpoint) [] sizes (stands_second [] behind q),
          (
            a.axis_ratio,
            between [] angles q,
            stands_first [] (a.axis_ratio ∷ []) [] angles (stands_second [] sizes q),
            (
              a.start_angle,
              between [] (a.end_angle ∷ []) q,
              stands_first [] (a.start_angle ∷ []) [] (a.end_angle ∷ []) (stands_second [] angles q),
              (a.end_angle, q, stands_second [] (a.end_angle ∷ []) q, (refl, refl)),
            ),
          ),
        ),
      ),
    )

unfoldable pub ellipse_edge : Format lists Ellipse
ellipse_edge = relay ellipse_read (λ γ. EllipseHeld) ellipse_to ellipse_from
