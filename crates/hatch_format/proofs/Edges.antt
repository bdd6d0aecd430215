-- What edges are read from is laid out as specs/Layouts says, and what is so laid out is read. Assumes nothing.
use Rattle.std.specs.Prelude.{refl, List}
use Prim.Native.Nat.{ℕ, zero, suc}
use Rattle.bitcursor.specs.Codes.{RC}
use Rattle.bitcursor.specs.Format.{pure, refuse, ◌>>=◌, relay}
use Rattle.bitcursor.specs.Joins.{Coded}
use Rattle.text.specs.declared.version.Version.{Version}
use Rattle.hatch_format.specs.declared.Caps.{Caps}
use Rattle.hatch_format.specs.Values.{Edge, line, arc, ellipse, spline}
use Rattle.hatch_format.specs.Layouts.{EdgeLaid}
use Rattle.hatch_format.specs.Points.{point, arc_edge, ellipse_edge}
use Rattle.hatch_format.specs.Splines.{spline_edge}
use Rattle.hatch_format.specs.Edges.{edge_of, edge_read}
use Rattle.hatch_format.proofs.Splines.{spline_to, spline_from}

module _ (caps : Caps) (v : Version) where
  pub edge_to : (xs : List ℕ) (a : Edge) (p q : ℕ) → (edge_read caps v).lays xs a p q → EdgeLaid xs caps v a p q
  unfolding edge_read edge_of point arc_edge ellipse_edge spline_edge relay ◌>>=◌ pure refuse
  edge_to xs a p q l = go l.0 l.2 l.3
    where
      go : (k : ℕ) → Coded xs RC k p l.1 → (edge_of caps v k).lays xs a l.1 q → EdgeLaid xs caps v a p q
      go zero c m = absurd m
      go (suc zero) c m = rw (m.3.3.0, m.3.3.1) (l.1, c, (m.1, m.2, m.3.2))
      go (suc (suc zero)) c m = rw (m.3.0, m.3.1) (l.1, c, m.2)
      go (suc (suc (suc zero))) c m = rw (m.3.0, m.3.1) (l.1, c, m.2)
      go (suc (suc (suc (suc zero)))) c m = rw (m.3.0, m.3.1) (l.1, c, spline_to caps v xs _ _ _ m.2)
      go (suc (suc (suc (suc (suc n))))) c m = absurd m

  pub edge_from : (xs : List ℕ) (a : Edge) (p q : ℕ) → EdgeLaid xs caps v a p q → (edge_read caps v).lays xs a p q
  unfolding edge_read edge_of point arc_edge ellipse_edge spline_edge relay ◌>>=◌ pure
  edge_from xs (line start end) p q l = (1, l.0, l.1, (start, l.2.0, l.2.1, (end, q, l.2.2, (refl, refl))))
  edge_from xs (arc a) p q l = (2, l.0, l.1, (a, q, l.2, (refl, refl)))
  edge_from xs (ellipse a) p q l = (3, l.0, l.1, (a, q, l.2, (refl, refl)))
  edge_from xs (spline a) p q l = (4, l.0, l.1, (a, q, spline_from caps v xs _ _ _ l.2, (refl, refl)))
