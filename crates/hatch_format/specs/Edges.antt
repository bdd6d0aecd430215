-- An edge as a format: its kind, and what the kind has; kinds other than 1 to 4 are refused. Its layout is proved in proofs/Edges. Assumes nothing.
use Rattle.std.proofs.Common.{arith}
use Prim.Native.Nat.{ℕ, zero, suc}
use Rattle.bitcursor.specs.declared.Refusal.TheVariants.{EdgeKind}
use Rattle.bitcursor.specs.Codes.{RC}
use Rattle.bitcursor.specs.Format.{Format, pure, refuse, ◌>>=◌}
use Rattle.bitcursor.specs.Inputs.{one}
use Rattle.bitcursor.specs.Fields.{coded}
use Rattle.text.specs.declared.version.Version.{Version}
use Rattle.hatch_format.specs.declared.Caps.{Caps}
use Rattle.hatch_format.specs.Values.{Edge, line, arc, ellipse, spline}
use Rattle.hatch_format.specs.Takes.{Takes, takes_less, takes_first, takes_RC}
use Rattle.hatch_format.specs.Points.{point, arc_edge, ellipse_edge}
use Rattle.hatch_format.specs.Splines.{spline_edge}

module _ (caps : Caps) (v : Version) where
  -- what follows each kind
  unfoldable pub edge_of : ℕ → Format one Edge
  edge_of zero = refuse EdgeKind tt
  edge_of (suc zero) = do
    start ← point
    end ← point
    pure (line start end)
  edge_of (suc (suc zero)) = do
    a ← arc_edge
    pure (arc a)
  edge_of (suc (suc (suc zero))) = do
    a ← ellipse_edge
    pure (ellipse a)
  edge_of (suc (suc (suc (suc zero)))) = do
    a ← spline_edge caps v
    pure (spline a)
  edge_of (suc (suc (suc (suc (suc n))))) = refuse EdgeKind tt

  unfoldable pub edge_read : Format one Edge
  edge_read = do
    kind ← coded RC
    edge_of kind

  unfoldable pub edge : Format one Edge
  edge = edge_read

  pub takes_edge : Takes 1 edge
  unfolding edge edge_read
  takes_edge xs a p q l = takes_first 1 (coded RC) _ (takes_less 1 8 (coded RC) (omega arith) takes_RC) xs a p q l
