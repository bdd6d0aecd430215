-- Boundary paths as certified formats: a polyline or edges, and the count of boundary handles. Assumes nothing.
use Rattle.std.specs.Prelude.{◌≡◌, Bool, List, ℕ, ◌+◌}
use Rattle.std.proofs.Math.Bool.{true, false}
use Rattle.std.proofs.Common.{arith}
use Rattle.std.proofs.Math.Dec.{leb}
use Rattle.bitcursor.specs.declared.Refusal.TheVariants.{CountTooLarge}
use Rattle.bitcursor.specs.Codes.{B, BL}
use Rattle.bitcursor.specs.Format.{Format, pure, refuse, ◌>>=◌, either}
use Rattle.bitcursor.specs.Inputs.{one}
use Rattle.bitcursor.specs.Fields.{coded}
use Rattle.text.specs.declared.version.Version.{Version}
use Rattle.hatch_format.specs.declared.Caps.{Caps}
use Rattle.hatch_format.specs.HandleRule.{Handles, in_payload, in_stream}
use Rattle.hatch_format.specs.Values.{Segments, polyline, edges, Path, polylined, add_handles}
use Rattle.hatch_format.specs.Takes.{Takes, takes_less, takes_first, takes_BL}
use Rattle.hatch_format.specs.Counts.{capped, bounded, listed, listed_by, listed_times}
use Rattle.hatch_format.specs.Points.{vertex, takes_vertex}
use Rattle.hatch_format.specs.Edges.{edge, takes_edge}

-- ---- the rule for handle counts; `sum` is that of the paths before. Not above the cap; and, where the handles lie in the payload, not above the
-- bits left after the count, as the Rust has it; where they lie in a stream, the running sum not above the stream's number. No call reads by a
-- stream yet: passing its number gets a refusal of its own with the entry that takes one
module _ (cap : ℕ) where
  unfoldable pub handle_count_read : Handles → ℕ → Format one ℕ
  handle_count_read in_payload sum = bounded cap BL
  handle_count_read (in_stream number) sum = do
    n ← capped cap BL
    either (leb (sum + n) number) (pure n) (refuse CountTooLarge tt)

  unfoldable pub handle_count : Handles → ℕ → Format one ℕ
  handle_count handles sum = handle_count_read handles sum

module _ (caps : Caps) (v : Version) where
  -- ---- B bulge, B closed, BL count, vertices; or BL count, edges
  unfoldable pub segments_read : Bool → Format one Segments
  segments_read true = do
    bulge ← coded B
    closed ← coded B
    vertices ← listed caps.vertices BL (vertex bulge) (takes_vertex bulge)
    pure (polyline bulge closed vertices)
  segments_read false = do
    es ← listed caps.edges BL (edge caps v) (takes_edge caps v)
    pure (edges es)

  unfoldable pub segments : Bool → Format one Segments
  segments b = segments_read b

-- ---- BL flags; a polyline where they say so, else edges; BL handle count
module _ (caps : Caps) (handles : Handles) (v : Version) where
  unfoldable pub path_read : ℕ → Format one Path
  path_read sum = do
    flags ← coded BL
    a ← segments caps v (polylined flags)
    n ← handle_count caps.boundary_handles handles sum
    pure (record { flags = flags; segments = a; boundary_handles = n })

  unfoldable pub path : ℕ → Format one Path
  path sum = path_read sum

  pub takes_path : (sum : ℕ) → Takes 1 (path sum)
  unfolding path path_read
  takes_path sum xs a p q l = takes_first 1 (coded BL) _ (takes_less 1 2 (coded BL) (omega arith) takes_BL) xs a p q l

  -- ---- BL count, and that many paths with the running sum of their handle counts
  unfoldable pub paths : Format one (List Path)
  paths = listed_by caps.paths BL path add_handles 0 takes_path

-- in the payload no path looks at the sum
module _ (caps : Caps) (v : Version) where
  pub paths_in_payload : (xs : List ℕ) (p : ℕ)
      → (paths caps in_payload v).read xs p ≡ (listed caps.paths BL (path caps in_payload v 0) (takes_path caps in_payload v 0)).read xs p
  unfolding paths path path_read handle_count handle_count_read takes_path
  paths_in_payload xs p = listed_times caps.paths BL (path caps in_payload v 0) (takes_path caps in_payload v 0) add_handles 0 xs p
