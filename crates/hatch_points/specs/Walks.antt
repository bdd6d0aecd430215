-- The walks over runs of doubles and over points, step by step as the functions take them: each is a format that gathers entries.
-- Assumes nothing.
use Rattle.std.specs.Prelude.{Bool, true, false, [], ◌∷◌, ℕ, ◌*◌}
use Rattle.bitcursor.specs.Codes.{RD}
use Rattle.bitcursor.specs.Doubles.{BD}
use Rattle.bitcursor.specs.Format.{Format, pure, ◌>>=◌}
use Rattle.bitcursor.specs.Inputs.{one}
use Rattle.bitcursor.specs.Fields.{coded}
use Rattle.hatch_format.specs.Counts.{times}
use Rattle.hatch_points.specs.Gathered.{Entries, numbers, plus, repeated}

-- n RD, n BD
unfoldable pub raw_run : ℕ → Format one Entries
raw_run n = times n (coded RD) >>= λ ns. pure (numbers ns)

unfoldable pub double_run : ℕ → Format one Entries
double_run n = times n (coded BD) >>= λ ns. pure (numbers ns)

-- one BD
unfoldable pub single_walk : Format one Entries
single_walk = coded BD >>= λ v. pure (numbers (v ∷ []))

-- 2 RD, BD
unfoldable pub vertex_walk : Format one Entries
vertex_walk = do
  point ← raw_run 2
  extra ← double_run 1
  pure (plus point extra)

-- n vertices or control points, with a double behind each or without
unfoldable pub vertices_walk : Bool → ℕ → Format one Entries
vertices_walk true n = repeated n vertex_walk
vertices_walk false n = raw_run (2 * n)
