-- The walks over edges and paths, step by step as the functions take them: each is a format that gathers entries. Assumes nothing.
use Rattle.std.specs.Prelude.{Bool, true, false, [], ◌∷◌, ℕ, zero, suc, ◌+◌, ◌*◌}
use Rattle.bitcursor.specs.declared.Refusal.TheVariants.{EdgeKind}
use Rattle.loads.specs.Bits.{bit}
use Rattle.bitcursor.specs.Codes.{B, RC, BL}
use Rattle.bitcursor.specs.Format.{Format, pure, refuse, ◌>>=◌}
use Rattle.bitcursor.specs.Inputs.{one}
use Rattle.bitcursor.specs.Fields.{coded}
use Rattle.hatch_format.specs.declared.Caps.{Caps}
use Rattle.hatch_format.specs.Values.{polylined}
use Rattle.hatch_format.specs.HandleRule.{in_payload}
use Rattle.hatch_format.specs.Counts.{bounded}
use Rattle.hatch_format.specs.Paths.{handle_count}
use Rattle.hatch_points.specs.Gathered.{Entries, word, words, flag_entries, plus, repeated}
use Rattle.hatch_points.specs.Walks.{raw_run, double_run, vertices_walk}

-- a B that is a word
unfoldable pub bit_walk : Format one Entries
bit_walk = do
  b ← coded B
  pure (word (bit b))

-- an arc (2 RD) or an ellipse (4 RD), behind its kind: then 3 BD, B
unfoldable pub curve_walk : ℕ → Format one Entries
curve_walk n = do
  points ← raw_run n
  angles ← double_run 3
  ccw ← bit_walk
  pure (plus points (plus angles ccw))

-- how many RD n fit points and their tangents are
abbrev pub fitted_raw : ℕ → ℕ
fitted_raw zero = 0
fitted_raw (suc n) = 2 * suc n + 4

unfoldable pub fits_walk : ℕ → Bool → Format one Entries
fits_walk cap true = do
  n ← bounded cap BL
  points ← raw_run (fitted_raw n)
  pure (plus (word n) points)
fits_walk cap false = pure (word 0)

-- a polyline
unfoldable pub polyline_walk : Caps → Format one Entries
polyline_walk caps = do
  bulge ← coded B
  closed ← coded B
  n ← bounded caps.vertices BL
  vertices ← vertices_walk bulge n
  pure (plus (words (bit bulge ∷ (bit closed ∷ (n ∷ [])))) vertices)

-- a handle count that is a word, of handles in the payload: the rule is hatch_format's, and there it does not look at the sum
unfoldable pub handles_walk : ℕ → Format one Entries
handles_walk cap = do
  n ← handle_count cap in_payload 0
  pure (word n)

module _ (caps : Caps) (has_fits : Bool) where
  unfoldable pub spline_lists_walk : Bool → ℕ → ℕ → Format one Entries
  spline_lists_walk rational knots controls = do
    ks ← double_run knots
    cs ← vertices_walk rational controls
    fs ← fits_walk caps.fit_points has_fits
    pure (plus ks (plus cs fs))

  unfoldable pub spline_walk : Format one Entries
  spline_walk = do
    degree ← coded BL
    rational ← coded B
    periodic ← coded B
    knots ← bounded caps.knots BL
    controls ← bounded caps.control_points BL
    lists ← spline_lists_walk rational knots controls
    pure (plus (words (degree ∷ (bit rational ∷ (bit periodic ∷ (knots ∷ (controls ∷ [])))))) lists)

  unfoldable pub edge_of_walk : ℕ → Format one Entries
  edge_of_walk zero = refuse EdgeKind tt
  edge_of_walk (suc zero) = raw_run 4
  edge_of_walk (suc (suc zero)) = curve_walk 2
  edge_of_walk (suc (suc (suc zero))) = curve_walk 4
  edge_of_walk (suc (suc (suc (suc zero)))) = spline_walk
  edge_of_walk (suc (suc (suc (suc (suc n))))) = refuse EdgeKind tt

  unfoldable pub edge_walk : Format one Entries
  edge_walk = do
    kind ← coded RC
    e ← edge_of_walk kind
    pure (plus (word kind) e)

  unfoldable pub edges_walk : Format one Entries
  edges_walk = do
    n ← bounded caps.edges BL
    es ← repeated n edge_walk
    pure (plus (word n) es)

  unfoldable pub segments_walk : Bool → Format one Entries
  segments_walk true = polyline_walk caps
  segments_walk false = edges_walk

  -- what follows a path's flags
  unfoldable pub after_flags_walk : Bool → Format one Entries
  after_flags_walk b = do
    a ← segments_walk b
    n ← handles_walk caps.boundary_handles
    pure (plus a n)

  unfoldable pub path_walk : Format one Entries
  path_walk = do
    flags ← coded BL
    a ← after_flags_walk (polylined flags)
    pure (plus (flag_entries flags) a)
