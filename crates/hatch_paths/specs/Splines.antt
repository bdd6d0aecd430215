-- The fields of a spline in front of its lists, as the code reads them, and what stands behind them. Assumes nothing.
use Rattle.std.specs.Prelude.{◌≡◌, Bool, List, [], ◌∷◌, ℕ}
use Rattle.loads.specs.Bits.{bit}
use Rattle.bitcursor.specs.Reading.{chained}
use Rattle.bitcursor.specs.Codes.{B, BL}
use Rattle.bitcursor.specs.Format.{Format, pure, ◌>>=◌}
use Rattle.bitcursor.specs.Inputs.{one}
use Rattle.bitcursor.specs.Fields.{coded}
use Rattle.hatch_format.specs.declared.Caps.{Caps}
use Rattle.hatch_format.specs.Counts.{bounded}
use Rattle.hatch_points.specs.Gathered.{Entries, words, plus}
use Rattle.hatch_paths.specs.declared.edges.SplineHead.{SplineHead}
use Rattle.hatch_paths.specs.PathWalks.{spline_lists_walk, spline_walk}

unfoldable pub spline_head : Caps → Format one SplineHead
spline_head caps = do
  degree ← coded BL
  rational ← coded B
  periodic ← coded B
  knots ← bounded caps.knots BL
  controls ← bounded caps.control_points BL
  pure (record { degree = degree; rational = rational; periodic = periodic; knots = knots; controls = controls })

-- the words of the fields
abbrev pub head_words : SplineHead → List ℕ
head_words h = h.degree ∷ (bit h.rational ∷ (bit h.periodic ∷ (h.knots ∷ (h.controls ∷ []))))

-- behind them
abbrev pub spline_after_counts : Caps → Bool → SplineHead → Format one Entries
spline_after_counts caps b h = do
  lists ← spline_lists_walk caps b h.rational h.knots h.controls
  pure (plus (words (head_words h)) lists)

pub spline_reads : (xs : List ℕ) (caps : Caps) (b : Bool) (p : ℕ) → (spline_head caps >>= spline_after_counts caps b).read xs p ≡ (spline_walk caps b).read xs p
unfolding spline_walk spline_head ◌>>=◌ pure
spline_reads xs caps b p = simp chained
