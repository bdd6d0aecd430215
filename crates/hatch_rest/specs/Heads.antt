-- The fields of a pattern in front of its lines, as the code reads them, and what stands behind them. Assumes nothing.
use Rattle.std.specs.Prelude.{◌≡◌, false, List, ℕ}
use Rattle.bitcursor.specs.Reading.{chained}
use Rattle.bitcursor.specs.Codes.{B, BS}
use Rattle.bitcursor.specs.Doubles.{BD}
use Rattle.bitcursor.specs.Format.{Format, pure, ◌>>=◌, relay}
use Rattle.bitcursor.specs.Inputs.{one}
use Rattle.bitcursor.specs.Fields.{coded}
use Rattle.hatch_format.specs.declared.Caps.{Caps}
use Rattle.hatch_format.specs.Values.{Pattern as PatternValue}
use Rattle.hatch_format.specs.Counts.{times, bounded, counted, listed_read, listed}
use Rattle.hatch_format.specs.Patterns.{pattern_line, pattern_read, pattern}
use Rattle.hatch_rest.specs.declared.patterns.Pattern.{Pattern}

unfoldable pub pattern_head : ℕ → Format one Pattern
pattern_head cap = do
  angle ← coded BD
  scale ← coded BD
  double ← coded B
  n ← bounded cap BS
  pure (record { angle = angle; scale = scale; double = double; lines = n })

-- behind them
abbrev pub pattern_after_head : Caps → Pattern → Format one PatternValue
pattern_after_head caps h = do
  lines ← times h.lines (pattern_line caps.dashes)
  pure (record { angle = h.angle; scale = h.scale; double = h.double; lines = lines })

pub pattern_reads : (xs : List ℕ) (caps : Caps) (p : ℕ)
    → (pattern caps false).read xs p ≡ (pattern_head caps.pattern_lines >>= pattern_after_head caps).read xs p
unfolding pattern pattern_read pattern_head listed listed_read counted relay ◌>>=◌ pure
pattern_reads xs caps p = simp chained
