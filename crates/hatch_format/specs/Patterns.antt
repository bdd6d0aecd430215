-- The pattern, and what follows the pattern's name, as certified formats. Assumes nothing.
use Rattle.std.specs.Prelude.{refl, Bool, List, ℕ}
use Rattle.std.proofs.Common.{arith}
use Rattle.std.proofs.Math.Bool.{true, false}
use Rattle.bitcursor.specs.Codes.{B, BS, BL}
use Rattle.bitcursor.specs.Doubles.{BD}
use Rattle.bitcursor.specs.Held.{held}
use Rattle.bitcursor.specs.Format.{Format, pure, ◌>>=◌, relay}
use Rattle.bitcursor.specs.Inputs.{one}
use Rattle.bitcursor.specs.Fields.{coded}
use Rattle.text.specs.declared.version.Version.{Version}
use Rattle.hatch_format.specs.declared.Caps.{Caps}
use Rattle.hatch_format.specs.HandleRule.{Handles}
use Rattle.hatch_format.specs.Values.{derived, PatternLine, Pattern, no_pattern, Ending, Tail, Rest}
use Rattle.hatch_format.specs.Layouts.{LineLaid, PatternLaid, EndingLaid, TailLaid}
use Rattle.hatch_format.specs.Takes.{Takes, takes_less, takes_first, takes_BD}
use Rattle.hatch_format.specs.Counts.{listed}
use Rattle.hatch_format.specs.Points.{point, takes_point}
use Rattle.hatch_format.specs.Paths.{paths}

pub takes_bit_BD : Takes 1 (coded BD)
takes_bit_BD = takes_less 1 2 (coded BD) (omega arith) takes_BD

-- ---- 5 BD, BS count, dashes BD
module _ (cap : ℕ) where
  unfoldable pub pattern_line_read : Format one PatternLine
  pattern_line_read = do
    angle ← coded BD
    x ← coded BD
    y ← coded BD
    u ← coded BD
    w ← coded BD
    dashes ← listed cap BS (coded BD) takes_bit_BD
    pure (record { angle = angle; origin = record { x = x; y = y }; offset = record { x = u; y = w }; dashes = dashes })

  pub pattern_line_to : (xs : List ℕ) (a : PatternLine) (p q : ℕ) → pattern_line_read.lays xs a p q → LineLaid xs cap a p q
  unfolding pattern_line_read listed relay ◌>>=◌ pure
  pattern_line_to xs a p q l =
      let m = l.3.3.3 in
      let e = m.3.3.3 in
      rw (e.0, e.1) (l.1, l.2, (l.3.1, l.3.2, (l.3.3.1, l.3.3.2, (m.1, m.2, (m.3.1, m.3.2, m.3.3.2)))))

  pub pattern_line_from : (xs : List ℕ) (a : PatternLine) (p q : ℕ) → LineLaid xs cap a p q → pattern_line_read.lays xs a p q
  unfolding pattern_line_read listed relay ◌>>=◌ pure
  pattern_line_from xs a p q l =
      let m = l.2.2.2 in (
        a.angle,
        l.0,
        l.1,
        (
          a.origin.x,
          l.2.0,
          l.2.1,
          (
            a.origin.y,
            l.2.2.0,
            l.2.2.1,
            (
              a.offset.x,
              m.0,
              m.1,
              (a.offset.y, m.2.0, m.2.1, (a.dashes, q, m.2.2, (refl, refl))),
            ),
          ),
        ),
      )

  unfoldable pub pattern_line : Format one PatternLine
  pattern_line = relay pattern_line_read (λ xs. LineLaid xs cap) pattern_line_to pattern_line_from

  pub takes_line : Takes 1 pattern_line
  unfolding pattern_line pattern_line_read relay
  takes_line xs a p q l = takes_first 1 (coded BD) _ takes_bit_BD xs a p q (pattern_line_from xs a p q l)

-- ---- if not solid: BD angle, BD scale, B double, BS count, lines; else these are zero
module _ (caps : Caps) where
  unfoldable pub pattern_read : Bool → Format one Pattern
  pattern_read true = pure no_pattern
  pattern_read false = do
    angle ← coded BD
    scale ← coded BD
    double ← coded B
    lines ← listed caps.pattern_lines BS (pattern_line caps.dashes) (takes_line caps.dashes)
    pure (record { angle = angle; scale = scale; double = double; lines = lines })

  pub pattern_to : (solid : Bool) (xs : List ℕ) (a : Pattern) (p q : ℕ) → (pattern_read solid).lays xs a p q → PatternLaid xs caps solid a p q
  unfolding pattern_read listed pattern_line relay ◌>>=◌ pure
  pattern_to true xs a p q l = l
  pattern_to false xs a p q l =
      let e = l.3.3.3.3 in
      rw (e.0, e.1) (l.1, l.2, (l.3.1, l.3.2, (l.3.3.1, l.3.3.2, l.3.3.3.2)))

  pub pattern_from : (solid : Bool) (xs : List ℕ) (a : Pattern) (p q : ℕ) → PatternLaid xs caps solid a p q → (pattern_read solid).lays xs a p q
  unfolding pattern_read listed pattern_line relay ◌>>=◌ pure
  pattern_from true xs a p q l = l
  pattern_from false xs a p q l =
      (a.angle, l.0, l.1, (a.scale, l.2.0, l.2.1, (a.double, l.2.2.0, l.2.2.1, (a.lines, q, l.2.2.2, (refl, refl)))))

  unfoldable pub pattern : Bool → Format one Pattern
  pattern solid = relay (pattern_read solid) (λ xs. PatternLaid xs caps solid) (pattern_to solid) (pattern_from solid)

-- ---- BD pixel size if any path comes from a boundary object, BL seeds, 2 RD each
module _ (caps : Caps) where
  unfoldable pub ending_read : Bool → Format one Ending
  ending_read has = do
    pixel ← coded (held has BD 0)
    seeds ← listed caps.seed_points BL point takes_point
    pure (record { pixel_size = pixel; seed_points = seeds })

  pub ending_to : (has : Bool) (xs : List ℕ) (a : Ending) (p q : ℕ) → (ending_read has).lays xs a p q → EndingLaid xs caps has a p q
  unfolding ending_read listed point relay ◌>>=◌ pure
  ending_to has xs a p q l = let e = l.3.3 in rw (e.0, e.1) (l.1, l.2, l.3.2)

  pub ending_from : (has : Bool) (xs : List ℕ) (a : Ending) (p q : ℕ) → EndingLaid xs caps has a p q → (ending_read has).lays xs a p q
  unfolding ending_read listed point relay ◌>>=◌ pure
  ending_from has xs a p q l = (a.pixel_size, l.0, l.1, (a.seed_points, q, l.2, (refl, refl)))

  unfoldable pub ending : Bool → Format one Ending
  ending has = relay (ending_read has) (λ xs. EndingLaid xs caps has) (ending_to has) (ending_from has)

  -- ---- BS style, BS type, the pattern, the last fields
  unfoldable pub tail_read : Bool → Bool → Format one Tail
  tail_read solid has = do
    style ← coded BS
    kind ← coded BS
    a ← pattern caps solid
    e ← ending has
    pure (record { pattern_style = style; pattern_type = kind; pattern = a; ending = e })

  pub tail_to : (solid has : Bool) (xs : List ℕ) (a : Tail) (p q : ℕ) → (tail_read solid has).lays xs a p q → TailLaid xs caps solid has a p q
  unfolding tail_read pattern ending relay ◌>>=◌ pure
  tail_to solid has xs a p q l =
      let e = l.3.3.3.3 in
      rw (e.0, e.1) (l.1, l.2, (l.3.1, l.3.2, (l.3.3.1, l.3.3.2, l.3.3.3.2)))

  pub tail_from : (solid has : Bool) (xs : List ℕ) (a : Tail) (p q : ℕ) → TailLaid xs caps solid has a p q → (tail_read solid has).lays xs a p q
  unfolding tail_read pattern ending relay ◌>>=◌ pure
  tail_from solid has xs a p q l =
      (a.pattern_style, l.0, l.1, (a.pattern_type, l.2.0, l.2.1, (a.pattern, l.2.2.0, l.2.2.1, (a.ending, q, l.2.2.2, (refl, refl)))))

  unfoldable pub tail : Bool → Bool → Format one Tail
  tail solid has = relay (tail_read solid has) (λ xs. TailLaid xs caps solid has) (tail_to solid has) (tail_from solid has)

-- ---- B solid, B associative, paths, and what follows them
module _ (caps : Caps) (handles : Handles) (v : Version) where
  unfoldable pub rest_read : Format one Rest
  rest_read = do
    solid ← coded B
    associative ← coded B
    outlines ← paths caps handles v
    a ← tail caps solid (derived outlines)
    pure (record { solid = solid; associative = associative; paths = outlines; tail = a })

  unfoldable pub rest : Format one Rest
  rest = rest_read
