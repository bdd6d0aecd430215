-- The gradient as a certified format, from release 3: its block and its name are read with flag 0 too. Assumes nothing.
use Rattle.std.specs.Prelude.{refl, Bool, List, ℕ}
use Rattle.std.proofs.Math.Bool.{true, false}
use Rattle.bitcursor.specs.Codes.{RC, signed_BS, BL}
use Rattle.bitcursor.specs.Doubles.{BD}
use Rattle.bitcursor.specs.Format.{Format, pure, ◌>>=◌, relay}
use Rattle.bitcursor.specs.Inputs.{one, both}
use Rattle.bitcursor.specs.Fields.{coded, main, part_in}
use Rattle.text.specs.declared.version.Version.{Version}
use Rattle.text.specs.TextField.{TV_field}
use Rattle.hatch_format.specs.declared.GradientColorBits.{GradientColorBits}
use Rattle.hatch_format.specs.Values.{Block, Gradient, no_gradient, shown}
use Rattle.hatch_format.specs.Layouts.{ColorLaid, BlockLaid}
use Rattle.hatch_format.specs.Takes.{Takes, takes_first}
use Rattle.hatch_format.specs.Counts.{listed}
use Rattle.hatch_format.specs.Patterns.{takes_bit_BD}

-- ---- BD, BS signed, BL rgb, RC
unfoldable pub color_read : Format one GradientColorBits
color_read = do
  d ← coded BD
  s ← coded signed_BS
  rgb ← coded BL
  byte ← coded RC
  pure (record { unknown_double = d; unknown_short = s; rgb = rgb; ignored_color_byte = byte })

pub color_to : (xs : List ℕ) (a : GradientColorBits) (p q : ℕ) → color_read.lays xs a p q → ColorLaid xs a p q
unfolding color_read ◌>>=◌ pure
color_to xs a p q l =
    let e = l.3.3.3.3 in
    rw (e.0, e.1) (l.1, l.2, (l.3.1, l.3.2, (l.3.3.1, l.3.3.2, l.3.3.3.2)))

pub color_from : (xs : List ℕ) (a : GradientColorBits) (p q : ℕ) → ColorLaid xs a p q → color_read.lays xs a p q
unfolding color_read ◌>>=◌ pure
color_from xs a p q l = (
  a.unknown_double,
  l.0,
  l.1,
  (a.unknown_short, l.2.0, l.2.1, (a.rgb, l.2.2.0, l.2.2.1, (a.ignored_color_byte, q, l.2.2.2, (refl, refl)))),
)

unfoldable pub color : Format one GradientColorBits
color = relay color_read ColorLaid color_to color_from

pub takes_color : Takes 1 color
unfolding color color_read relay
takes_color xs a p q l = takes_first 1 (coded BD) _ takes_bit_BD xs a p q (color_from xs a p q l)

-- ---- BL flag, BL ignored, BD angle, BD shift, BL single, BD tint, BL count, colours
module _ (cap : ℕ) where
  unfoldable pub block_read : Format one Block
  block_read = do
    flag ← coded BL
    ignored ← coded BL
    angle ← coded BD
    shift ← coded BD
    single ← coded BL
    tint ← coded BD
    colors ← listed cap BL color takes_color
    pure (record { flag = flag; ignored = ignored; angle = angle; shift = shift; single_color = single; tint = tint; colors = colors })

  pub block_to : (xs : List ℕ) (a : Block) (p q : ℕ) → block_read.lays xs a p q → BlockLaid xs cap a p q
  unfolding block_read listed color relay ◌>>=◌ pure
  block_to xs a p q l =
      let m = l.3.3.3 in
      let e = m.3.3.3.3 in
      rw (e.0, e.1)
      (l.1, l.2, (l.3.1, l.3.2, (l.3.3.1, l.3.3.2, (m.1, m.2, (m.3.1, m.3.2, (m.3.3.1, m.3.3.2, m.3.3.3.2))))))

  pub block_from : (xs : List ℕ) (a : Block) (p q : ℕ) → BlockLaid xs cap a p q → block_read.lays xs a p q
  unfolding block_read listed color relay ◌>>=◌ pure
  block_from xs a p q l =
      let m = l.2.2.2 in (
        a.flag,
        l.0,
        l.1,
        (
          a.ignored,
          l.2.0,
          l.2.1,
          (
            a.angle,
            l.2.2.0,
            l.2.2.1,
            (
              a.shift,
              m.0,
              m.1,
              (a.single_color, m.2.0, m.2.1, (a.tint, m.2.2.0, m.2.2.1, (a.colors, q, m.2.2.2, (refl, refl)))),
            ),
          ),
        ),
      )

  unfoldable pub block : Format one Block
  block = relay block_read (λ xs. BlockLaid xs cap) block_to block_from

  -- ---- the block and the name; releases 1 and 2 have neither
  module _ (v : Version) where
    unfoldable pub gradient_read : Bool → Format both Gradient
    gradient_read true = do
      b ← part_in main block
      name ← TV_field v
      pure (shown b name)
    gradient_read false = pure no_gradient

    unfoldable pub gradient : Bool → Format both Gradient
    gradient t = gradient_read t
