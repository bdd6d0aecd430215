-- The parts of a front as they are read: field by field, with the colours passed over and the place where they stand kept. Assumes nothing.
use Rattle.std.specs.Prelude.{Bool, true, false, ℕ, leb, Option, None}
use Rattle.bitcursor.specs.Codes.{BL}
use Rattle.bitcursor.specs.Doubles.{BD}
use Rattle.bitcursor.specs.Format.{Format, pure, ◌>>=◌, peek}
use Rattle.bitcursor.specs.Inputs.{one, both}
use Rattle.bitcursor.specs.Fields.{coded, main, part_in}
use Rattle.text.specs.declared.version.Version.{Version}
use Rattle.text.specs.Releases.{release_number}
use Rattle.text.specs.TextField.{TV_field}
use Rattle.hatch_format.specs.declared.Caps.{Caps}
use Rattle.hatch_format.specs.Counts.{bounded, times}
use Rattle.hatch_format.specs.Gradients.{color}
use Rattle.hatch_format.specs.Hatch.{plane}
use Rattle.hatch_front.specs.declared.Gradient.{Gradient}
use Rattle.hatch_front.specs.declared.Front.{Front}
use Rattle.hatch_front.specs.declared.gradients.Block.{Block}
use Rattle.hatch_front.specs.Answers.{shown_of, plane_as}

-- a format's reading with its value forgotten
unfoldable pub passed : {A : Type 0} → Format one A → Format one (Unit {0})
passed f = f >>= λ a. pure tt

-- ---- the block: BL flag, BL ignored, BD angle, BD shift, BL single, BD tint, BL count, colours
unfoldable pub block_passed : ℕ → Format one Block
block_passed cap = do
  flag ← coded BL
  ignored ← coded BL
  angle ← coded BD
  shift ← coded BD
  single ← coded BL
  tint ← coded BD
  n ← bounded cap BL
  at ← peek one (λ known p. p)
  colors ← passed (times n color)
  pure (record { flag = flag; angle = angle; shift = shift; single_color = single; tint = tint; num_colors = n; colors_at = at })

-- ---- the gradient: the block and the name; releases 1 and 2 have neither
unfoldable pub gradient_passed : ℕ → Version → Bool → Format both (Option Gradient)
gradient_passed cap v true = do
  b ← part_in main (block_passed cap)
  name ← TV_field v
  pure (shown_of b name)
gradient_passed cap v false = pure None

-- ---- the front
unfoldable pub front_passed : Caps → Version → Format both Front
front_passed caps v = do
  fill ← gradient_passed caps.colors v (leb 3 (release_number v))
  a ← part_in main plane
  name ← TV_field v
  pure (record { gradient = fill; plane = plane_as a; name = name })
