-- The range of what each code read, where a `?` gave it. Assumes nothing.
use Rattle.std.specs.Prelude.{◌≡◌, List, ℕ, ◌^◌, ◌<◌}
use Rattle.std.proofs.Common.{sym}
use Rattle.bitcursor.specs.Reading.{got}
use Rattle.bitcursor.specs.Codes.{BS, BL}
use Rattle.bitcursor.specs.Doubles.{BD}
use Rattle.bitcursor.specs.Handles.{BLL}
use Rattle.bitcursor.specs.Ranges.{read_below, BS_below, BD_below, BLL_below}
use Rattle.bitcursor.proofs.Longs.{BL_below}
use Rattle.bitcursor.proofs.Steps.{raw_small, low_small}

module _ (xs : List ℕ) (p : ℕ) {v q : ℕ} where
  pub BS_small : got v q ≡ BS.read xs p → v < 2 ^ 16
  BS_small e = read_below BS BS_below xs p (sym e)

  pub BL_small : got v q ≡ BL.read xs p → v < 2 ^ 32
  BL_small e = read_below BL BL_below xs p (sym e)

  pub BD_small : got v q ≡ BD.read xs p → v < 2 ^ 64
  BD_small e = read_below BD BD_below xs p (sym e)

  pub BLL_small : got v q ≡ BLL.read xs p → v < 2 ^ 56
  BLL_small e = read_below BLL BLL_below xs p (sym e)

pub ruleset smalls = (raw_small, low_small, BS_small, BL_small, BD_small, BLL_small)
