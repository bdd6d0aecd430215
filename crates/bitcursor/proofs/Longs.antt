-- The table of BL's codes: the reading has just these, and no others. Assumes nothing.
use Rattle.std.specs.Prelude.{refl, Bool, ◌↔◌}
use mathlib.Core.List.{List}
use Prim.Native.Nat.{ℕ, ◌^◌, ◌<◌}
use native.Mathlib.Omega.{arith}
use Rattle.bitcursor.specs.declared.Refusal.TheVariants.{ReservedTag}
use Rattle.bitcursor.specs.Code.{Laid, tabled, give, refuse}
use Rattle.bitcursor.specs.Bytes.{low_first}
use Rattle.bitcursor.specs.Codes.{Tagged, at_00, at_01, at_10, at_11, tagged_to, tagged_from, BL, BL_codes, BL_00, BL_01, BL_10, BL_read}
use Rattle.bitcursor.specs.Joins.{Coded}
use Rattle.bitcursor.specs.Ranges.{Below}

pub BL_to : (v : ℕ) (cs : List Bool) → BL_read.codes v cs → BL_codes v cs
unfolding BL_read low_first tabled give refuse
BL_to v cs l = go cs (tagged_to _ _ _ _ v cs l)
  where
    go : (cs : List Bool) → Tagged (low_first 4) (low_first 1) (give 0) (refuse ReservedTag tt) v cs → BL_codes v cs
    go cs (at_00 m) = rw m.1 (BL_00 m.0)
    go cs (at_01 m) = rw m.1 (BL_01 m.0)
    go cs (at_10 m) = rw (m.0, m.1) BL_10
    go cs (at_11 m) = absurd m

pub BL_from : (v : ℕ) (cs : List Bool) → BL_codes v cs → BL_read.codes v cs
unfolding BL_read low_first tabled give
BL_from v cs (BL_00 h) = tagged_from _ _ _ _ v cs (at_00 (h, refl))
BL_from v cs (BL_01 h) = tagged_from _ _ _ _ v cs (at_01 (h, refl))
BL_from v cs BL_10 = tagged_from _ _ _ _ v cs (at_10 (refl, refl))

-- a BL in a payload is a code of the table there
pub BL_laid : (xs : List ℕ) (v p q : ℕ) → Coded xs BL v p q ↔ Laid BL_codes xs v p q
unfolding BL
BL_laid xs v p q = (
  λ l. record { code = l.code; listed = BL_to v l.code l.listed; stands = l.stands; ends = l.ends },
  λ l. record { code = l.code; listed = BL_from v l.code l.listed; stands = l.stands; ends = l.ends },
)

pub BL_below : Below (2 ^ 32) BL
unfolding BL
BL_below v cs l = go v cs (BL_to v cs l)
  where
    go : (v : ℕ) (cs : List Bool) → BL_codes v cs → v < 2 ^ 32
    go v cs (BL_00 h) = h
    go v cs (BL_01 h) = omega arith
    go v cs BL_10 = omega arith
