-- BD and DD, the codes of doubles, as 64-bit patterns: the tables of the specification's section 2.5. Assumes nothing.
use Rattle.std.specs.Prelude.{refl, Bool, List, [], ◌∷◌, ◌++◌, ℕ, ◌+◌, ◌*◌, ◌/◌, ◌^◌, ◌<◌}
use Rattle.bitcursor.specs.declared.Refusal.TheVariants.{ReservedTag}
use Rattle.loads.specs.Bits.{bits_of}
use Rattle.bitcursor.specs.Code.{Code, give, refuse, ◌>>=◌, tabled, mapped}
use Rattle.bitcursor.specs.Bytes.{low_first}
use Rattle.loads.specs.Bytes.{low_bytes}
use Rattle.bitcursor.specs.Codes.{O, I, tagged, Tagged, at_00, at_01, at_10, at_11, tagged_to, tagged_from}

-- the pattern of 1.0
abbrev pub one_pattern : ℕ
one_pattern = 0x3ff0_0000_0000_0000

-- BD: 00 eight bytes, 01 is 1.0, 10 is +0.0, 11 refused
pub data BD_codes : ℕ → List Bool → Type 0 where
  BD_00 : {v : ℕ} → v < 2 ^ 64 → BD_codes v (O ∷ O ∷ bits_of (low_bytes 8 v))
  BD_01 : BD_codes one_pattern (O ∷ I ∷ [])
  BD_10 : BD_codes 0 (I ∷ O ∷ [])

unfoldable pub BD_read : Code ℕ
BD_read = tagged (low_first 8) (give one_pattern) (give 0) (refuse ReservedTag tt)

pub BD_to : (v : ℕ) (cs : List Bool) → BD_read.codes v cs → BD_codes v cs
unfolding BD_read low_first tabled give refuse
BD_to v cs l = go cs (tagged_to _ _ _ _ v cs l)
  where
    go : (cs : List Bool) → Tagged (low_first 8) (give one_pattern) (give 0) (refuse ReservedTag tt) v cs → BD_codes v cs
    go cs (at_00 m) = rw m.1 (BD_00 m.0)
    go cs (at_01 m) = rw (m.0, m.1) BD_01
    go cs (at_10 m) = rw (m.0, m.1) BD_10
    go cs (at_11 m) = absurd m

pub BD_from : (v : ℕ) (cs : List Bool) → BD_codes v cs → BD_read.codes v cs
unfolding BD_read low_first tabled give
BD_from v cs (BD_00 h) = tagged_from _ _ _ _ v cs (at_00 (h, refl))
BD_from v cs BD_01 = tagged_from _ _ _ _ v cs (at_01 (refl, refl))
BD_from v cs BD_10 = tagged_from _ _ _ _ v cs (at_10 (refl, refl))

unfoldable pub BD : Code ℕ
BD = tabled BD_read BD_codes BD_to BD_from

-- what DD makes of its default: the low four bytes replaced, and bytes 4 and 5 with them
abbrev pub low4 : ℕ → ℕ → ℕ
low4 d low = d / 2 ^ 32 * 2 ^ 32 + low

abbrev pub low6 : ℕ → ℕ → ℕ → ℕ
low6 d middle low = d / 2 ^ 48 * 2 ^ 48 + middle * 2 ^ 32 + low

-- DD with a default: 00 the default, 01 four bytes over its low four, 10 two over its bytes 4 and 5 and then four over its low
-- four, 11 eight bytes
pub data DD_codes (d : ℕ) : ℕ → List Bool → Type 0 where
  DD_00 : DD_codes d d (O ∷ O ∷ [])
  DD_01 : {low : ℕ} → low < 2 ^ 32 → DD_codes d (low4 d low) (O ∷ I ∷ bits_of (low_bytes 4 low))
  DD_10 : {middle low : ℕ} → middle < 2 ^ 16 → low < 2 ^ 32
      → DD_codes d (low6 d middle low) (I ∷ O ∷ (bits_of (low_bytes 2 middle) ++ bits_of (low_bytes 4 low)))
  DD_11 : {v : ℕ} → v < 2 ^ 64 → DD_codes d v (I ∷ I ∷ bits_of (low_bytes 8 v))

-- what follows the tags 01 and 10
unfoldable pub four : ℕ → Code ℕ
four d = mapped (low4 d) (low_first 4)

unfoldable pub six : ℕ → Code ℕ
six d = low_first 2 >>= λ middle. mapped (low6 d middle) (low_first 4)

unfoldable pub DD_read : ℕ → Code ℕ
DD_read d = tagged (give d) (four d) (six d) (low_first 8)

pub DD_to : (d v : ℕ) (cs : List Bool) → (DD_read d).codes v cs → DD_codes d v cs
unfolding DD_read low_first tabled give mapped four six ◌>>=◌
DD_to d v cs l = go cs (tagged_to _ _ _ _ v cs l)
  where
    go : (cs : List Bool) → Tagged (give d) (four d) (six d) (low_first 8) v cs → DD_codes d v cs
    go cs (at_00 m) = rw (m.0, m.1) DD_00
    go cs (at_01 m) = rw (m.2, m.1.1) (DD_01 m.1.0)
    go cs (at_10 m) = rw (m.5, m.4.2, m.3.1, m.4.1.1) (DD_10 m.3.0 m.4.1.0)
    go cs (at_11 m) = rw m.1 (DD_11 m.0)

pub DD_from : (d v : ℕ) (cs : List Bool) → DD_codes d v cs → (DD_read d).codes v cs
unfolding DD_read low_first tabled give mapped four six ◌>>=◌
DD_from d v cs DD_00 = tagged_from _ _ _ _ v cs (at_00 (refl, refl))
DD_from d v cs (DD_01 {low = low} h) = tagged_from _ _ _ _ v cs (at_01 (low, (h, refl), refl))
DD_from d v cs (DD_10 {middle = middle} {low = low} h k) =
    tagged_from _ _ _ _ v cs (at_10 (middle, bits_of (low_bytes 2 middle), bits_of (low_bytes 4 low), (h, refl), (low, (k, refl), refl), refl))
DD_from d v cs (DD_11 h) = tagged_from _ _ _ _ v cs (at_11 (h, refl))

unfoldable pub DD : ℕ → Code ℕ
DD d = tabled (DD_read d) (DD_codes d) (DD_to d) (DD_from d)
