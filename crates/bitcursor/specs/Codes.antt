-- The codes of the specification's section 2, each with the table of its codes: tag, what follows, value. Doubles (RD, BD, DD)
-- are their 64 bits. A signed reading is the unsigned one with `signed` as its last step. Assumes nothing.
use Rattle.std.specs.Prelude.{◌≡◌, refl, Bool, true, false, ℤ, pos, negsuc, ltb, eqb}
use Rattle.std.proofs.Math.Path.{subst⁻¹}
use mathlib.Core.List.{List, [], ◌∷◌, ◌++◌}
use Prim.Native.Nat.{ℕ, zero, suc, ◌-◌, ◌^◌, ◌<◌}
use native.Mathlib.Omega.{arith}
use Rattle.bitcursor.specs.declared.Refusal.TheVariants.{ReservedTag}
use Rattle.loads.specs.Bits.{bits_of, digits}
use Rattle.bitcursor.specs.Code.{Code, give, refuse, raw, ◌>>=◌, tabled, mapped}
use Rattle.bitcursor.specs.Bytes.{low_first}
use Rattle.loads.specs.Bytes.{low_bytes}

-- the two bits, as the specification writes them
abbrev pub O : Bool
O = false

abbrev pub I : Bool
I = true

-- the signed number of n bits: v in the lower half, else v less 2 ^ n
abbrev pub signed : ℕ → ℕ → ℤ
signed n v = elim (ltb v (2 ^ (n - 1))) [ true ↦ pos v | false ↦ negsuc (2 ^ n - suc v) ]

-- ---- raw codes: bits, and bytes with the low one first
pub data B_codes : Bool → List Bool → Type 0 where
  B_of : {b : Bool} → B_codes b (b ∷ [])

unfoldable pub B_read : Code Bool
B_read = mapped (eqb 1) (raw 1)

pub B_to : (b : Bool) (cs : List Bool) → B_read.codes b cs → B_codes b cs
unfolding B_read mapped tabled raw digits
B_to b cs l = rw (l.2, l.1.1) (go l.0 l.1.0)
  where
    go : (v : ℕ) → v < 2 → B_codes (eqb 1 v) (digits 1 v)
    go zero h = B_of
    go (suc zero) h = B_of
    go (suc (suc v)) h = absurd (omega arith)

pub B_from : (b : Bool) (cs : List Bool) → B_codes b cs → B_read.codes b cs
unfolding B_read mapped tabled raw digits
B_from true cs B_of = (1, (omega arith, refl), refl)
B_from false cs B_of = (0, (omega arith, refl), refl)

unfoldable pub B : Code Bool
B = tabled B_read B_codes B_to B_from

unfoldable pub BB : Code ℕ
BB = raw 2

unfoldable pub «3B» : Code ℕ
«3B» = raw 3

unfoldable pub RC : Code ℕ
RC = low_first 1

unfoldable pub RS : Code ℤ
RS = mapped (signed 16) (low_first 2)

unfoldable pub RL : Code ℕ
RL = low_first 4

unfoldable pub RD : Code ℕ
RD = low_first 8

-- ---- codes that open with a tag of two bits
module _ {A : Type 0} where
  -- what follows each tag
  unfoldable pub by_tag : Code A → Code A → Code A → Code A → ℕ → Code A
  by_tag a b c d zero = a
  by_tag a b c d (suc zero) = b
  by_tag a b c d (suc (suc zero)) = c
  by_tag a b c d (suc (suc (suc n))) = d

  unfoldable pub tagged : Code A → Code A → Code A → Code A → Code A
  tagged a b c d = raw 2 >>= by_tag a b c d

  -- the tag's bits, and a code of what follows it
  pub data Tagged (a b c d : Code A) (v : A) : List Bool → Type 0 where
    at_00 : {cs : List Bool} → a.codes v cs → Tagged a b c d v (O ∷ O ∷ cs)
    at_01 : {cs : List Bool} → b.codes v cs → Tagged a b c d v (O ∷ I ∷ cs)
    at_10 : {cs : List Bool} → c.codes v cs → Tagged a b c d v (I ∷ O ∷ cs)
    at_11 : {cs : List Bool} → d.codes v cs → Tagged a b c d v (I ∷ I ∷ cs)

  pub tagged_to : (a b c d : Code A) (v : A) (cs : List Bool) → (tagged a b c d).codes v cs → Tagged a b c d v cs
  unfolding tagged by_tag raw ◌>>=◌ digits
  tagged_to a b c d v cs l = subst⁻¹ (Tagged a b c d v) l.5 (go l.0 l.1 l.3.0 l.3.1 l.4)
    where
      go : (t : ℕ) (ds : List Bool) → t < 4 → ds ≡ digits 2 t → (by_tag a b c d t).codes v l.2 → Tagged a b c d v (ds ++ l.2)
      go zero ds h e m = rw e (at_00 m)
      go (suc zero) ds h e m = rw e (at_01 m)
      go (suc (suc zero)) ds h e m = rw e (at_10 m)
      go (suc (suc (suc zero))) ds h e m = rw e (at_11 m)
      go (suc (suc (suc (suc t)))) ds h e m = absurd (omega arith)

  pub tagged_from : (a b c d : Code A) (v : A) (cs : List Bool) → Tagged a b c d v cs → (tagged a b c d).codes v cs
  unfolding tagged by_tag raw ◌>>=◌ digits
  tagged_from a b c d v cs (at_00 {cs = es} m) = (0, digits 2 0, es, (omega arith, refl), m, refl)
  tagged_from a b c d v cs (at_01 {cs = es} m) = (1, digits 2 1, es, (omega arith, refl), m, refl)
  tagged_from a b c d v cs (at_10 {cs = es} m) = (2, digits 2 2, es, (omega arith, refl), m, refl)
  tagged_from a b c d v cs (at_11 {cs = es} m) = (3, digits 2 3, es, (omega arith, refl), m, refl)

-- BS, the bit short: 00 two bytes, 01 one byte, 10 is 0, 11 is 256
pub data BS_codes : ℕ → List Bool → Type 0 where
  BS_00 : {v : ℕ} → v < 2 ^ 16 → BS_codes v (O ∷ O ∷ bits_of (low_bytes 2 v))
  BS_01 : {v : ℕ} → v < 2 ^ 8 → BS_codes v (O ∷ I ∷ bits_of (low_bytes 1 v))
  BS_10 : BS_codes 0 (I ∷ O ∷ [])
  BS_11 : BS_codes 256 (I ∷ I ∷ [])

unfoldable pub BS_read : Code ℕ
BS_read = tagged (low_first 2) (low_first 1) (give 0) (give 256)

pub BS_to : (v : ℕ) (cs : List Bool) → BS_read.codes v cs → BS_codes v cs
unfolding BS_read low_first tabled give
BS_to v cs l = go cs (tagged_to _ _ _ _ v cs l)
  where
    go : (cs : List Bool) → Tagged (low_first 2) (low_first 1) (give 0) (give 256) v cs → BS_codes v cs
    go cs (at_00 m) = rw m.1 (BS_00 m.0)
    go cs (at_01 m) = rw m.1 (BS_01 m.0)
    go cs (at_10 m) = rw (m.0, m.1) BS_10
    go cs (at_11 m) = rw (m.0, m.1) BS_11

pub BS_from : (v : ℕ) (cs : List Bool) → BS_codes v cs → BS_read.codes v cs
unfolding BS_read low_first tabled give
BS_from v cs (BS_00 h) = tagged_from _ _ _ _ v cs (at_00 (h, refl))
BS_from v cs (BS_01 h) = tagged_from _ _ _ _ v cs (at_01 (h, refl))
BS_from v cs BS_10 = tagged_from _ _ _ _ v cs (at_10 (refl, refl))
BS_from v cs BS_11 = tagged_from _ _ _ _ v cs (at_11 (refl, refl))

unfoldable pub BS : Code ℕ
BS = tabled BS_read BS_codes BS_to BS_from

unfoldable pub signed_BS : Code ℤ
signed_BS = mapped (signed 16) BS

-- BL, the bit long: 00 four bytes, 01 one byte, 10 is 0, 11 refused. That its codes are those of the table is `BL_to` and `BL_from` of proofs/Longs
pub data BL_codes : ℕ → List Bool → Type 0 where
  BL_00 : {v : ℕ} → v < 2 ^ 32 → BL_codes v (O ∷ O ∷ bits_of (low_bytes 4 v))
  BL_01 : {v : ℕ} → v < 2 ^ 8 → BL_codes v (O ∷ I ∷ bits_of (low_bytes 1 v))
  BL_10 : BL_codes 0 (I ∷ O ∷ [])

unfoldable pub BL_read : Code ℕ
BL_read = tagged (low_first 4) (low_first 1) (give 0) (refuse ReservedTag tt)

unfoldable pub BL : Code ℕ
BL = BL_read

unfoldable pub signed_BL : Code ℤ
signed_BL = mapped (signed 32) BL
