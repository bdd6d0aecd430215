-- Codes that say how many bytes follow: BLL (three bits, then that many bytes) and handles (code, counter, then counter bytes
-- with the high one first; a counter above 8 is refused). Assumes nothing.
use Rattle.std.specs.Prelude.{◌≡◌, refl, Bool, true, false, List, ◌++◌, ℕ, ◌*◌, ◌^◌, ◌≤◌, ◌<◌, leb}
use Rattle.std.proofs.Common.{arith, leb→le, le-leb}
use Rattle.bitcursor.specs.declared.Refusal.TheVariants.{HandleCounter}
use Rattle.bitcursor.specs.declared.Handle.{Handle}
use Rattle.loads.specs.Bits.{bits_of, digits}
use Rattle.bitcursor.specs.Code.{Code, refuse, raw, ◌>>=◌, tabled, mapped}
use Rattle.bitcursor.specs.Bytes.{low_first, high_first}
use Rattle.loads.specs.Bytes.{low_bytes}

pub data BLL_codes : ℕ → List Bool → Type 0 where
  BLL_of : {k v : ℕ} → k < 8 → v < 256 ^ k → BLL_codes v (digits 3 k ++ bits_of (low_bytes k v))

unfoldable pub BLL_read : Code ℕ
BLL_read = raw 3 >>= low_first

pub BLL_to : (v : ℕ) (cs : List Bool) → BLL_read.codes v cs → BLL_codes v cs
unfolding BLL_read raw ◌>>=◌ low_first tabled
BLL_to v cs l = rw (l.5, l.3.1, l.4.1) (BLL_of l.3.0 l.4.0)

pub BLL_from : (v : ℕ) (cs : List Bool) → BLL_codes v cs → BLL_read.codes v cs
unfolding BLL_read raw ◌>>=◌ low_first tabled
BLL_from v cs (BLL_of {k = k} h j) = (k, digits 3 k, bits_of (low_bytes k v), (h, refl), (j, refl), refl)

unfoldable pub BLL : Code ℕ
BLL = tabled BLL_read BLL_codes BLL_to BLL_from

pub data HANDLE_codes : Handle → List Bool → Type 0 where
  HANDLE_of : {code counter value : ℕ} → code < 16 → counter ≤ 8 → value < 2 ^ (8 * counter)
      → HANDLE_codes (record { code = code; counter = counter; value = value }) (digits 4 code ++ (digits 4 counter ++ digits (8 * counter) value))

-- the code where the test holds
unfoldable pub checked : {A : Type 0} → Bool → Code A → Code A → Code A
checked true c d = c
checked false c d = d

abbrev pub handle : ℕ → ℕ → ℕ → Handle
handle code counter value = record { code = code; counter = counter; value = value }

-- what follows the two nibbles
unfoldable pub HANDLE_value : ℕ → ℕ → Code Handle
HANDLE_value code counter = checked (leb counter 8) (mapped (handle code counter) (high_first counter)) (refuse HandleCounter tt)

unfoldable pub HANDLE_read : Code Handle
HANDLE_read = do
  code ← raw 4
  counter ← raw 4
  HANDLE_value code counter

pub HANDLE_to : (v : Handle) (cs : List Bool) → HANDLE_read.codes v cs → HANDLE_codes v cs
unfolding HANDLE_read HANDLE_value raw ◌>>=◌ high_first tabled mapped checked refuse
HANDLE_to v cs l = go (leb l.4.0 8) refl l.4.4
  where
    go : (b : Bool) → leb l.4.0 8 ≡ b
        → (checked b (mapped (handle l.0 l.4.0) (high_first l.4.0)) (refuse HandleCounter tt)).codes v l.4.2 → HANDLE_codes v cs
    go true e m =
        let h : l.4.0 ≤ 8 = leb→le _ _ (rw e tt) in
        rw (l.5, l.3.1, l.4.5, l.4.3.1, m.1.1, m.2) (HANDLE_of l.3.0 h m.1.0)
    go false e m = absurd m

pub HANDLE_from : (v : Handle) (cs : List Bool) → HANDLE_codes v cs → HANDLE_read.codes v cs
unfolding HANDLE_read HANDLE_value raw ◌>>=◌ high_first tabled mapped checked
HANDLE_from v cs (HANDLE_of {code = code} {counter = counter} {value = value} h j k) =
    let ds = digits (8 * counter) value in (
      code,
      digits 4 code,
      digits 4 counter ++ ds,
      (h, refl),
      (counter, digits 4 counter, ds, (omega arith, refl), rw (le-leb counter 8 j) (value, (k, refl), refl), refl),
      refl,
    )

unfoldable pub HANDLE : Code Handle
HANDLE = tabled HANDLE_read HANDLE_codes HANDLE_to HANDLE_from
