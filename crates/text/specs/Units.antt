-- The units of a text: n numbers of k bytes each, the low byte first, one after another; cut short they stop after the last whole
-- byte. Assumes nothing.
use Rattle.std.specs.Prelude.{◌≡◌, refl, Bool, length}
use Rattle.std.proofs.Math.Path.{sym, ap, ap₂}
use Rattle.std.proofs.Common.{◌∙◌}
use mathlib.Core.List.{List, [], ◌∷◌, ◌++◌, append-nil}
use Rattle.std.proofs.Math.Logic.{⊎_elim}
use Prim.Native.Nat.{ℕ, zero, suc, ◌+◌, ◌-◌, ◌*◌, ◌/◌, ◌^◌, ◌≤◌, ◌<◌}
use Rattle.std.proofs.Math.Nat.{mul-suc, mul-zero}
use native.Mathlib.Omega.{arith}
use Rattle.bitcursor.specs.declared.Refusal.TheVariants.{TooFewBits}
use Rattle.loads.specs.Bits.{bits_of, size}
use Rattle.bitcursor.specs.Reading.{got, refused}
use Rattle.bitcursor.specs.Code.{Code, give, ◌>>=◌, tabled}
use Rattle.bitcursor.specs.Bytes.{low_first, le_or_lt}
use Rattle.loads.specs.Bytes.{low_bytes, low_number, bytes_at}
use Rattle.bitcursor.specs.Stops.{low_there, low_short}

-- each is below m
abbrev pub AllBelow : ℕ → List ℕ → Type 0
AllBelow m [] = Unit {0}
AllBelow m (u ∷ us) = (u < m) × AllBelow m us

-- the bits of the units
unfoldable pub unit_bits : ℕ → List ℕ → List Bool
unit_bits k [] = []
unit_bits k (u ∷ us) = bits_of (low_bytes k u) ++ unit_bits k us

abbrev pub Units : ℕ → ℕ → List ℕ → List Bool → Type 0
Units k n us cs = (length us ≡ n) × AllBelow (256 ^ k) us × (cs ≡ unit_bits k us)

module _ (k : ℕ) where
  unfoldable pub units_read : ℕ → Code (List ℕ)
  units_read zero = give []
  units_read (suc n) = low_first k >>= λ u. units_read n >>= λ us. give (u ∷ us)

  pub units_to : (n : ℕ) (us : List ℕ) (cs : List Bool) → (units_read n).codes us cs → Units k n us cs
  unfolding units_read give ◌>>=◌ unit_bits low_first tabled
  units_to zero us cs l = rw (l.0, l.1) (refl, tt, refl)
  units_to (suc n) us cs l =
      let r = l.4.0 in
      let t = units_to n r l.4.1 l.4.3 in
      let e : l.2 ≡ unit_bits k r = l.4.5 ∙ ap₂ ◌++◌ t.2 l.4.4.1 ∙ append-nil (unit_bits k r) in
      rw l.4.4.0 (ap suc t.0, (l.3.0, t.1), l.5 ∙ ap₂ ◌++◌ l.3.1 e)

  pub units_from : (n : ℕ) (us : List ℕ) (cs : List Bool) → Units k n us cs → (units_read n).codes us cs
  unfolding units_read give ◌>>=◌ unit_bits low_first tabled
  units_from zero [] cs l = (refl, l.2)
  units_from zero (u ∷ us) cs l = absurd (omega (arith, l.0))
  units_from (suc n) [] cs l = absurd (omega (arith, l.0))
  units_from (suc n) (u ∷ us) cs l = (
    u,
    bits_of (low_bytes k u),
    unit_bits k us,
    (l.1.0, refl),
    (us, unit_bits k us, [], units_from n us (unit_bits k us) (omega (arith, l.0), l.1.1, refl), (refl, refl), sym (append-nil (unit_bits k us))),
    l.2,
  )

  unfoldable pub units : ℕ → Code (List ℕ)
  units n = tabled (units_read n) (Units k n) (units_to n) (units_from n)

-- the n units of k bytes at a place
unfoldable pub units_at : List ℕ → ℕ → ℕ → ℕ → List ℕ
units_at xs p k zero = []
units_at xs p k (suc n) = low_number (bytes_at xs p k) ∷ units_at xs (p + 8 * k) k n

module _ (k : ℕ) where
  pub units_there : (n : ℕ) (xs : List ℕ) (p : ℕ) → 8 * (k * n) ≤ size xs - p → (units k n).read xs p ≡ got (units_at xs p k n) (p + 8 * (k * n))
  unfolding units tabled units_read units_at give ◌>>=◌
  units_there zero xs p h = ap (got []) (omega (arith, mul-zero k))
  units_there (suc n) xs p h =
      let m : k * suc n ≡ k * n + k = mul-suc k n in
      let e : p + 8 * k + 8 * (k * n) ≡ p + 8 * (k * suc n) = omega arith in
      rw (low_there k xs p (omega arith), units_there n xs (p + 8 * k) (omega arith), e)

  pub units_short : (n : ℕ) (xs : List ℕ) (p : ℕ) → size xs - p < 8 * (k * n) → (units k n).read xs p ≡ refused TooFewBits (p + (size xs - p) / 8 * 8)
  unfolding units tabled units_read ◌>>=◌
  units_short zero xs p h = absurd (omega (arith, mul-zero k))
  units_short (suc n) xs p h =
      let m : k * suc n ≡ k * n + k = mul-suc k n in
      ⊎_elim
      (λ (w : 8 * k ≤ size xs - p).
      let e : p + 8 * k + (size xs - (p + 8 * k)) / 8 * 8 ≡ p + (size xs - p) / 8 * 8 = omega arith in
      rw (low_there k xs p w, units_short n xs (p + 8 * k) (omega arith), e))
      (λ (w : size xs - p < 8 * k). rw (low_short k xs p w))
      (le_or_lt (8 * k) (size xs - p))
