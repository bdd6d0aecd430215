-- Laws of the units at a place: their last one, how many are left without a closing zero, and one step of a pass over them.
-- Assumes nothing.
use mathlib.Core.Path.{◌≡◌, refl, sym, ap, ◌∙◌}
use mathlib.Core.Bool.{Bool, true, false, not, ◌&&◌, beq}
use mathlib.Core.List.{List, [], ◌∷◌}
use Prim.Native.Nat.{ℕ, zero, suc, ◌+◌, ◌-◌, ◌*◌, ◌≤◌, ◌<◌}
use native.Mathlib.Nat.{mul-suc, mul-zero, mul-le-mul_left}
use native.Mathlib.Omega.{arith}
use lib.Dec.{eqb}
use lib.ListN.{length, get_or}
use borrow.Author.Tests.{not-true, not-false}
use Rattle.loads.specs.Bits.{bit}
use Rattle.loads.specs.Bytes.{low_number, bytes_at}
use Rattle.text.specs.Units.{units_at}
use Rattle.text.specs.Utf16.{high, low, paired_from}
use Rattle.text.specs.Texts.{unclosed, ends_in_zero}
use Rattle.text.proofs.UnitsLeft.{length_units, units_left}

-- each of n units lies within what they have
pub unit_within : (k n : ℕ) {i room : ℕ} → i < n → 8 * (k * n) ≤ room → 8 * (k * (i + 1)) ≤ room
unit_within k n {i} h f =
    let most : i + 1 ≤ n = omega arith in
    omega (arith, mul-le-mul_left k most)

unit_at : (xs : List ℕ) (p k n i : ℕ) → i < n → get_or (units_at xs p k n) i 0 ≡ low_number (bytes_at xs (p + 8 * (k * i)) k)
unfolding units_at
unit_at xs p k zero i h = absurd (omega arith)
unit_at xs p k (suc n) zero h = let e : p + 8 * (k * 0) ≡ p = omega (arith, mul-zero k) in rw e
unit_at xs p k (suc n) (suc i) h =
    let e : p + 8 * (k * suc i) ≡ p + 8 * k + 8 * (k * i) = omega (arith, mul-suc k i) in
    rw e (unit_at xs (p + 8 * k) k n i (omega arith))

-- ---- a closing zero: the last unit alone says whether there is one, and how many units are left
ends_last : (us : List ℕ) (m : ℕ) → length us ≡ suc m → ends_in_zero us ≡ eqb (get_or us m 0) 0
ends_last [] m h = absurd (omega arith)
ends_last (u ∷ []) zero h = refl
ends_last (u ∷ []) (suc m) h = absurd (omega arith)
ends_last (u ∷ (v ∷ us)) zero h = absurd (omega arith)
ends_last (u ∷ (v ∷ us)) (suc m) h = ends_last (v ∷ us) m (omega arith)

pub none_padded : (xs : List ℕ) (p k n : ℕ) → n ≤ 0 → false ≡ ends_in_zero (units_at xs p k n)
unfolding units_at
none_padded xs p k zero h = refl
none_padded xs p k (suc n) h = absurd (omega arith)

pub padded_units : (xs : List ℕ) (p k n : ℕ) → 0 < n → eqb (low_number (bytes_at xs (p + 8 * (k * (n - 1))) k)) 0 ≡ ends_in_zero (units_at xs p k n)
padded_units xs p k n some =
    let long : length (units_at xs p k n) ≡ suc (n - 1) = length_units xs p k n ∙ omega arith in
    sym (ends_last (units_at xs p k n) (n - 1) long ∙ ap (λ (u : ℕ). eqb u 0) (unit_at xs p k n (n - 1) (omega arith)))

-- of n units, one fewer is left where they are padded
module _ (xs : List ℕ) (p k n : ℕ) {padded : Bool} (e : padded ≡ ends_in_zero (units_at xs p k n)) where
  pub some_padded : bit padded ≤ n
  some_padded = rw e (omega (arith, units_left xs p k n))

  pub count_left : n - bit padded ≡ length (unclosed (units_at xs p k n))
  count_left = rw e (omega (arith, units_left xs p k n))

-- ---- one pass over 16-bit units: the first of the n - i units at i, and the rest
module _ (xs : List ℕ) (at n i : ℕ) (more : i < n) (half : Bool) where
  pub pass_step : paired_from half (units_at xs (at + 16 * i) 2 (n - i))
      ≡ beq (low (low_number (bytes_at xs (at + 16 * i) 2))) half
      && paired_from (high (low_number (bytes_at xs (at + 16 * i) 2))) (units_at xs (at + 16 * (i + 1)) 2 (n - (i + 1)))
  unfolding units_at
  pass_step =
      let e : n - i ≡ suc (n - (i + 1)) = omega arith in
      let f : at + 16 * i + 16 ≡ at + 16 * (i + 1) = omega arith in
      rw (e, f)

  pub pass_stop : (u : ℕ) (l : Bool) → u ≡ low_number (bytes_at xs (at + 16 * i) 2) → l ≡ low u → not (beq l half) ≡ true
      → false ≡ paired_from half (units_at xs (at + 16 * i) 2 (n - i))
  pass_stop u l e f g =
      let z : beq (low (low_number (bytes_at xs (at + 16 * i) 2))) half ≡ false =
      ap (λ (v : ℕ). beq (low v) half) (sym e) ∙ ap (λ (b : Bool). beq b half) (sym f) ∙ not-true (beq l half) g in
      sym (pass_step ∙ rw z)

  pub pass_on : (u : ℕ) (l h : Bool) → u ≡ low_number (bytes_at xs (at + 16 * i) 2) → l ≡ low u → not (beq l half) ≡ false → h ≡ high u
      → paired_from half (units_at xs (at + 16 * i) 2 (n - i)) ≡ paired_from h (units_at xs (at + 16 * (i + 1)) 2 (n - (i + 1)))
  pass_on u l h e f g k =
      let z : beq (low (low_number (bytes_at xs (at + 16 * i) 2))) half ≡ true =
      ap (λ (v : ℕ). beq (low v) half) (sym e) ∙ ap (λ (b : Bool). beq b half) (sym f) ∙ not-false (beq l half) g in
      pass_step ∙ rw (z, k, e)
