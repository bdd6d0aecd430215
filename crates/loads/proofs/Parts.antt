-- The number of some bits, from the bytes that they lie in. Assumes nothing.
use mathlib.Core.Path.{◌≡◌, refl, sym, ap, ◌∙◌}
use mathlib.Core.List.{List, [], ◌∷◌, ◌++◌}
use mathlib.Core.Bool.{Bool}
use Prim.Native.Nat.{ℕ, zero, suc, ◌+◌, ◌-◌, ◌*◌, ◌/◌, ◌%◌, ◌^◌, ◌≤◌, ◌<◌}
use native.Mathlib.Nat.{add-mul, mul_assoc, add_assoc, zero-add, div-add-mod, mod-eq_of_lt, le_of_suc-le-suc, not-suc-le-zero}
use native.Mathlib.Numerals.{add-one}
use native.Mathlib.Omega.{arith}
use lib.ListN.{length, take, drop, get_or, length-append, length-drop, take-append-drop}
use lib.Seq.{drop-append-add, drop-append-le, take-append-le, drop-cons, length-take-le}
use lib.Pow.{pow-add, high, low, shl_exact}
use lib.Dec.{lit<}
use Rattle.loads.specs.Bits.{bits_of, window, number, digits}
use Rattle.loads.specs.BitLaws.{length_bits, length_digits, number_append, number_lt, number_digits, bits_append}

pub number_byte : (b : ℕ) → b < 256 → number (digits 8 b) ≡ b
number_byte b h = number_digits 8 b ∙ mod-eq_of_lt h

-- the middle of three lists of bits
middle : (xs ys zs : List Bool) → number (xs ++ (ys ++ zs)) / 2 ^ length zs % 2 ^ length ys ≡ number ys
middle xs ys zs =
    rw (number_append xs (ys ++ zs), number_append ys zs, length-append ys zs, pow-add 2 (length ys) (length zs))
    (ap (λ (x : ℕ). x / 2 ^ length zs % 2 ^ length ys) (regroup (number xs) (2 ^ length ys) (2 ^ length zs) (number ys) (number zs))
    ∙ ap (λ (x : ℕ). x % 2 ^ length ys) (high (number xs * 2 ^ length ys + number ys) (length zs) (number_lt zs))
    ∙ low (number xs) (length ys) (number_lt ys))
  where
    regroup : (x p q y z : ℕ) → x * (p * q) + (y * q + z) ≡ (x * p + y) * q + z
    regroup x p q y z = simp (add-mul, mul_assoc, add_assoc)

-- 8 bits to a byte
drop_bits : (q r : ℕ) (s : List ℕ) → q ≤ length s → drop (8 * q + r) (bits_of s) ≡ drop r (bits_of (drop q s))
unfolding bits_of
drop_bits zero r s h = rw (zero-add r)
drop_bits (suc q) r [] h = absurd (not-suc-le-zero h)
drop_bits (suc q) r (b ∷ s) h =
    let e : 8 * suc q + r ≡ length (digits 8 b) + (8 * q + r) = omega (arith, length_digits 8 b) in
    ap (λ (k : ℕ). drop k (digits 8 b ++ bits_of s)) e ∙ drop-append-add (digits 8 b) (bits_of s) (8 * q + r)
    ∙ drop_bits q r s (le_of_suc-le-suc h)

-- some of the bits at the front
front : (a b : List Bool) (r n : ℕ) → r + n ≤ length a → number (take n (drop r (a ++ b))) ≡ number a / 2 ^ (length a - (r + n)) % 2 ^ n
front a b r n h =
    let h₁ : r ≤ length a = omega arith in
    let h₂ : n ≤ length (drop r a) = simp length-drop (omega arith) in
    let e : number (take r a ++ (take n (drop r a) ++ drop n (drop r a))) ≡ number a = rw (take-append-drop n (drop r a), take-append-drop r a) in
    let l₁ : length (drop n (drop r a)) ≡ length a - (r + n) = simp length-drop (omega arith) in
    let l₂ : length (take n (drop r a)) ≡ n = length-take-le n (drop r a) h₂ in
    rw (drop-append-le r a b h₁, take-append-le n (drop r a) b h₂)
    (sym (middle (take r a) (take n (drop r a)) (drop n (drop r a))) ∙ cc)

-- the bits of the k bytes at q
bits_taken : (k q : ℕ) (s : List ℕ) → q + k ≤ length s → length (bits_of (take k (drop q s))) ≡ 8 * k
bits_taken k q s h = length_bits (take k (drop q s)) ∙ ap (λ (m : ℕ). 8 * m) (length-take-le k (drop q s) (simp length-drop (omega arith)))

-- the number of the k bytes at q, the first on top
abbrev pub big_at : List ℕ → ℕ → ℕ → ℕ
big_at s q zero = 0
big_at s q (suc k) = get_or s q 0 * 2 ^ (8 * k) + big_at s (suc q) k

-- the divisor that takes n bits
pub one_shl : (n : ℕ) → n ≤ 8 → (1 * 2 ^ n) % 2 ^ 64 ≡ 2 ^ n
one_shl n h = rw (shl_exact 1 n 64 (lit< tt) (omega arith)) (omega arith)

module _ (s : List ℕ) (bytes : (i : ℕ) → get_or s i 0 < 256) where
  number_big : (k q : ℕ) → q + k ≤ length s → number (bits_of (take k (drop q s))) ≡ big_at s q k
  unfolding bits_of number
  number_big zero q h = refl
  number_big (suc k) q h =
      let h₁ : q < length s = omega arith in
      let h₂ : suc q + k ≤ length s = omega arith in
      let l : length (bits_of (take k (drop (suc q) s))) ≡ 8 * k = bits_taken k (suc q) s (omega arith) in
      rw (drop-cons s q 0 h₁)
      (number_append (digits 8 (get_or s q 0)) (bits_of (take k (drop (suc q) s)))
      ∙ rw (number_byte (get_or s q 0) (bytes q), l, number_big k (suc q) h₂))

  -- the n bits at r in the k bytes at q
  pub part : (q r n k : ℕ) → q + k ≤ length s → r + n ≤ 8 * k → number (window s (8 * q + r) n) ≡ big_at s q k / 2 ^ (8 * k - (r + n)) % 2 ^ n
  unfolding window
  part q r n k h h' =
      let l : length (bits_of (take k (drop q s))) ≡ 8 * k = bits_taken k q s h in
      let e : bits_of (drop q s) ≡ bits_of (take k (drop q s)) ++ bits_of (drop k (drop q s)) =
      ap bits_of (sym (take-append-drop k (drop q s))) ∙ bits_append (take k (drop q s)) (drop k (drop q s)) in
      let h₁ : q ≤ length s = omega arith in
      ap (λ (x : List Bool). number (take n x)) (drop_bits q r s h₁ ∙ ap (drop r) e)
      ∙ front (bits_of (take k (drop q s))) (bits_of (drop k (drop q s))) r n (rw l h')
      ∙ rw (l, number_big k q h)

  -- the same at a place of the bits
  pub part_at : (at n k : ℕ) → at / 8 + k ≤ length s → at % 8 + n ≤ 8 * k → number (window s at n) ≡ big_at s (at / 8) k / 2 ^ (8 * k - (at % 8 + n)) % 2 ^ n
  part_at at n k h h' = ap (λ (p : ℕ). number (window s p n)) (sym (div-add-mod at 8)) ∙ part (at / 8) (at % 8) n k h h'

  -- what `bits_at` makes of one byte, and of two
  pub in_one : (at n b : ℕ) → 1 ≤ n → n ≤ 8 → at + n ≤ 8 * length s → at % 8 + n ≤ 8 → b ≡ get_or s (at / 8) 0
      → b / 2 ^ (8 - (at % 8 + n)) % ((1 * 2 ^ n) % 2 ^ 64) ≡ number (window s at n)
  in_one at n b h₁ h₈ h f e =
      rw (one_shl n h₈, e) (sym (part_at at n 1 (omega arith) f ∙ rw (one (get_or s (at / 8) 0))))
    where
      one : (x : ℕ) → x * 1 + 0 ≡ x
      one x = omega arith

  pub in_two : (at n b d : ℕ) → 1 ≤ n → n ≤ 8 → at + n ≤ 8 * length s → 8 < at % 8 + n → b ≡ get_or s (at / 8) 0 → d ≡ get_or s (at / 8 + 1) 0
      → (b * 256 + d) / 2 ^ (16 - (at % 8 + n)) % ((1 * 2 ^ n) % 2 ^ 64) ≡ number (window s at n)
  in_two at n b d h₁ h₈ h f e e' =
      rw (one_shl n h₈, e, e', add-one (at / 8)) (sym (part_at at n 2 (omega arith) (omega arith) ∙ rw (two (get_or s (at / 8) 0) (get_or s (suc (at / 8)) 0))))
    where
      two : (x y : ℕ) → x * 256 + (y * 1 + 0) ≡ x * 256 + y
      two x y = omega arith
