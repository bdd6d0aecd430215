-- A number within ±2 ^ 40, told from its 64 bits: without the sign's bit they are a number that is at most the pattern of 2 ^ 40. Assumes nothing.
use Rattle.std.specs.Prelude.{◌≡◌, refl, ◌⊎◌, Bool, true, false, not, cond, ℕ, zero, suc, ◌+◌, ◌*◌, ◌/◌, ◌%◌, ◌^◌, ◌≤◌, ◌<◌, T, leb, eqb, Float}
use Rattle.std.proofs.Common.{sym, ap, ◌∙◌, subst, inl, inr, le_trans, le_of_eq, le_of_lt, eq-or-lt_of_le, lt_of_lt_of_le, lt_of_le_of_lt, le-add_right, mul_right_comm, mul-le-mul_right, mul-lt-mul_of_pos_right, le_of_mul-le-mul_right, lt_of_mul-lt-mul_right, div-add-mod', mod-lt, arith, leb→le, eqb→eq, lit≤, pow-add, pow_pos, pow_mono, shl_lt, le-leb}
use Rattle.std.proofs.Math.Nat.{mod-mod_of_dvd, dvd-mul_right}
use Rattle.std.proofs.Math.Dec.{nleb→lt}
use Rattle.std.proofs.Math.Pow.{pow-lt}
use Rattle.std.proofs.lemmas.Bool.{lt-leb}
use Rattle.std.specs.Float.{nan, inf, fin, binary64}
use Rattle.std.specs.Float.Ieee.{up, down, neg, le, lt, eq, odd, of_fields, of_bits}
use Rattle.std.specs.Float.Ieee.Exact.{HasValue, odd_sign}
use Rattle.std.specs.Float.Ieee.Fits.{down_pos}
use Rattle.differences.specs.Limits.{is_within, is_within_bits, within_size}

-- two tests of numbers that hold and fail together
alike : (a b c d : ℕ) → (a ≤ b → c ≤ d) → (b < a → d < c) → leb a b ≡ leb c d
alike a b c d h k = go (leb a b) (leb→le a b) (nleb→lt a b) refl
  where
    go : (t : Bool) → (T t → a ≤ b) → (T (not t) → b < a) → leb a b ≡ t → leb a b ≡ leb c d
    go true u v e = e ∙ sym (le-leb c d (h (u tt)))
    go false u v e = e ∙ sym (lt-leb c d (k (v tt)))

-- a float that is ±n / c is tested by that fraction
within_fraction : (x : Float) (s : Bool) (n c : ℕ) → 0 < c → HasValue x s n c → is_within x ≡ leb n (2 ^ 40 * c)
within_fraction nan s n c p v = absurd v
within_fraction (inf t) s n c p v = absurd v
within_fraction (fin t m e) s n c p v =
    let M = m * up e in
    let D = down e in
    within_size t m e
    ∙ alike M (2 ^ 40 * D) n (2 ^ 40 * c)
    (λ h. le_of_mul-le-mul_right
    (le_trans (le_of_eq (sym v.1)) (le_trans (mul-le-mul_right c h) (le_of_eq (mul_right_comm (2 ^ 40) D c)))) (down_pos e))
    (λ h. lt_of_mul-lt-mul_right D
    (lt_of_le_of_lt (le_of_eq (mul_right_comm (2 ^ 40) c D)) (lt_of_lt_of_le (mul-lt-mul_of_pos_right h p) (le_of_eq v.1))))

-- ---- by the fields of a pattern, the exponent's and the digits t. The pattern of 2 ^ 40 has 1063 and no digits
-- in smallest doubles, of 2 ^ -1074 each: (2 ^ 52 + t) * 2 ^ x is at most 2 ^ 1114 where x is below 1062, and at it where t is 0
below_digits : (t : ℕ) → t < 2 ^ 52 → 2 ^ 52 + t < 2 ^ 53
below_digits t h = omega arith

below_pattern : (x t : ℕ) → t < 2 ^ 52 → x < 1062 → suc x * 2 ^ 52 + t ≤ 1063 * 2 ^ 52
below_pattern x t h l = omega arith

above_pattern : (x t : ℕ) → 1062 < x → 1063 * 2 ^ 52 < suc x * 2 ^ 52 + t
above_pattern x t l = omega arith

at_pattern : (t : ℕ) → 2 ^ 52 + t ≤ 2 ^ 52 → 1063 * 2 ^ 52 + t ≤ 1063 * 2 ^ 52
at_pattern t h = omega arith

past_pattern : (t : ℕ) → 2 ^ 52 < 2 ^ 52 + t → 1063 * 2 ^ 52 < 1063 * 2 ^ 52 + t
past_pattern t h = omega arith

exponents : (x : ℕ) → x < 1062 → 53 + x ≤ 1114
exponents x l = omega arith

exponents_above : (x : ℕ) → 1062 < x → 1114 < 52 + x
exponents_above x l = omega arith

fraction_test : (x t : ℕ) → t < 2 ^ 52 → leb ((2 ^ 52 + t) * 2 ^ x) (2 ^ 1114) ≡ leb (suc x * 2 ^ 52 + t) (1063 * 2 ^ 52)
fraction_test x t h = go (leb x 1062) (leb→le x 1062) (nleb→lt x 1062)
  where
    Same : ℕ → Type 0
    Same x = leb ((2 ^ 52 + t) * 2 ^ x) (2 ^ 1114) ≡ leb (suc x * 2 ^ 52 + t) (1063 * 2 ^ 52)

    low : x < 1062 → Same x
    low l =
        le-leb ((2 ^ 52 + t) * 2 ^ x) (2 ^ 1114) (le_of_lt (lt_of_lt_of_le (shl_lt 53 x (below_digits t h)) (pow_mono (exponents x l))))
        ∙ sym (le-leb (suc x * 2 ^ 52 + t) (1063 * 2 ^ 52) (below_pattern x t h l))

    at : Same 1062
    at =
        alike ((2 ^ 52 + t) * 2 ^ 1062) (2 ^ 52 * 2 ^ 1062) (1063 * 2 ^ 52 + t) (1063 * 2 ^ 52)
        (λ k. at_pattern t (le_of_mul-le-mul_right k (pow_pos 1062))) (λ k. past_pattern t (lt_of_mul-lt-mul_right (2 ^ 1062) k))

    high : 1062 < x → Same x
    high l =
        lt-leb ((2 ^ 52 + t) * 2 ^ x) (2 ^ 1114)
        (lt_of_lt_of_le (pow-lt (exponents_above x l)) (le_trans (le_of_eq (pow-add 2 52 x)) (mul-le-mul_right (2 ^ x) (le-add_right (2 ^ 52) t))))
        ∙ sym (lt-leb (suc x * 2 ^ 52 + t) (1063 * 2 ^ 52) (above_pattern x t l))

    go : (b : Bool) → (T b → x ≤ 1062) → (T (not b) → 1062 < x) → Same x
    go false u v = high (v tt)
    go true u v = split (eq-or-lt_of_le (u tt))
      where
        split : (x ≡ 1062) ⊎ (x < 1062) → Same x
        split (inl e) = subst Same (sym e) at
        split (inr l) = low l

normal_test : (s : Bool) (x t : ℕ) → t < 2 ^ 52 → is_within (odd 53 s (2 ^ 52 + t) x 1074) ≡ leb (suc x * 2 ^ 52 + t) (1063 * 2 ^ 52)
normal_test s x t h =
    within_fraction (odd 53 s (2 ^ 52 + t) x 1074) s ((2 ^ 52 + t) * 2 ^ x) (2 ^ 1074) (pow_pos 1074) (odd_sign 53 s (2 ^ 52 + t) x 1074)
    ∙ fraction_test x t h

subnormal_test : (s : Bool) (t : ℕ) → t < 2 ^ 52 → is_within (odd 53 s t 0 1074) ≡ leb (0 * 2 ^ 52 + t) (1063 * 2 ^ 52)
subnormal_test s t h =
    within_fraction (odd 53 s t 0 1074) s (t * 2 ^ 0) (2 ^ 1074) (pow_pos 1074) (odd_sign 53 s t 0 1074)
    ∙ le-leb (t * 2 ^ 0) (2 ^ 40 * 2 ^ 1074) (le_trans (small t h) (pow_mono {i = 52} {j = 1114} (lit≤ tt)))
    ∙ sym (le-leb (0 * 2 ^ 52 + t) (1063 * 2 ^ 52) (small_pattern t h))
  where
    small : (t : ℕ) → t < 2 ^ 52 → t * 1 ≤ 2 ^ 52
    small t h = omega arith

    small_pattern : (t : ℕ) → t < 2 ^ 52 → 0 * 2 ^ 52 + t ≤ 1063 * 2 ^ 52
    small_pattern t h = omega arith

no_number : (s v : Bool) → is_within (cond v (inf s) nan) ≡ false
unfolding is_within le lt eq of_bits neg
no_number true true = refl
no_number false true = refl
no_number s false = refl

infinite_test : (s v : Bool) (x t : ℕ) → x ≡ 2047 → is_within (cond v (inf s) nan) ≡ leb (x * 2 ^ 52 + t) (1063 * 2 ^ 52)
infinite_test s v x t e = no_number s v ∙ sym (lt-leb (x * 2 ^ 52 + t) (1063 * 2 ^ 52) (omega arith))

fields_test : (s : Bool) (x t : ℕ) → t < 2 ^ 52 → is_within (of_fields binary64 s x t) ≡ leb (x * 2 ^ 52 + t) (1063 * 2 ^ 52)
unfolding of_fields
fields_test s zero t h = subnormal_test s t h
fields_test s (suc x) t h = go (eqb (suc x) 2047) (eqb→eq (suc x) 2047)
  where
    go : (b : Bool) → (T b → suc x ≡ 2047)
        → is_within (cond b (cond (eqb t 0) (inf s) nan) (odd 53 s (2 ^ 52 + t) x 1074)) ≡ leb (suc x * 2 ^ 52 + t) (1063 * 2 ^ 52)
    go true e = infinite_test s (eqb t 0) (suc x) t (e tt)
    go false e = normal_test s x t h

-- ---- by the pattern
two_fields : (n : ℕ) → n % 2 ^ 63 / 2 ^ 52 * 2 ^ 52 + n % 2 ^ 52 ≡ n % 2 ^ 63
two_fields n =
    ap (λ (k : ℕ). n % 2 ^ 63 / 2 ^ 52 * 2 ^ 52 + k) (sym (mod-mod_of_dvd (2 ^ 52) n (dvd-mul_right (2 ^ 52) 2048))) ∙ div-add-mod' (n % 2 ^ 63) (2 ^ 52)

pub within_pattern : (n : ℕ) → is_within_bits n ≡ leb (n % 0x8000_0000_0000_0000) 0x4270_0000_0000_0000
unfolding of_bits
within_pattern n =
    fields_test (leb (2 ^ 63) n) (n % 2 ^ 63 / 2 ^ 52) (n % 2 ^ 52) (mod-lt n (pow_pos 52))
    ∙ ap (λ (k : ℕ). leb k (1063 * 2 ^ 52)) (two_fields n)
