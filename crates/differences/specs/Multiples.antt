-- A difference of two multiples of 1 / 1,048,576 loses nothing: it is one more multiple, of at most 52 binary digits. Assumes nothing.
use Rattle.std.specs.Prelude.{◌≡◌, Bool, not, ℕ, ◌+◌, ◌*◌, ◌^◌, ◌≤◌, ◌<◌, ℤ, pos, neg_ℤ, nat_abs, ◌+ℤ◌, ◌-ℤ◌, ◌*ℤ◌, Float}
use Rattle.std.proofs.Common.{sym, ap, ◌∙◌, subst, le_trans, le_of_eq, lt_of_lt_of_le, mul_comm, mul_assoc, mul_right_comm, mul-pos, mul-le-mul_right, le_of_mul-le-mul_right, arith, lit≤, pow_pos, pow_mono, shl_lt}
use Rattle.std.specs.Float.{nan, inf, fin, binary64}
use Rattle.std.specs.Float.Ieee.{up, down, round, sum, add, sub, neg}
use Rattle.std.specs.Float.Ieee.Exact.{HasValue, round_exact}
use Rattle.std.specs.Float.Ieee.Fits.{down_pos}
use Rattle.differences.specs.Rational.{with_sign, numerator, denominator, denominator_pos, Worth, Within}
use Rattle.differences.specs.Signs.{size_signed, size_times, signed_times, signed_not, sign_of}
use Rattle.differences.specs.Sums.{one_rounding, sum_same}

-- ---- a fraction that a float is worth, by size and sign
pub worth_size : (x : Float) (z : ℤ) (d : ℕ) → Worth x z d → nat_abs (numerator x) * d ≡ nat_abs z * denominator x
worth_size x z d v = sym (size_times (numerator x) d) ∙ ap nat_abs v.1 ∙ size_times z (denominator x)

worth_sign : (s : Bool) (a : ℕ) (z : ℤ) (b d : ℕ) → 0 < b → with_sign s a *ℤ pos d ≡ z *ℤ pos b → with_sign s (nat_abs z) ≡ z
worth_sign s a z b d p v = sign_of s (a * d) z b p (sym (signed_times s a d) ∙ v)

pub worth_of : (x : Float) (s : Bool) (n d : ℕ) (z : ℤ) → HasValue x s n d → with_sign s n ≡ z → Worth x z d
worth_of nan s n d z v e = absurd v
worth_of (inf t) s n d z v e = absurd v
worth_of (fin t m k) s n d z v e = (
  tt,
  signed_times t (m * up k) d ∙ ap (with_sign t) v.1 ∙ sym (signed_times t n (down k))
      ∙ ap (λ (b : Bool). with_sign b n *ℤ pos (down k)) v.0 ∙ ap (λ (y : ℤ). y *ℤ pos (down k)) e,
)

-- ---- the difference
-- fewer than 2 ^ 53 times 1 / 1,048,576 are a double
round_exact_at : (s : Bool) (n : ℕ) → n < 2 ^ 53 → HasValue (round binary64 s n (2 ^ 20)) s n (2 ^ 20)
round_exact_at s n h =
    round_exact binary64 s n (2 ^ 20) n 1054 (pow_pos 20) h (lt_of_lt_of_le (shl_lt 53 1054 h) (pow_mono {i = 1107} {j = 2098} (lit≤ tt)))
    (sym (mul_assoc n (2 ^ 1054) (2 ^ 20)))

both_few : (a b c : ℕ) → c ≤ a + b → a ≤ 2 ^ 50 → b ≤ 2 ^ 50 → c < 2 ^ 53
both_few a b c l h k = omega arith

-- multiples z and y of 1 / 1,048,576
pub multiples_exact : (x o : Float) (z y : ℤ) → Worth x z (2 ^ 20) → Worth o y (2 ^ 20) → nat_abs z ≤ 2 ^ 50 → nat_abs y ≤ 2 ^ 50
    → Worth (sub binary64 x o) (z -ℤ y) (2 ^ 20)
unfolding sub add neg
multiples_exact nan o z y p q h k = absurd p.0
multiples_exact (inf s) o z y p q h k = absurd p.0
multiples_exact (fin s m e) nan z y p q h k = absurd q.0
multiples_exact (fin s m e) (inf t) z y p q h k = absurd q.0
multiples_exact (fin s m e) (fin t n d) z y p q h k =
    let a = nat_abs z in
    let b = nat_abs y in
    let c = down e * down d in
    let g = one_rounding binary64 s a (not t) b (2 ^ 20) in
    let left : m * up e * 2 ^ 20 ≡ a * down e = ap (λ (i : ℕ). i * 2 ^ 20) (sym (size_signed s (m * up e))) ∙ worth_size (fin s m e) z (2 ^ 20) p in
    let right : n * up d * 2 ^ 20 ≡ b * down d = ap (λ (i : ℕ). i * 2 ^ 20) (sym (size_signed t (n * up d))) ∙ worth_size (fin t n d) y (2 ^ 20) q in
    let over_left : m * up e * down d * 2 ^ 20 ≡ a * c =
    mul_right_comm (m * up e) (down d) (2 ^ 20) ∙ ap (λ (i : ℕ). i * down d) left ∙ mul_assoc a (down e) (down d) in
    let over_right : n * up d * down e * 2 ^ 20 ≡ b * c =
    mul_right_comm (n * up d) (down e) (2 ^ 20) ∙ ap (λ (i : ℕ). i * down e) right ∙ mul_assoc b (down d) (down e)
    ∙ ap (λ (i : ℕ). b * i) (mul_comm (down d) (down e)) in
    let same =
    sum_same binary64 s (m * up e * down d) (not t) (n * up d * down e) c a b (2 ^ 20) (mul-pos (down_pos e) (down_pos d))
    (pow_pos 20) over_left over_right in
    let signs : with_sign s a +ℤ with_sign (not t) b ≡ z -ℤ y =
    ap (λ (i : ℤ). i +ℤ with_sign (not t) b) (worth_sign s (m * up e) z (down e) (2 ^ 20) (down_pos e) p.1)
    ∙ ap (λ (i : ℤ). z +ℤ i) (signed_not t b ∙ ap neg_ℤ (worth_sign t (n * up d) y (down d) (2 ^ 20) (down_pos d) q.1)) in
    worth_of (sum binary64 s (m * up e * down d) (not t) (n * up d * down e) c) g.sign g.size (2 ^ 20) (z -ℤ y)
    (subst (λ (r : Float). HasValue r g.sign g.size (2 ^ 20)) (sym (same ∙ g.rounded))
    (round_exact_at g.sign g.size (both_few a b g.size g.bounded h k)))
    (g.exact ∙ signs)

-- a multiple within ±2 ^ 30 is at most 2 ^ 50 times 1 / 1,048,576
pub multiple_bound : (x : Float) (z : ℤ) → Within 30 x → Worth x z (2 ^ 20) → nat_abs z ≤ 2 ^ 50
multiple_bound x z w v =
    let d = denominator x in
    let low : nat_abs z * d ≤ 2 ^ 50 * d =
    le_trans (le_of_eq (sym (worth_size x z (2 ^ 20) v))) (le_trans (mul-le-mul_right (2 ^ 20) w.1) (le_of_eq (mul_right_comm (2 ^ 30) d (2 ^ 20)))) in
    le_of_mul-le-mul_right low (denominator_pos x)
