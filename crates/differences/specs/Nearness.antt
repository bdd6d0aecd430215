-- A difference of two numbers within ±2 ^ 40 is rounded once, from the exact difference, which is within ±2 ^ 41. Assumes nothing.
use Rattle.std.specs.Prelude.{◌≡◌, Bool, not, ℕ, ◌+◌, ◌-◌, ◌*◌, ◌^◌, ◌≤◌, ℤ, pos, neg_ℤ, nat_abs, ◌+ℤ◌, ◌-ℤ◌, ◌*ℤ◌, Float}
use Rattle.std.proofs.Common.{sym, ap, ◌∙◌, subst, le_trans, le_of_eq, mul_comm, mul_assoc, mul-pos, mul-le-mul_right, arith}
use Rattle.std.specs.Float.{nan, inf, fin, binary64}
use Rattle.std.specs.Float.Ieee.{up, down, add, sub, neg}
use Rattle.std.specs.Float.Ieee.Fits.{down_pos}
use Rattle.differences.specs.Rational.{with_sign, Within, Near, difference_numerator, difference_denominator}
use Rattle.differences.specs.Signs.{size_signed, signed_times, signed_not, signed_distance}
use Rattle.differences.specs.Sums.{one_rounding}
use Rattle.differences.specs.Rounding.{RoundedFrom, round_near}

-- the difference is rounded from the exact one
pub record Rounded (x o : Float) : Type 0 where
  pub sign : Bool
  pub size : ℕ
  pub exact : with_sign sign size ≡ difference_numerator x o
  pub from : RoundedFrom sign size (difference_denominator x o) (sub binary64 x o)

both_parts : (a b c : ℕ) → a ≤ 2 ^ 40 * c → b ≤ 2 ^ 40 * c → a + b ≤ 2 ^ 41 * c
both_parts a b c h k = omega arith

pub rounded : (x o : Float) → Within 40 x → Within 40 o → Rounded x o
unfolding sub add neg
rounded nan o p q = absurd p.0
rounded (inf s) o p q = absurd p.0
rounded (fin s m e) nan p q = absurd q.0
rounded (fin s m e) (inf t) p q = absurd q.0
rounded (fin s m e) (fin t n d) p q =
    let a = m * up e * down d in
    let b = n * up d * down e in
    let c = down e * down d in
    let g = one_rounding binary64 s a (not t) b c in
    let left : a ≤ 2 ^ 40 * c =
    le_trans (mul-le-mul_right (down d) (subst (λ (i : ℕ). i ≤ 2 ^ 40 * down e) (size_signed s (m * up e)) p.1))
    (le_of_eq (mul_assoc (2 ^ 40) (down e) (down d))) in
    let right : b ≤ 2 ^ 40 * c =
    le_trans (mul-le-mul_right (down e) (subst (λ (i : ℕ). i ≤ 2 ^ 40 * down d) (size_signed t (n * up d)) q.1))
    (le_of_eq (mul_assoc (2 ^ 40) (down d) (down e) ∙ ap (λ (i : ℕ). 2 ^ 40 * i) (mul_comm (down d) (down e)))) in
    let signs : with_sign s a +ℤ with_sign (not t) b ≡ difference_numerator (fin s m e) (fin t n d) =
    ap (λ (i : ℤ). i +ℤ with_sign (not t) b) (sym (signed_times s (m * up e) (down d)))
    ∙ ap (λ (i : ℤ). with_sign s (m * up e) *ℤ pos (down d) +ℤ i) (signed_not t b ∙ ap neg_ℤ (sym (signed_times t (n * up d) (down e)))) in
    record {
      sign = g.sign;
      size = g.size;
      exact = g.exact ∙ signs;
      from =
          subst (RoundedFrom g.sign g.size c) (sym g.rounded)
          (round_near g.sign g.size c (mul-pos (down_pos e) (down_pos d)) (le_trans g.bounded (both_parts a b c left right)));
    }

apart : (a b c : ℕ) → a * 8192 ≤ b * 8192 + c → b * 8192 ≤ a * 8192 + c → ((a - b) + (b - a)) * 8192 ≤ c
apart a b c h k = omega arith

pub near_of : (x : Float) (s : Bool) (n c : ℕ) (z : ℤ) → with_sign s n ≡ z → RoundedFrom s n c x → Near 8192 x z c
near_of nan s n c z e v = absurd v
near_of (inf t) s n c z e v = absurd v
near_of (fin t m k) s n c z e v =
    let d = down k in
    let left : with_sign t (m * up k) *ℤ pos c ≡ with_sign s (m * up k * c) =
    signed_times t (m * up k) c ∙ ap (λ (b : Bool). with_sign b (m * up k * c)) v.0 in
    let right : z *ℤ pos d ≡ with_sign s (n * d) = ap (λ (y : ℤ). y *ℤ pos d) (sym e) ∙ signed_times s n d in
    let distance : nat_abs (with_sign t (m * up k) *ℤ pos c -ℤ z *ℤ pos d) ≡ (m * up k * c - n * d) + (n * d - m * up k * c) =
    ap (λ (y : ℤ). nat_abs (y -ℤ z *ℤ pos d)) left ∙ ap (λ (y : ℤ). nat_abs (with_sign s (m * up k * c) -ℤ y)) right
    ∙ signed_distance s (m * up k * c) (n * d) in (
      tt,
      subst (λ (i : ℕ). i * 8192 ≤ d * c) (sym distance)
          (le_trans (apart (m * up k * c) (n * d) (c * d) v.1 v.2) (le_of_eq (mul_comm c d))),
    )

pub within_of : (x : Float) (s : Bool) (n c : ℕ) → RoundedFrom s n c x → Within 41 x
within_of nan s n c v = absurd v
within_of (inf t) s n c v = absurd v
within_of (fin t m k) s n c v = (tt, subst (λ (i : ℕ). i ≤ 2 ^ 41 * down k) (sym (size_signed t (m * up k))) v.3)
