-- Integers given by a sign and a size: their products, differences and sizes. Assumes nothing.
use Rattle.std.specs.Prelude.{◌≡◌, refl, Bool, true, false, not, cond, ℕ, zero, suc, ◌+◌, ◌-◌, ◌*◌, ◌≤◌, ◌<◌, ℤ, pos, negsuc, neg_ℤ, nat_abs, ◌-ℤ◌, ◌*ℤ◌, T, ltb}
use Rattle.std.proofs.Common.{sym, ap, ◌∙◌, mul-pos, zero-mul, zero-lt-suc, lt_irrefl, arith, ltb→lt, nltb→le, lt-ltb, le-ltb}
use Rattle.std.proofs.Math.IntN.{sub_ℕ, neg_ℤ-+ℤ, neg_ℤ-neg_ℤ, pos-ne-negsuc}
use Rattle.differences.specs.Rational.{with_sign}

-- ---- sizes
size_negated : (z : ℤ) → nat_abs (neg_ℤ z) ≡ nat_abs z
size_negated (pos zero) = refl
size_negated (pos (suc n)) = refl
size_negated (negsuc n) = refl

pub size_signed : (s : Bool) (n : ℕ) → nat_abs (with_sign s n) ≡ n
size_signed false n = refl
size_signed true n = size_negated (pos n)

pub size_times : (z : ℤ) (d : ℕ) → nat_abs (z *ℤ pos d) ≡ nat_abs z * d
size_times (pos n) d = refl
size_times (negsuc n) d = size_negated (pos (suc n * d))

-- ---- the sign of a product and of a negated number
pub signed_times : (s : Bool) (a b : ℕ) → with_sign s a *ℤ pos b ≡ with_sign s (a * b)
signed_times false a b = refl
signed_times true zero b = ap pos (zero-mul b) ∙ ap (λ (n : ℕ). neg_ℤ (pos n)) (sym (zero-mul b))
signed_times true (suc a) b = refl

pub signed_not : (s : Bool) (n : ℕ) → with_sign (not s) n ≡ neg_ℤ (with_sign s n)
signed_not false n = refl
signed_not true n = sym (neg_ℤ-neg_ℤ (pos n))

-- ---- a - b, by which of the two is the greater
minus_zero : (a : ℕ) → pos (a + 0) ≡ sub_ℕ a 0
minus_zero a = go (ltb a 0) (ltb→lt a 0)
  where
    none : a < 0 → ⊥
    none h = omega arith

    same : a + 0 ≡ a - 0
    same = omega arith

    go : (t : Bool) → (T t → a < 0) → pos (a + 0) ≡ cond t (negsuc (0 - suc a)) (pos (a - 0))
    go true h = absurd (none (h tt))
    go false h = ap pos same

minus_is : (a b : ℕ) → pos a -ℤ pos b ≡ sub_ℕ a b
minus_is a zero = minus_zero a
minus_is a (suc b) = refl

one_less : (a b : ℕ) → a < b → suc (b - suc a) ≡ b - a
one_less a b h = omega arith

pub minus_above : (a b : ℕ) → b ≤ a → pos a -ℤ pos b ≡ pos (a - b)
minus_above a b h = minus_is a b ∙ ap (λ (t : Bool). cond t (negsuc (b - suc a)) (pos (a - b))) (le-ltb a b h)

pub minus_below : (a b : ℕ) → a < b → pos a -ℤ pos b ≡ neg_ℤ (pos (b - a))
minus_below a b h =
    minus_is a b ∙ ap (λ (t : Bool). cond t (negsuc (b - suc a)) (pos (a - b))) (lt-ltb a b h)
    ∙ ap (λ (n : ℕ). neg_ℤ (pos n)) (one_less a b h)

-- how far apart two integers of one sign are
distance : (a b : ℕ) → nat_abs (pos a -ℤ pos b) ≡ (a - b) + (b - a)
distance a b = go (ltb a b) (ltb→lt a b) (nltb→le a b)
  where
    under : a < b → b - a ≡ (a - b) + (b - a)
    under h = omega arith

    over : b ≤ a → a - b ≡ (a - b) + (b - a)
    over h = omega arith

    go : (t : Bool) → (T t → a < b) → (T (not t) → b ≤ a) → nat_abs (pos a -ℤ pos b) ≡ (a - b) + (b - a)
    go true h k = ap nat_abs (minus_below a b (h tt)) ∙ size_negated (pos (b - a)) ∙ under (h tt)
    go false h k = ap nat_abs (minus_above a b (k tt)) ∙ over (k tt)

pub signed_distance : (s : Bool) (a b : ℕ) → nat_abs (with_sign s a -ℤ with_sign s b) ≡ (a - b) + (b - a)
signed_distance false a b = distance a b
signed_distance true a b = ap nat_abs (sym (neg_ℤ-+ℤ (pos a) (neg_ℤ (pos b)))) ∙ size_negated (pos a -ℤ pos b) ∙ distance a b

-- ---- a product with a number above 0 has its factor's sign
no_negative : (a n : ℕ) → 0 < n → pos a ≡ neg_ℤ (pos n) → ⊥
no_negative a zero h e = lt_irrefl 0 h
no_negative a (suc n) h e = pos-ne-negsuc a n e

pub negative_zero : (a n : ℕ) → neg_ℤ (pos a) ≡ pos n → a ≡ 0
negative_zero zero n e = refl
negative_zero (suc a) n e = absurd (pos-ne-negsuc n a (sym e))

no_positive : (a n : ℕ) → 0 < n → neg_ℤ (pos a) ≡ pos n → ⊥
no_positive a n h e =
    let none : a ≡ 0 = negative_zero a n e in
    let same : a ≡ n = sym (size_negated (pos a)) ∙ ap nat_abs e in
    omega arith

pub sign_of : (s : Bool) (a : ℕ) (z : ℤ) (d : ℕ) → 0 < d → with_sign s a ≡ z *ℤ pos d → with_sign s (nat_abs z) ≡ z
sign_of false a (pos n) d h e = refl
sign_of false a (negsuc n) d h e = absurd (no_negative a (suc n * d) (mul-pos (zero-lt-suc n) h) e)
sign_of true a (pos zero) d h e = refl
sign_of true a (pos (suc n)) d h e = absurd (no_positive a (suc n * d) (mul-pos (zero-lt-suc n) h) e)
sign_of true a (negsuc n) d h e = refl
