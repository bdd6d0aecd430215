-- A sum of two floats is one rounding of the exact sum, and the rounding sees the values of its fractions alone. Assumes nothing.
use Rattle.std.specs.Prelude.{◌≡◌, refl, Bool, true, false, not, ◌&&◌, cond, ℕ, ◌+◌, ◌-◌, ◌*◌, ◌≤◌, ◌<◌, pos, neg_ℤ, ◌+ℤ◌, T, ltb, Float}
use Rattle.std.proofs.Common.{sym, ap, ◌∙◌, subst, le_refl, le_of_lt, add-mul, mul_comm, mul-le-mul_right, mul-lt-mul_of_pos_right, le_of_mul-le-mul_right, lt_of_mul-lt-mul_right, arith, ltb→lt, nltb→le, lt-ltb, le-ltb}
use Rattle.std.specs.Bool.{beq}
use Rattle.std.proofs.Math.Nat.{mul-sub}
use Rattle.std.proofs.Math.IntN.{neg_ℤ-+ℤ, +ℤ_comm}
use Rattle.std.specs.Float.{Format}
use Rattle.std.specs.Float.Ieee.{round, sum}
use Rattle.std.specs.Float.Ieee.Scale.{round_same}
use Rattle.differences.specs.Rational.{with_sign}
use Rattle.differences.specs.Signs.{minus_above, minus_below}

-- the sum of ±a / c and ±b / c: one rounding, of the sign and the size of the exact sum
pub record OneRounding (f : Format) (s : Bool) (a : ℕ) (t : Bool) (b c : ℕ) : Type 0 where
  pub sign : Bool
  pub size : ℕ
  pub rounded : sum f s a t b c ≡ round f sign size c
  pub exact : with_sign sign size ≡ with_sign s a +ℤ with_sign t b
  pub bounded : size ≤ a + b

left_under : (a b : ℕ) → a - b ≤ a + b
left_under a b = omega arith

right_under : (a b : ℕ) → b - a ≤ a + b
right_under a b = omega arith

no_difference : (a b : ℕ) → b ≤ a → a ≤ b → b - a ≡ a - b
no_difference a b h k = omega arith

pub one_rounding : (f : Format) (s : Bool) (a : ℕ) (t : Bool) (b c : ℕ) → OneRounding f s a t b c
unfolding sum
one_rounding f false a false b c = record { sign = false; size = a + b; rounded = refl; exact = refl; bounded = le_refl (a + b) }
one_rounding f true a true b c =
    record { sign = true; size = a + b; rounded = refl; exact = neg_ℤ-+ℤ (pos a) (pos b); bounded = le_refl (a + b) }
one_rounding f false a true b c = go (ltb a b) (ltb→lt a b) (nltb→le a b) refl
  where
    branch : (t : Bool) → ltb a b ≡ t → sum f false a true b c ≡ cond t (round f true (b - a) c) (round f false (a - b) c)
    branch t e = ap (λ (w : Bool). cond w (round f true (b - a) c) (round f false (a - b) c)) e

    go : (t : Bool) → (T t → a < b) → (T (not t) → b ≤ a) → ltb a b ≡ t → OneRounding f false a true b c
    go true h k e =
        record { sign = true; size = b - a; rounded = branch true e; exact = sym (minus_below a b (h tt)); bounded = right_under a b }
    go false h k e =
        record { sign = false; size = a - b; rounded = branch false e; exact = sym (minus_above a b (k tt)); bounded = left_under a b }
one_rounding f true a false b c = go (ltb a b) (ltb→lt a b) (nltb→le a b) refl (ltb b a) (ltb→lt b a) (nltb→le b a) refl
  where
    branch : (t : Bool) → ltb a b ≡ t → (w : Bool) → ltb b a ≡ w
        → sum f true a false b c ≡ cond t (round f false (b - a) c) (round f w (a - b) c)
    branch t e w g =
        ap (λ (v : Bool). cond v (round f false (b - a) c) (round f (ltb b a) (a - b) c)) e
        ∙ ap (λ (v : Bool). cond t (round f false (b - a) c) (round f v (a - b) c)) g

    turned : pos b +ℤ neg_ℤ (pos a) ≡ neg_ℤ (pos a) +ℤ pos b
    turned = +ℤ_comm (pos b) (neg_ℤ (pos a))

    go : (t : Bool) → (T t → a < b) → (T (not t) → b ≤ a) → ltb a b ≡ t
        → (w : Bool) → (T w → b < a) → (T (not w) → a ≤ b) → ltb b a ≡ w → OneRounding f true a false b c
    go true h k e w h' k' e' =
        record {
          sign = false;
          size = b - a;
          rounded = branch true e w e';
          exact = sym (minus_above b a (le_of_lt (h tt))) ∙ turned;
          bounded = right_under a b;
        }
    go false h k e true h' k' e' =
        record {
          sign = true;
          size = a - b;
          rounded = branch false e true e';
          exact = sym (minus_below b a (h' tt)) ∙ turned;
          bounded = left_under a b;
        }
    go false h k e false h' k' e' =
        record {
          sign = false;
          size = a - b;
          rounded = branch false e false e';
          exact = ap pos (sym (no_difference a b (k tt) (k' tt))) ∙ sym (minus_above b a (k' tt)) ∙ turned;
          bounded = left_under a b;
        }

-- ---- the same sum over another denominator: A / C is a / c, and B / C is b / c
module _ (A B C a b c : ℕ) (C_pos : 0 < C) (c_pos : 0 < c) (h : A * c ≡ a * C) (k : B * c ≡ b * C) where
  same_order : ltb A B ≡ ltb a b
  same_order = go (ltb a b) (ltb→lt a b) (nltb→le a b) refl
    where
      less : a < b → A * c < B * c
      less l = subst (λ (n : ℕ). n < B * c) (sym h) (subst (λ (n : ℕ). a * C < n) (sym k) (mul-lt-mul_of_pos_right l C_pos))

      more : b ≤ a → B * c ≤ A * c
      more l = subst (λ (n : ℕ). n ≤ A * c) (sym k) (subst (λ (n : ℕ). b * C ≤ n) (sym h) (mul-le-mul_right C l))

      go : (t : Bool) → (T t → a < b) → (T (not t) → b ≤ a) → ltb a b ≡ t → ltb A B ≡ ltb a b
      go true x y e = lt-ltb A B (lt_of_mul-lt-mul_right c (less (x tt))) ∙ sym e
      go false x y e = le-ltb A B (le_of_mul-le-mul_right (more (y tt)) c_pos) ∙ sym e

  plus_over : (A + B) * c ≡ (a + b) * C
  plus_over = add-mul A B c ∙ ap (λ (n : ℕ). n + B * c) h ∙ ap (λ (n : ℕ). a * C + n) k ∙ sym (add-mul a b C)

  minus_over : (A - B) * c ≡ (a - b) * C
  minus_over =
      mul_comm (A - B) c ∙ mul-sub c A B
      ∙ ap (λ (n : ℕ). n - c * B) (mul_comm c A ∙ h ∙ mul_comm a C) ∙ ap (λ (n : ℕ). C * a - n) (mul_comm c B ∙ k ∙ mul_comm b C)
      ∙ sym (mul-sub C a b) ∙ mul_comm C (a - b)

pub sum_same : (f : Format) (s : Bool) (A : ℕ) (t : Bool) (B C a b c : ℕ) → 0 < C → 0 < c → A * c ≡ a * C → B * c ≡ b * C
    → sum f s A t B C ≡ sum f s a t b c
unfolding sum
sum_same f s A t B C a b c P p h k =
    let alike = beq s t in
    let plus = round_same f s (A + B) C (a + b) c P p (plus_over A B C a b c P p h k) in
    let turned = round_same f t (B - A) C (b - a) c P p (minus_over B A C b a c P p k h) in
    let minus = round_same f (s && ltb B A) (A - B) C (a - b) c P p (minus_over A B C a b c P p h k) in
    ap (λ (x : Float). cond alike x (cond (ltb A B) (round f t (B - A) C) (round f (s && ltb B A) (A - B) C))) plus
    ∙ ap (λ (x : Float). cond alike (round f s (a + b) c) (cond (ltb A B) x (round f (s && ltb B A) (A - B) C))) turned
    ∙ ap (λ (x : Float). cond alike (round f s (a + b) c) (cond (ltb A B) (round f t (b - a) c) x)) minus
    ∙ ap (λ (x : Bool). cond alike (round f s (a + b) c) (cond x (round f t (b - a) c) (round f (s && ltb B A) (a - b) c)))
    (same_order A B C a b c P p h k)
    ∙ ap (λ (x : Bool). cond alike (round f s (a + b) c) (cond (ltb a b) (round f t (b - a) c) (round f (s && x) (a - b) c)))
    (same_order B A C b a c P p k h)
