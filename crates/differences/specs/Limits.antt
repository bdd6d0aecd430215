-- The test behind refusal 13: a number within ±2 ^ 40, the bounds included, by two comparisons of doubles. Assumes nothing.
use Rattle.std.specs.Prelude.{◌≡◌, refl, ◌⊎◌, Bool, true, false, not, ◌&&◌, ◌||◌, ℕ, ◌+◌, ◌*◌, ◌^◌, ◌≤◌, ◌<◌, ℤ, T, leb, ltb, eqb, Float}
use Rattle.std.proofs.Common.{sym, ap, ◌∙◌, subst, inl, inr, le_of_eq, le_of_lt, eq-or-lt_of_le, mul-one, arith, leb→le, lt-ltb, le-ltb, le-leb, eq-eqb, ne_eqb, leb-true}
use Rattle.std.proofs.Math.Dec.{nleb→lt}
use Rattle.std.specs.Float.{nan, inf, fin, binary64}
use Rattle.std.specs.Float.Ieee.{up, down, neg, le, lt, eq, of_bits}
use Rattle.std.specs.Float.Ieee.Fits.{down_pos}
use Rattle.differences.specs.Rational.{Within}
use Rattle.differences.specs.Signs.{size_signed}

-- the double 2 ^ 40
abbrev pub bound : Float
bound = of_bits binary64 0x4270_0000_0000_0000

-- whether x is a number within ±2 ^ 40; a comparison with a NaN fails
unfoldable pub is_within : Float → Bool
is_within x = le x bound && le (neg bound) x

-- the same of a double as its 64 bits
abbrev pub is_within_bits : ℕ → Bool
is_within_bits n = is_within (of_bits binary64 n)

-- the top bit of 64 is not set
abbrev pub below : ℕ → Bool
below n = ltb n 0x8000_0000_0000_0000

-- ---- the two comparisons are one of the sizes
below_or : (a b : ℕ) (w : Bool) → (a ≡ b → w ≡ true) → (b < a → w ≡ false) → ltb a b || w ≡ leb a b
below_or a b w equal over_it = go (leb a b) (leb→le a b) (nleb→lt a b) refl
  where
    go : (t : Bool) → (T t → a ≤ b) → (T (not t) → b < a) → leb a b ≡ t → ltb a b || w ≡ leb a b
    go true h k e = at (eq-or-lt_of_le (h tt)) ∙ sym e
      where
        at : (a ≡ b) ⊎ (a < b) → ltb a b || w ≡ true
        at (inl i) = ap (λ (t : Bool). t || w) (le-ltb a b (le_of_eq (sym i))) ∙ equal i
        at (inr l) = ap (λ (t : Bool). t || w) (lt-ltb a b l)
    go false h k e = ap (λ (t : Bool). t || w) (le-ltb a b (le_of_lt (k tt))) ∙ over_it (k tt) ∙ sym e

differ : (a b : ℕ) → b < a → a ≡ b → ⊥
differ a b h e = omega arith

differ_back : (a b : ℕ) → b < a → b ≡ a → ⊥
differ_back a b h e = omega arith

and_true : (t : Bool) → t && true ≡ t
and_true true = refl
and_true false = refl

some : (d a : ℕ) → 0 < d → 0 < 2 ^ 40 * d + a
some d a h = omega arith

some_behind : (a d : ℕ) → 0 < d → 0 < a + 2 ^ 40 * d
some_behind a d h = omega arith

pub within_size : (s : Bool) (m : ℕ) (e : ℤ) → is_within (fin s m e) ≡ leb (m * up e) (2 ^ 40 * down e)
unfolding is_within of_bits neg le lt eq
within_size false m e =
    let a = m * up e * 1 in
    let b = 2 ^ 40 * down e in
    ap (λ (t : Bool). t && le (neg bound) (fin false m e))
    (below_or a b (eqb a b && true) (λ i. and_true (eqb a b) ∙ eq-eqb a b i) (λ l. and_true (eqb a b) ∙ ne_eqb a b (differ a b l)))
    ∙ ap (λ (t : Bool). leb a b && (t || (eqb b a && (false || eqb b 0)))) (lt-ltb 0 (b + a) (some (down e) a (down_pos e)))
    ∙ and_true (leb a b)
    ∙ ap (λ (n : ℕ). leb n b) (mul-one (m * up e))
within_size true m e =
    let a = m * up e * 1 in
    let b = 2 ^ 40 * down e in
    ap (λ (t : Bool). (t || (eqb a b && (false || eqb a 0))) && le (neg bound) (fin true m e)) (lt-ltb 0 (a + b) (some_behind a (down e) (down_pos e)))
    ∙ below_or a b (eqb b a && true) (λ i. and_true (eqb b a) ∙ eq-eqb b a (sym i)) (λ l. and_true (eqb b a) ∙ ne_eqb b a (differ_back a b l))
    ∙ ap (λ (n : ℕ). leb n b) (mul-one (m * up e))

pub is_within_sound : (x : Float) → is_within x ≡ true → Within 40 x
unfolding is_within le lt eq of_bits neg
is_within_sound nan h = absurd (subst T (sym h) tt)
is_within_sound (inf true) h = absurd (subst T (sym h) tt)
is_within_sound (inf false) h = absurd (subst T (sym h) tt)
is_within_sound (fin s m e) h = (
  tt,
  subst (λ (n : ℕ). n ≤ 2 ^ 40 * down e) (sym (size_signed s (m * up e))) (leb-true (m * up e) (2 ^ 40 * down e) (sym (within_size s m e) ∙ h)),
)

pub is_within_complete : (x : Float) → Within 40 x → is_within x ≡ true
is_within_complete nan w = absurd w.0
is_within_complete (inf s) w = absurd w.0
is_within_complete (fin s m e) w =
    within_size s m e ∙ le-leb (m * up e) (2 ^ 40 * down e) (subst (λ (n : ℕ). n ≤ 2 ^ 40 * down e) (size_signed s (m * up e)) w.1)

-- the bound passes, and the next double does not
bound_passes : is_within_bits 0x4270_0000_0000_0000 ≡ true
unfolding is_within of_bits neg le lt eq
bound_passes = refl

next_fails : is_within_bits 0x4270_0000_0000_0001 ≡ false
unfolding is_within of_bits neg le lt eq
next_fails = refl
