-- The test behind refusal 12: the extrusion is (0, 0, 1) by value, where -0.0 counts as 0. What it says of exact values and of 64-bit patterns.
-- Assumes nothing.
use Rattle.std.specs.Prelude.{◌≡◌, refl, ◌⊎◌, Bool, true, false, not, ◌&&◌, ◌||◌, ℕ, ◌*◌, ◌^◌, ◌<◌, pos, neg_ℤ, T, eqb, Float}
use Rattle.std.proofs.Common.{sym, ap, ◌∙◌, subst, inl, inr, mul-one, eqb→eq, eq-eqb}
use Rattle.std.specs.Bool.{beq}
use Rattle.std.proofs.Math.IntN.{pos-ne-negsuc}
use Rattle.std.specs.Float.{nan, inf, fin, binary64}
use Rattle.std.specs.Float.Ieee.{up, down, eq, fits, is_nan, of_bits, to_bits}
use Rattle.std.specs.Float.Ieee.Back.{whole_unique}
use Rattle.std.specs.Float.Ieee.Bits.{is_true, of_bits-fits, to_bits-of_bits}
use Rattle.std.specs.Float.Ieee.Exact.{HasValue}
use Rattle.std.specs.Float.Ieee.Fits.{down_pos, and_l, and_r}
use Rattle.differences.specs.Rational.{with_sign, IsNumber, Worth}
use Rattle.differences.specs.Signs.{size_signed, signed_times, negative_zero, sign_of}
use Rattle.differences.specs.Multiples.{worth_size}

-- the doubles 0.0 and 1.0
abbrev pub zero_double : Float
zero_double = of_bits binary64 0

abbrev pub one_double : Float
one_double = of_bits binary64 0x3ff0_0000_0000_0000

-- whether (x, y, z) is (0, 0, 1), by the comparison of doubles
unfoldable pub is_upright : Float → Float → Float → Bool
is_upright x y z = eq x zero_double && eq y zero_double && eq z one_double

-- the same of doubles as their 64 bits
abbrev pub is_upright_bits : ℕ → ℕ → ℕ → Bool
is_upright_bits x y z = is_upright (of_bits binary64 x) (of_bits binary64 y) (of_bits binary64 z)

-- ---- a comparison with a whole number tells the exact value
holds : (b : Bool) → b ≡ true → T b
holds b e = subst T (sym e) tt

and_of : {a b : Bool} → a ≡ true → b ≡ true → a && b ≡ true
and_of h k = cc

equal_worth : (x : Float) (n : ℕ) → eq x (fin false n (pos 0)) ≡ true → Worth x (pos n) 1
unfolding eq
equal_worth nan n h = absurd (subst T (sym h) tt)
equal_worth (inf s) n h = absurd (subst T (sym h) tt)
equal_worth (fin false m e) n h =
    let a = m * up e * 1 in
    let b = n * 1 * down e in
    (tt, ap pos (eqb→eq a b (and_l (eqb a b) true (holds _ h)) ∙ ap (λ (k : ℕ). k * down e) (mul-one n)))
equal_worth (fin true m e) n h =
    let a = m * up e * 1 in
    let b = n * 1 * down e in
    let same : a ≡ b = eqb→eq a b (and_l (eqb a b) (eqb a 0) (holds _ h)) in
    let none : a ≡ 0 = eqb→eq a 0 (and_r (eqb a b) (eqb a 0) (holds _ h)) in (
      tt,
      signed_times true (m * up e) 1 ∙ ap (λ (k : ℕ). neg_ℤ (pos k)) none ∙ ap pos (sym none ∙ same ∙ ap (λ (k : ℕ). k * down e) (mul-one n)),
    )

worth_equal : (x : Float) (n : ℕ) → Worth x (pos n) 1 → eq x (fin false n (pos 0)) ≡ true
unfolding eq
worth_equal nan n v = absurd v.0
worth_equal (inf s) n v = absurd v.0
worth_equal (fin s m e) n v =
    let a = m * up e * 1 in
    let b = n * 1 * down e in
    let same : a ≡ b =
    ap (λ (k : ℕ). k * 1) (sym (size_signed s (m * up e))) ∙ worth_size (fin s m e) (pos n) 1 v ∙ ap (λ (k : ℕ). k * down e) (sym (mul-one n)) in
    and_of (eq-eqb a b same) (signs s a (n * down e) (sym (signed_times s (m * up e) 1) ∙ v.1))
  where
    signs : (s : Bool) (a b : ℕ) → with_sign s a ≡ pos b → (beq s false || eqb a 0) ≡ true
    signs false a b e = refl
    signs true a b e = eq-eqb a 0 (negative_zero a b e)

-- ---- exact values
pub is_upright_sound : (x y z : Float) → is_upright x y z ≡ true → Worth x (pos 0) 1 × Worth y (pos 0) 1 × Worth z (pos 1) 1
unfolding is_upright of_bits
is_upright_sound x y z h =
    let both = and_l (eq x zero_double && eq y zero_double) (eq z one_double) (holds _ h) in (
      equal_worth x 0 (true_of (and_l (eq x zero_double) (eq y zero_double) both)),
      equal_worth y 0 (true_of (and_r (eq x zero_double) (eq y zero_double) both)),
      equal_worth z 1 (true_of (and_r (eq x zero_double && eq y zero_double) (eq z one_double) (holds _ h))),
    )
  where
    true_of : {b : Bool} → T b → b ≡ true
    true_of {b} t = is_true b t

pub is_upright_complete : (x y z : Float) → Worth x (pos 0) 1 → Worth y (pos 0) 1 → Worth z (pos 1) 1 → is_upright x y z ≡ true
unfolding is_upright of_bits
is_upright_complete x y z p q r = and_of (and_of (worth_equal x 0 p) (worth_equal y 0 q)) (worth_equal z 1 r)

-- ---- patterns
-- a double that is worth a whole number n, which fits, is that number with one of the signs
number_of : (x : Float) → IsNumber x → T (not (is_nan x))
unfolding is_nan
number_of nan h = h
number_of (inf s) h = absurd h
number_of (fin s m e) h = tt

signed_value : (x : Float) (n : ℕ) → Worth x (pos n) 1 → (s : Bool) × HasValue x s n 1 × (with_sign s n ≡ pos n)
signed_value nan n v = absurd v.0
signed_value (inf s) n v = absurd v.0
signed_value (fin s m e) n v = (
  s,
  (refl, ap (λ (k : ℕ). k * 1) (sym (size_signed s (m * up e))) ∙ worth_size (fin s m e) (pos n) 1 v),
  sign_of s (m * up e * 1) (pos n) (down e) (down_pos e) (sym (signed_times s (m * up e) 1) ∙ v.1),
)

-- the pattern of such a double
module _ (k n : ℕ) (small : k < 2 ^ 64) (v : Worth (of_bits binary64 k) (pos n) 1) (fit : (s : Bool) → T (fits binary64 (fin s n (pos 0)))) where
  pattern_of : (s : Bool) × (k ≡ to_bits binary64 (fin s n (pos 0))) × (with_sign s n ≡ pos n)
  pattern_of =
      let w = signed_value (of_bits binary64 k) n v in
      let s = w.0 in
      let whole : HasValue (fin s n (pos 0)) s n 1 = (refl, ap (λ (i : ℕ). i * 1) (mul-one n)) in
      let same : of_bits binary64 k ≡ fin s n (pos 0) =
      whole_unique binary64 (of_bits binary64 k) (fin s n (pos 0)) s n (of_bits-fits binary64 k) (fit s) w.1 whole in
      (s, sym (to_bits-of_bits binary64 k small (number_of (of_bits binary64 k) v.0)) ∙ ap (to_bits binary64) same, w.2)

-- 0.0 or -0.0
abbrev pub ZeroPattern : ℕ → Type 0
ZeroPattern n = (n ≡ 0) ⊎ (n ≡ 0x8000_0000_0000_0000)

zero_pattern : (k : ℕ) → k < 2 ^ 64 → Worth (of_bits binary64 k) (pos 0) 1 → ZeroPattern k
unfolding to_bits fits
zero_pattern k h v = go (pattern_of k 0 h v (λ s. tt))
  where
    go : (s : Bool) × (k ≡ to_bits binary64 (fin s 0 (pos 0))) × (with_sign s 0 ≡ pos 0) → ZeroPattern k
    go (false, e, w) = inl e
    go (true, e, w) = inr e

one_pattern : (k : ℕ) → k < 2 ^ 64 → Worth (of_bits binary64 k) (pos 1) 1 → k ≡ 0x3ff0_0000_0000_0000
unfolding to_bits fits
one_pattern k h v = go (pattern_of k 1 h v (λ s. tt))
  where
    go : (s : Bool) × (k ≡ to_bits binary64 (fin s 1 (pos 0))) × (with_sign s 1 ≡ pos 1) → k ≡ 0x3ff0_0000_0000_0000
    go (false, e, w) = e
    go (true, e, w) = absurd (pos-ne-negsuc 1 0 (sym w))

pub upright_patterns : (x y z : ℕ) → x < 2 ^ 64 → y < 2 ^ 64 → z < 2 ^ 64 → is_upright_bits x y z ≡ true
    → ZeroPattern x × ZeroPattern y × (z ≡ 0x3ff0_0000_0000_0000)
upright_patterns x y z p q r h =
    let w = is_upright_sound (of_bits binary64 x) (of_bits binary64 y) (of_bits binary64 z) h in
    (zero_pattern x p w.0, zero_pattern y q w.1, one_pattern z r w.2)

pub patterns_upright : (x y z : ℕ) → ZeroPattern x → ZeroPattern y → z ≡ 0x3ff0_0000_0000_0000 → is_upright_bits x y z ≡ true
unfolding of_bits
patterns_upright x y z p q e =
    is_upright_complete (of_bits binary64 x) (of_bits binary64 y) (of_bits binary64 z) (zero_worth p) (zero_worth q) (rw e (tt, refl))
  where
    zero_worth : {n : ℕ} → ZeroPattern n → Worth (of_bits binary64 n) (pos 0) 1
    zero_worth (inl e) = rw e (tt, refl)
    zero_worth (inr e) = rw e (tt, refl)
