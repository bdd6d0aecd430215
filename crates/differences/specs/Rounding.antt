-- How far one rounding goes: a fraction within ±2 ^ 41 becomes a number within ±2 ^ 41 that has its sign and is at most 1 / 8,192 away from it. Up
-- to 2 ^ 41 a double's last digit is worth 2 ^ -12 at most, and a rounding moves by half of it at most. Assumes nothing.
use Rattle.std.specs.Prelude.{◌≡◌, ◌⊎◌, Bool, not, T, eqb, Float}
use Rattle.std.proofs.Common.{sym, ap, ◌∙◌, subst, inl, inr, le_trans, le_of_lt, le_of_eq, eq-or-lt_of_le, lt_of_lt_of_le, lt_of_le_of_lt, add-mul, suc-mul, mul_comm, mul_assoc, mul_left_comm, mul_right_comm, mul-pos, mul-le-mul_left, mul-le-mul_right, mul-lt-mul_of_pos_right, le_of_mul-le-mul_right, div-add-mod', mod-lt, div-lt_iff_lt-mul, arith, leb→le, eqb→eq, lit<, lit≤, pow-add, pow_pos, pow_mono}
use Prim.Native.Nat.{ℕ, suc, ◌+◌, ◌-◌, ◌*◌, ◌/◌, ◌%◌, ◌^◌, ◌≤◌, ◌<◌, compare, Ordering}
use Rattle.std.proofs.Math.Dec.{is_le, compare_is_eq, nleb→lt, eqb_refl}
use Rattle.std.proofs.Math.Arith.{lt_of_le-ne}
use Rattle.std.proofs.Math.Pow.{pow-lt}
use Rattle.std.specs.Float.{nan, inf, fin, binary64}
use Rattle.std.specs.Float.Ieee.{up, down, size, nearest, round}
use Rattle.std.specs.Float.Ieee.Digits.{size-le, back}
use Rattle.std.specs.Float.Ieee.Exact.{HasValue, round_exact, units_val}
use Rattle.std.specs.Float.Ieee.Fits.{round_is}
use Rattle.std.specs.Float.Ieee.Nearest.{closest}

-- ---- the nearest whole number is at most a half away
abbrev Ordered : Ordering → ℕ → ℕ → Type 0
Ordered Ordering.lt a b = a < b
Ordered Ordering.eq a b = a ≡ b
Ordered Ordering.gt a b = b < a

ordered : (a b : ℕ) → Ordered (compare a b) a b
ordered a b =
    go (compare a b) (leb→le a b) (nleb→lt a b) (eqb→eq a b) (λ (e : a ≡ b). subst (λ (x : ℕ). T (eqb a x)) e (eqb_refl a))
  where
    go : (o : Ordering) → (T (is_le o) → a ≤ b) → (T (not (is_le o)) → b < a) → (T (compare_is_eq o) → a ≡ b) → (a ≡ b → T (compare_is_eq o)) → Ordered o a b
    go Ordering.lt h k e n = lt_of_le-ne (h tt) n
    go Ordering.eq h k e n = e tt
    go Ordering.gt h k e n = k tt

-- |q - a / b| ≤ 1 / 2, times 2 * b
abbrev HalfAway : ℕ → ℕ → ℕ → Type 0
HalfAway q a b = (q * b * 2 ≤ a * 2 + b) × (a * 2 ≤ q * b * 2 + b)

parity : (q : ℕ) → q % 2 ≤ 1
parity q = omega arith

nearest_away : (q r a b : ℕ) (o : Ordering) → Ordered o (r * 2) b → q * b + r ≡ a → r < b → HalfAway (nearest q o) a b
nearest_away q r a b Ordering.lt c e l = (omega arith, omega arith)
nearest_away q r a b Ordering.eq c e l =
    let up_by : q % 2 * b ≤ 1 * b = mul-le-mul_right b (parity q) in
    let parts : (q + q % 2) * b ≡ q * b + q % 2 * b = add-mul q (q % 2) b in
    (omega arith, omega arith)
nearest_away q r a b Ordering.gt c e l =
    let parts : suc q * b ≡ q * b + b = suc-mul q b in
    (omega arith, omega arith)

closest_away : (a b : ℕ) → 0 < b → HalfAway (closest a b) a b
closest_away a b p = nearest_away (a / b) (a % b) a b (compare (a % b * 2) b) (ordered (a % b * 2) b) (div-add-mod' a b) (mod-lt a p)

-- a fraction up to a whole number is not rounded above it
closest_under : (a b w : ℕ) → 0 < b → a ≤ w * b → closest a b ≤ w
closest_under a b w p h =
    let q = closest a b in
    let left : q * 2 * b ≡ q * b * 2 = mul_right_comm q 2 b in
    let right : (w * 2 + 1) * b ≡ w * 2 * b + 1 * b = add-mul (w * 2) 1 b in
    let twice : w * 2 * b ≡ w * b * 2 = mul_right_comm w 2 b in
    halved q w (le_of_mul-le-mul_right
    (bounds (q * 2 * b) (q * b * 2) a b (w * b) (w * 2 * b) ((w * 2 + 1) * b) left right twice h (closest_away a b p).0) p)
  where
    bounds : (l q2 a b v v2 r : ℕ) → l ≡ q2 → r ≡ v2 + 1 * b → v2 ≡ v * 2 → a ≤ v → q2 ≤ a * 2 + b → l ≤ r
    bounds l q2 a b v v2 r e f g h k = omega arith

    halved : (q w : ℕ) → q * 2 ≤ w * 2 + 1 → q ≤ w
    halved q w h = omega arith

-- ---- what a float is beside the fraction ±n / c that it was rounded from: it has its sign, is at most 1 / 8,192 above and at most 1 / 8,192 below it
-- in size, and is within ±2 ^ 41
abbrev pub RoundedFrom : Bool → ℕ → ℕ → Float → Type 0
RoundedFrom s n c nan = ⊥
RoundedFrom s n c (inf t) = ⊥
RoundedFrom s n c (fin t m e) =
    (t ≡ s)
    × (m * up e * c * 8192 ≤ n * down e * 8192 + c * down e)
    × (n * down e * 8192 ≤ m * up e * c * 8192 + c * down e)
    × (m * up e ≤ 2 ^ 41 * down e)

-- a float that is the fraction itself
le_plus : (a b c : ℕ) → a ≡ b → a ≤ b + c
le_plus a b c h = omega arith

exactly : (x : Float) (s : Bool) (n c : ℕ) → 0 < c → n ≤ 2 ^ 41 * c → HasValue x s n c → RoundedFrom s n c x
exactly nan s n c p h v = v
exactly (inf t) s n c p h v = v
exactly (fin t m e) s n c p h v =
    let same : m * up e * c * 8192 ≡ n * down e * 8192 = ap (λ (k : ℕ). k * 8192) v.1 in
    let top : m * up e * c ≤ 2 ^ 41 * down e * c =
    le_trans (le_of_eq v.1) (le_trans (mul-le-mul_right (down e) h) (le_of_eq (mul_right_comm (2 ^ 41) c (down e)))) in (
      v.0,
      le_plus (m * up e * c * 8192) (n * down e * 8192) (c * down e) same,
      le_plus (n * down e * 8192) (m * up e * c * 8192) (c * down e) (sym same),
      le_of_mul-le-mul_right top p,
    )

-- from the fraction g / l of the float to its own fraction m / d
module _ (m d c n g l : ℕ) (l_pos : 0 < l) (e : m * l ≡ g * d) where
  right_over : (n * l * 8192 + c * l) * d ≡ (n * d * 8192 + c * d) * l
  right_over =
      let parts : n * l * 8192 * d + c * l * d ≡ n * d * 8192 * l + c * d * l = simp (mul_assoc, mul_comm, mul_left_comm) in
      add-mul (n * l * 8192) (c * l) d ∙ parts ∙ sym (add-mul (n * d * 8192) (c * d) l)

  left_over : m * c * 8192 * l ≡ g * c * 8192 * d
  left_over = simp (mul_assoc, mul_comm, mul_left_comm) (simp (mul_assoc, mul_comm, mul_left_comm) at (ap (λ (k : ℕ). k * (c * 8192)) e))

  from_above : g * c * 8192 ≤ n * l * 8192 + c * l → m * c * 8192 ≤ n * d * 8192 + c * d
  from_above h = le_of_mul-le-mul_right (le_trans (le_of_eq left_over) (le_trans (mul-le-mul_right d h) (le_of_eq right_over))) l_pos

  from_below : n * l * 8192 ≤ g * c * 8192 + c * l → n * d * 8192 ≤ m * c * 8192 + c * d
  from_below h =
      let left : n * d * 8192 * l ≡ n * l * 8192 * d = simp (mul_assoc, mul_comm, mul_left_comm) in
      let right : (g * c * 8192 + c * l) * d ≡ (m * c * 8192 + c * d) * l =
      add-mul (g * c * 8192) (c * l) d ∙ ap (λ (k : ℕ). k + c * l * d) (sym left_over)
      ∙ ap (λ (k : ℕ). m * c * 8192 * l + k) (mul_right_comm c l d) ∙ sym (add-mul (m * c * 8192) (c * d) l) in
      le_of_mul-le-mul_right (le_trans (le_of_eq left) (le_trans (mul-le-mul_right d h) (le_of_eq right))) l_pos

-- a float that is g smallest doubles, of 2 ^ -1074 each
in_units : (x : Float) (s : Bool) (n c g : ℕ) → HasValue x s g (2 ^ 1074) → g ≤ 2 ^ 1115
    → g * c * 8192 ≤ n * 2 ^ 1074 * 8192 + c * 2 ^ 1074 → n * 2 ^ 1074 * 8192 ≤ g * c * 8192 + c * 2 ^ 1074 → RoundedFrom s n c x
in_units nan s n c g v b h k = v
in_units (inf t) s n c g v b h k = v
in_units (fin t m e) s n c g v b h k =
    let M = m * up e in
    let D = down e in
    let top : M * 2 ^ 1074 ≤ 2 ^ 41 * D * 2 ^ 1074 =
    le_trans (le_of_eq v.1) (le_trans (mul-le-mul_right D b) (le_of_eq (sym (mul_right_comm (2 ^ 41) D (2 ^ 1074))))) in (
      v.0,
      from_above M D c n g (2 ^ 1074) (pow_pos 1074) v.1 h,
      from_below M D c n g (2 ^ 1074) (pow_pos 1074) v.1 k,
      le_of_mul-le-mul_right top (pow_pos 1074),
    )

-- ---- one rounding
digits_dropped : (z : ℕ) → z ≤ 1115 → z - 53 ≤ 1062
digits_dropped z h = omega arith

-- half a unit w is 1 / 8,192 at most of the whole, where 4,096 units v, each w or more, are at most the whole
within_above : (g n w v whole : ℕ) → w ≤ v → v * 4096 ≡ whole → g * 2 ≤ n * 2 + w → g * 8192 ≤ n * 8192 + whole
within_above g n w v whole h e k = omega arith

within_below : (g n w v whole : ℕ) → w ≤ v → v * 4096 ≡ whole → n * 2 ≤ g * 2 + w → n * 8192 ≤ g * 8192 + whole
within_below g n w v whole h e k = omega arith

pub round_near : (s : Bool) (n c : ℕ) → 0 < c → n ≤ 2 ^ 41 * c → RoundedFrom s n c (round binary64 s n c)
round_near s n c p h = go (eq-or-lt_of_le h)
  where
    go : (n ≡ 2 ^ 41 * c) ⊎ (n < 2 ^ 41 * c) → RoundedFrom s n c (round binary64 s n c)
    go (inl e) =
        exactly (round binary64 s n c) s n c p h
        (round_exact binary64 s n c 1 1115 p (lit< tt) (lit< tt)
        (ap (λ (k : ℕ). k * 2 ^ 1074) e ∙ mul_right_comm (2 ^ 41) c (2 ^ 1074)))
    go (inr l) =
        let N = n * 2 ^ 1074 in
        let k = size (N / c) - 53 in
        let u = c * 2 ^ k in
        let q = closest N u in
        let g = q * 2 ^ k in
        let u_pos : 0 < u = mul-pos p (pow_pos k) in
        let top : N < 2 ^ 1115 * c = lt_of_lt_of_le (mul-lt-mul_of_pos_right l (pow_pos 1074)) (le_of_eq (mul_right_comm (2 ^ 41) c (2 ^ 1074))) in
        let k_le : k ≤ 1062 = digits_dropped (size (N / c)) (size-le (N / c) 1115 ((div-lt_iff_lt-mul p).1 top)) in
        let whole : 2 ^ (1115 - k) * 2 ^ k ≡ 2 ^ 1115 =
        sym (pow-add 2 (1115 - k) k) ∙ ap (λ (x : ℕ). 2 ^ x) (back 1115 k (le_trans k_le (lit≤ tt))) in
        let inside : N ≤ 2 ^ (1115 - k) * u =
        le_trans (le_of_lt top)
        (le_of_eq (ap (λ (x : ℕ). x * c) (sym whole) ∙ mul_right_comm (2 ^ (1115 - k)) (2 ^ k) c ∙ mul_assoc (2 ^ (1115 - k)) c (2 ^ k))) in
        let g_le : g ≤ 2 ^ 1115 = le_trans (mul-le-mul_right (2 ^ k) (closest_under N u (2 ^ (1115 - k)) u_pos inside)) (le_of_eq whole) in
        let away = closest_away N u u_pos in
        let over : q * u ≡ g * c = simp (mul_assoc, mul_comm, mul_left_comm) in
        let above : g * c * 2 ≤ N * 2 + u = subst (λ (x : ℕ). x * 2 ≤ N * 2 + u) over away.0 in
        let below : N * 2 ≤ g * c * 2 + u = subst (λ (x : ℕ). N * 2 ≤ x * 2 + u) over away.1 in
        let w : u ≤ c * 2 ^ 1062 = mul-le-mul_left c (pow_mono k_le) in
        let all : c * 2 ^ 1062 * 4096 ≡ c * 2 ^ 1074 = mul_assoc c (2 ^ 1062) 4096 in
        let value = units_val binary64 s q k (lt_of_le_of_lt g_le (pow-lt {i = 1115} {j = 2098} (lit< tt))) in
        in_units (round binary64 s n c) s n c g
        (subst (λ (x : Float). HasValue x s g (2 ^ 1074)) (sym (round_is binary64 s n c)) value) g_le
        (within_above (g * c) N u (c * 2 ^ 1062) (c * 2 ^ 1074) w all above)
        (within_below (g * c) N u (c * 2 ^ 1062) (c * 2 ^ 1074) w all below)
