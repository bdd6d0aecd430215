-- 64 bits at once: the word at a place, from eight, nine or ten bytes, and some of its first bytes. Assumes nothing.
use mathlib.Core.Path.{◌≡◌, refl, sym, ap, subst, ◌∙◌}
use mathlib.Core.List.{List, [], ◌∷◌}
use Prim.Native.Nat.{ℕ, zero, suc, ◌+◌, ◌-◌, ◌*◌, ◌/◌, ◌%◌, ◌^◌, ◌≤◌, ◌<◌}
use native.Mathlib.Nat.{add-zero, add-mul, mul_assoc, mul-add-div_right, mul-mod_left, mod-eq_of_lt, div-one, lt_of_lt_of_le}
use native.Mathlib.Omega.{arith}
use lib.ListN.{length, get_or, take, drop}
use lib.Seq.{drop-cons}
use lib.Arith.{digits_lt}
use lib.Dec.{lit<}
use lib.Pow.{pow-add, pow_pos, pow_mono, high, low, mod-pow-add, shl_lt, shl-shr, shr_lt}
use Rattle.std.specs.Int.{w16, w64, from_be_bytes}
use Rattle.loads.specs.Bits.{window, number}
use Rattle.loads.specs.BitLaws.{number_append, number_lt, window_add, window_whole}
use Rattle.loads.proofs.Parts.{big_at, part, part_at}

pub window_lt : (s : List ℕ) (at n : ℕ) → at + n ≤ 8 * length s → number (window s at n) < 2 ^ n
window_lt s at n h = rw (window_whole s at n (omega arith)) at (number_lt (window s at n))

-- no bits are the number 0, and fewer than eight bytes leave room for one more
pub none : (s : List ℕ) (at : ℕ) → number (window s at 0) ≡ 0
unfolding window number
none s at = refl

pub short_lt : (s : List ℕ) (at i : ℕ) → at + 8 * i ≤ 8 * length s → i < 8 → number (window s at (8 * i)) < 2 ^ 56
short_lt s at i h h₈ = lt_of_lt_of_le (window_lt s at (8 * i) h) (pow_mono {j = 56} (omega arith))

-- m bits and then n
pub number_split : (s : List ℕ) (at m n : ℕ) → at + (m + n) ≤ 8 * length s
    → number (window s at (m + n)) ≡ number (window s at m) * 2 ^ n + number (window s (at + m) n)
number_split s at m n h =
    let l : length (window s (at + m) n) ≡ n = window_whole s (at + m) n (omega arith) in
    ap number (window_add s at m n) ∙ number_append (window s at m) (window s (at + m) n) ∙ rw l

-- the first m of m + n bits
first_bits : (s : List ℕ) (at m n : ℕ) → at + (m + n) ≤ 8 * length s → number (window s at (m + n)) / 2 ^ n ≡ number (window s at m)
first_bits s at m n h = rw (number_split s at m n h) (high (number (window s at m)) n (window_lt s (at + m) n (omega arith)))

-- a shift to the left keeps the bits that have room
shl_keeps : (x r : ℕ) → r ≤ 64 → x * 2 ^ r % 2 ^ 64 ≡ x % 2 ^ (64 - r) * 2 ^ r
shl_keeps x r h =
    let e : 64 ≡ 64 - r + r = omega arith in
    ap (λ (k : ℕ). x * 2 ^ r % 2 ^ k) e ∙ mod-pow-add (x * 2 ^ r) (64 - r) r
    ∙ rw (shl-shr x r, mul-mod_left x (2 ^ r)) (add-zero (x % 2 ^ (64 - r) * 2 ^ r))

-- taking the first r bits off and a byte's first r bits on
shifted : (x b r : ℕ) → r ≤ 8 → b < 256 → (x * 256 + b) / 2 ^ (8 - r) % 2 ^ 64 ≡ x * 2 ^ r % 2 ^ 64 + b / 2 ^ (8 - r)
shifted x b r h hb =
    let p : 256 ≡ 2 ^ r * 2 ^ (8 - r) = ap (λ (k : ℕ). 2 ^ k) (eq r h) ∙ pow-add 2 r (8 - r) in
    let y : b / 2 ^ (8 - r) < 2 ^ r = shr_lt r (8 - r) (subst (λ (k : ℕ). b < 2 ^ k) (eq r h) hb) in
    let d : (x * 256 + b) / 2 ^ (8 - r) ≡ x * 2 ^ r + b / 2 ^ (8 - r) =
    ap (λ (k : ℕ). (x * k + b) / 2 ^ (8 - r)) p
    ∙ ap (λ (k : ℕ). (k + b) / 2 ^ (8 - r)) (sym (mul_assoc x (2 ^ r) (2 ^ (8 - r)))) ∙ mul-add-div_right (pow_pos (8 - r)) (x * 2 ^ r) b in
    let m : (z : ℕ) → z < 2 ^ r → (x * 2 ^ r + z) % 2 ^ 64 ≡ x % 2 ^ (64 - r) * 2 ^ r + z =
    λ (z : ℕ) (hz : z < 2 ^ r). ap (λ (k : ℕ). (x * 2 ^ r + z) % 2 ^ k) (eq₆₄ r h) ∙ mod-pow-add (x * 2 ^ r + z) (64 - r) r ∙ rw (high x r hz, low x r hz) in
    ap (λ (k : ℕ). k % 2 ^ 64) d ∙ m (b / 2 ^ (8 - r)) y ∙ ap (λ (k : ℕ). k + b / 2 ^ (8 - r)) (sym (shl_keeps x r (omega arith)))
  where
    eq : (r : ℕ) → r ≤ 8 → 8 ≡ r + (8 - r)
    eq r h = omega arith

    eq₆₄ : (r : ℕ) → r ≤ 8 → 64 ≡ 64 - r + r
    eq₆₄ r h = omega arith

module _ (s : List ℕ) (bytes : (i : ℕ) → get_or s i 0 < 256) where
  big_lt : (k q : ℕ) → big_at s q k < 2 ^ (8 * k)
  big_lt zero q = lit< tt
  big_lt (suc k) q =
      let e : 8 + 8 * k ≡ 8 * suc k = omega arith in
      subst (λ (n : ℕ). big_at s q (suc k) < n) (sym (pow-add 2 8 (8 * k)) ∙ ap (λ (n : ℕ). 2 ^ n) e) (digits_lt (bytes q) (big_lt k (suc q)))

  -- the bits of k bytes
  whole : (k q : ℕ) → q + k ≤ length s → number (window s (8 * q) (8 * k)) ≡ big_at s q k
  whole k q h =
      let e : 8 * k - (0 + 8 * k) ≡ 0 = omega arith in
      ap (λ (p : ℕ). number (window s p (8 * k))) (sym (add-zero (8 * q)))
      ∙ part s bytes q 0 (8 * k) k h (omega arith)
      ∙ rw e (ap (λ (x : ℕ). x % 2 ^ (8 * k)) (div-one (big_at s q k)) ∙ mod-eq_of_lt (big_lt k q))

  -- the k bytes at q, one by one
  abbrev one_by_one : ℕ → ℕ → List ℕ
  one_by_one zero q = []
  one_by_one (suc k) q = get_or s q 0 ∷ one_by_one k (suc q)

  taken : (k q : ℕ) → q + k ≤ length s → take k (drop q s) ≡ one_by_one k q
  taken zero q h = refl
  taken (suc k) q h = ap (take (suc k)) (drop-cons s q 0 (omega arith)) ∙ ap (λ (bs : List ℕ). get_or s q 0 ∷ bs) (taken k (suc q) (omega arith))

  -- what std makes of two bytes, and of eight
  pub from_two : (q : ℕ) → q + 2 ≤ length s → from_be_bytes w16 (take 2 (drop q s)) ≡ number (window s (8 * q) 16)
  from_two q h = ap (from_be_bytes w16) (taken 2 q h) ∙ two (get_or s q 0) (get_or s (suc q) 0) ∙ sym (whole 2 q h)
    where
      two : (a b : ℕ) → a * 256 + b ≡ a * 2 ^ 8 + (b * 2 ^ 0 + 0)
      two a b = omega arith

  pub from_eight : (q : ℕ) → q + 8 ≤ length s → from_be_bytes w64 (take 8 (drop q s)) ≡ number (window s (8 * q) 64)
  from_eight q h = ap (from_be_bytes w64) (taken 8 q h) ∙ omega arith ∙ sym (whole 8 q h)

  nine : (q : ℕ) → q + 9 ≤ length s → big_at s q 9 ≡ number (window s (8 * q) 64) * 256 + get_or s (q + 8) 0
  nine q h =
      let e : q + 8 ≡ suc (suc (suc (suc (suc (suc (suc (suc q))))))) = omega arith in
      rw (e, whole 8 q (omega arith)) (omega arith)

  pub word_shift : (at : ℕ) → at / 8 + 9 ≤ length s
      → number (window s (8 * (at / 8)) 64) * 2 ^ (at % 8) % 2 ^ 64 + get_or s (at / 8 + 8) 0 / 2 ^ (8 - at % 8) ≡ number (window s at 64)
  word_shift at h =
      let e : 72 - (at % 8 + 64) ≡ 8 - at % 8 = omega arith in
      sym (part_at s bytes at 64 9 h (omega arith)
      ∙ rw (e, nine (at / 8) h) (shifted (number (window s (8 * (at / 8)) 64)) (get_or s (at / 8 + 8) 0) (at % 8) (omega arith) (bytes _)))

-- the first n bytes of the word at a place
pub word_first : (s : List ℕ) (at n x : ℕ) → n ≤ 8 → at + 64 ≤ 8 * length s → x ≡ number (window s at 64)
    → x / 2 ^ (64 - n * 8) ≡ number (window s at (8 * n))
word_first s at n x h h' e =
    let m : 64 - n * 8 ≡ 64 - 8 * n = omega arith in
    let k : 64 ≡ 8 * n + (64 - 8 * n) = omega arith in
    rw (e, m) (ap (λ (j : ℕ). number (window s at j) / 2 ^ (64 - 8 * n)) k ∙ first_bits s at (8 * n) (64 - 8 * n) (omega arith))

-- one byte more, behind
pub byte_more : (s : List ℕ) (at i v b : ℕ) → at + 8 * (i + 1) ≤ 8 * length s → v ≡ number (window s at (8 * i))
    → b ≡ number (window s (at + i * 8) 8) → v * 256 + b ≡ number (window s at (8 * (i + 1)))
byte_more s at i v b h e f =
    let m : 8 * (i + 1) ≡ 8 * i + 8 = omega arith in
    let k : at + i * 8 ≡ at + 8 * i = omega arith in
    rw (e, f, m, k) (sym (number_split s at (8 * i) 8 (omega arith)))

-- what bytes put together one by one are
pub ruleset byte_by_byte = (none, short_lt, window_lt, byte_more)

-- ---- the bits from a place to the end of the eighth byte, on top of a word
module _ (s : List ℕ) (at : ℕ) where
  abbrev pub top : ℕ
  top = number (window s at (64 - at % 8)) * 2 ^ (at % 8)

  pub top_shift : at / 8 + 8 ≤ length s → number (window s (8 * (at / 8)) 64) * 2 ^ (at % 8) % 2 ^ 64 ≡ top
  top_shift h =
      let r = at % 8 in
      let q = 8 * (at / 8) in
      let e : 64 ≡ r + (64 - r) = omega arith in
      let p : q + r ≡ at = omega arith in
      let split : number (window s q 64) ≡ number (window s q r) * 2 ^ (64 - r) + number (window s at (64 - r)) =
      ap (λ (k : ℕ). number (window s q k)) e ∙ number_split s q r (64 - r) (omega arith)
      ∙ ap (λ (k : ℕ). number (window s q r) * 2 ^ (64 - r) + number (window s k (64 - r))) p in
      shl_keeps (number (window s q 64)) r (omega arith)
      ∙ ap (λ (x : ℕ). x * 2 ^ r)
      (ap (λ (x : ℕ). x % 2 ^ (64 - r)) split ∙ low (number (window s q r)) (64 - r) (window_lt s at (64 - r) (omega arith)))

  -- two bits, and what is behind them there
  abbrev behind : ℕ
  behind = number (window s (at + 2) (62 - at % 8)) * 2 ^ (at % 8)

  behind_lt : at / 8 + 8 ≤ length s → behind < 2 ^ 62
  behind_lt h =
      let e : 62 - at % 8 + at % 8 ≡ 62 = omega arith in
      subst (λ (k : ℕ). behind < 2 ^ k) e (shl_lt (62 - at % 8) (at % 8) (window_lt s (at + 2) (62 - at % 8) (omega arith)))

  top_parts : at / 8 + 8 ≤ length s → top ≡ number (window s at 2) * 2 ^ 62 + behind
  top_parts h =
      let r = at % 8 in
      let t = number (window s at 2) in
      let c = number (window s (at + 2) (62 - r)) in
      let e : 64 - r ≡ 2 + (62 - r) = omega arith in
      let f : 62 - r + r ≡ 62 = omega arith in
      ap (λ (k : ℕ). number (window s at k) * 2 ^ r) e
      ∙ ap (λ (x : ℕ). x * 2 ^ r) (number_split s at 2 (62 - r) (omega arith))
      ∙ add-mul (t * 2 ^ (62 - r)) c (2 ^ r)
      ∙ ap (λ (x : ℕ). x + behind) (mul_assoc t (2 ^ (62 - r)) (2 ^ r) ∙ ap (λ (x : ℕ). t * x) (sym (pow-add 2 (62 - r) r) ∙ ap (λ (k : ℕ). 2 ^ k) f))

  -- the two bits there are the word's highest
  pub top_two : at / 8 + 8 ≤ length s → top / 2 ^ 62 ≡ number (window s at 2)
  top_two h = rw (top_parts h) (high (number (window s at 2)) 62 (behind_lt h))

  -- the 64 bits behind those two, the last of them from the ninth and the tenth byte
  pub top_behind : at / 8 + 10 ≤ length s
      → top * 2 ^ 2 % 2 ^ 64 + number (window s (8 * (at / 8 + 8)) 16) / 2 ^ (14 - at % 8) ≡ number (window s (at + 2) 64)
  top_behind h =
      let r = at % 8 in
      let c = number (window s (at + 2) (62 - r)) in
      let h₈ : at / 8 + 8 ≤ length s = omega arith in
      let e : 16 ≡ r + 2 + (14 - r) = omega arith in
      let f : 64 ≡ 62 - r + (r + 2) = omega arith in
      let p : 8 * (at / 8 + 8) ≡ at + 2 + (62 - r) = omega arith in
      let up : top * 2 ^ 2 % 2 ^ 64 ≡ c * 2 ^ (r + 2) =
      shl_keeps top 2 (omega arith)
      ∙ ap (λ (x : ℕ). x * 2 ^ 2) (ap (λ (x : ℕ). x % 2 ^ 62) (top_parts h₈) ∙ low (number (window s at 2)) 62 (behind_lt h₈))
      ∙ mul_assoc c (2 ^ r) (2 ^ 2) ∙ ap (λ (x : ℕ). c * x) (sym (pow-add 2 r 2)) in
      let down : number (window s (8 * (at / 8 + 8)) 16) / 2 ^ (14 - r) ≡ number (window s (at + 2 + (62 - r)) (r + 2)) =
      ap (λ (k : ℕ). number (window s k 16) / 2 ^ (14 - r)) p
      ∙ ap (λ (k : ℕ). number (window s (at + 2 + (62 - r)) k) / 2 ^ (14 - r)) e
      ∙ first_bits s (at + 2 + (62 - r)) (r + 2) (14 - r) (omega arith) in
      rw (up, down)
      (sym (ap (λ (k : ℕ). number (window s (at + 2) k)) f ∙ number_split s (at + 2) (62 - r) (r + 2) (omega arith)))
