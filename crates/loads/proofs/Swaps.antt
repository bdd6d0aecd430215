-- Bytes the other way round: a number read with its high byte first becomes the one with its low byte first. Assumes nothing.
use mathlib.Core.Path.{◌≡◌, refl, sym, ap, ◌∙◌}
use mathlib.Core.List.{List}
use Prim.Native.Nat.{ℕ, zero, suc, ◌+◌, ◌-◌, ◌*◌, ◌/◌, ◌%◌, ◌^◌, ◌≤◌, ◌<◌}
use native.Mathlib.Nat.{mul_assoc, mul-add-div_right, mul-add-mod_self_right, mod-eq_of_lt, div-eq_of_lt}
use native.Mathlib.Nat.{lt_of_lt_of_le, zero-add, add-zero, suc-add, mul-one}
use native.Mathlib.Omega.{arith}
use lib.ListN.{length}
use lib.Pow.{pow-add, pow_pos, pow_mono, high, shl-shr}
use Rattle.std.specs.Int.{w64, swap_bytes}
use Rattle.loads.specs.Bits.{window, number}
use Rattle.loads.specs.Bytes.{low_number, bytes_at}
use Rattle.loads.proofs.LoadLaws.{window_lt, number_split}

-- the low n bytes of a number, the other way round
unfoldable pub swapped : ℕ → ℕ → ℕ
swapped zero x = 0
swapped (suc n) x = x / 2 ^ (8 * n) % 256 + 256 * swapped n x

-- std's word for eight
pub swap_is : (x : ℕ) → swap_bytes w64 x ≡ swapped 8 x
unfolding swapped
swap_is x = omega arith

-- the eight bytes of x, each taken by a shift, put together from the other end
pub eight_swapped : (x : ℕ) {b₀ b₁ b₂ b₃ b₄ b₅ b₆ b₇ : ℕ} → b₀ ≡ x / 2 ^ 0 % 256 → b₁ ≡ x / 2 ^ 8 % 256 → b₂ ≡ x / 2 ^ 16 % 256
    → b₃ ≡ x / 2 ^ 24 % 256 → b₄ ≡ x / 2 ^ 32 % 256 → b₅ ≡ x / 2 ^ 40 % 256 → b₆ ≡ x / 2 ^ 48 % 256 → b₇ ≡ x / 2 ^ 56 % 256
    → b₇ + 256 * (b₆ + 256 * (b₅ + 256 * (b₄ + 256 * (b₃ + 256 * (b₂ + 256 * (b₁ + 256 * b₀)))))) ≡ swapped 8 x
unfolding swapped
eight_swapped x e₀ e₁ e₂ e₃ e₄ e₅ e₆ e₇ = rw (e₇, e₆, e₅, e₄, e₃, e₂, e₁, e₀, add-zero (x / 1 % 256))

-- the low bytes of a number do not see what stands above them
swap_low : (n m a b : ℕ) → n ≤ m → swapped n (a * 2 ^ (8 * m) + b) ≡ swapped n b
unfolding swapped
swap_low zero m a b h = refl
swap_low (suc n) m a b h =
    let k = 8 * (m - suc n) in
    let e : 8 * m ≡ k + 8 + 8 * n = omega arith in
    let d : (a * 2 ^ (8 * m) + b) / 2 ^ (8 * n) % 256 ≡ b / 2 ^ (8 * n) % 256 =
    rw (e, pow-add 2 (k + 8) (8 * n), ← mul_assoc a (2 ^ (k + 8)) (2 ^ (8 * n)), mul-add-div_right (pow_pos (8 * n)) (a * 2 ^ (k + 8)) b)
    (rw (pow-add 2 k 8, ← mul_assoc a (2 ^ k) 256) (mul-add-mod_self_right (a * 2 ^ k) 256 (b / 2 ^ (8 * n)))) in
    rw (d, swap_low n m a b (omega arith))

-- n bytes, the low one first, are the bits' number with its bytes the other way round
pub low_swap : (s : List ℕ) (n at : ℕ) → at + 8 * n ≤ 8 * length s → low_number (bytes_at s at n) ≡ swapped n (number (window s at (8 * n)))
unfolding low_number bytes_at swapped
low_swap s zero at h = refl
low_swap s (suc n) at h =
    let e : 8 * suc n ≡ 8 + 8 * n = omega arith in
    let first = number (window s at 8) in
    let rest = number (window s (at + 8) (8 * n)) in
    rw (e, number_split s at 8 (8 * n) (omega arith), high first (8 * n) (window_lt s (at + 8) (8 * n) (omega arith)))
    (rw (mod-eq_of_lt (window_lt s at 8 (omega arith)), swap_low n n first rest (omega arith), low_swap s n (at + 8) (omega arith)) (omega arith))

-- a number of n bytes, swapped as one of more: its bytes go on top
swap_more : (m n x : ℕ) → x < 2 ^ (8 * n) → swapped (m + n) x ≡ swapped n x * 2 ^ (8 * m)
unfolding swapped
swap_more zero n x h = rw (zero-add n) (sym (mul-one (swapped n x)))
swap_more (suc m) n x h =
    let z : x / 2 ^ (8 * (m + n)) ≡ 0 = div-eq_of_lt (lt_of_lt_of_le h (pow_mono (omega arith))) in
    let e : 8 * suc m ≡ 8 * m + 8 = omega arith in
    rw (suc-add m n, z, swap_more m n x h, e, pow-add 2 (8 * m) 8, ← mul_assoc (swapped n x) (2 ^ (8 * m)) 256) (omega arith)

-- what `low_at` makes of the bits' number x, whose swapped bytes are w
pub low_shift : (s : List ℕ) (at n x w : ℕ) → n ≤ 8 → at + 8 * n ≤ 8 * length s → x ≡ number (window s at (8 * n)) → w ≡ swap_bytes w64 x
    → w / 2 ^ (64 - n * 8) ≡ low_number (bytes_at s at n)
low_shift s at n x w h h' e f =
    let m : 64 - n * 8 ≡ 8 * (8 - n) = omega arith in
    let k : 8 ≡ 8 - n + n = omega arith in
    let lt : x < 2 ^ (8 * n) = rw e (window_lt s at (8 * n) h') in
    rw m
    (ap (λ (y : ℕ). y / 2 ^ (8 * (8 - n))) (f ∙ swap_is x ∙ ap (λ (j : ℕ). swapped j x) k ∙ swap_more (8 - n) n x lt)
    ∙ shl-shr (swapped n x) (8 * (8 - n)) ∙ ap (swapped n) e ∙ sym (low_swap s n at h'))

-- what `eight_at` makes of the bits' number x
pub low_word : (s : List ℕ) (at x : ℕ) → at + 64 ≤ 8 * length s → x ≡ number (window s at 64) → swap_bytes w64 x ≡ low_number (bytes_at s at 8)
low_word s at x h e = rw e (swap_is (number (window s at 64)) ∙ sym (low_swap s 8 at (omega arith)))
