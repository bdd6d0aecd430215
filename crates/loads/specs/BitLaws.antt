-- Laws of bits, windows and the numbers they spell: what the codes' proofs rest on. Assumes nothing.
use Rattle.std.specs.Prelude.{◌≡◌, refl, Bool, true, false, List, [], ◌∷◌, ◌++◌, ℕ, zero, suc, ◌+◌, ◌-◌, ◌*◌, ◌/◌, ◌%◌, ◌^◌, ◌≤◌, ◌<◌, min, length, take, drop, get_or, eqb}
use Rattle.std.proofs.Common.{sym, ap, ap₂, subst, ◌∙◌, append_assoc, add-mul, mul_assoc, add_assoc, mod-lt, arith, length-append, length-take, length-drop, take-add, drop-drop, length-take-le, take_at, drop_at, get_or-take, get_or-drop, ext_get_or, pow-add, pow_pos, lit<}
use Rattle.std.proofs.Math.Nat.{pow-succ', mul-add-div_right, mul-add-mod_self_right}
use Rattle.std.proofs.Math.ListN.{get_or-append}
use Rattle.std.proofs.Math.Seq.{take-append_seam, drop-append_seam}
use Rattle.std.proofs.Math.Arith.{digits_lt}
use Rattle.std.proofs.Math.Pow.{high}
use Rattle.std.proofs.lemmas.Nat.{mod-pow-add}
use Rattle.loads.specs.Bits.{odd, bit, bits_of, size, bit_at, window, number, digits, Stands, Alike, Begins}

bit_of : (y : ℕ) → y < 2 → bit (eqb y 1) ≡ y
bit_of zero h = refl
bit_of (suc zero) h = refl
bit_of (suc (suc y)) h = omega arith

pub bit_odd : (x : ℕ) → bit (odd x) ≡ x % 2
bit_odd x = bit_of (x % 2) (mod-lt x (lit< tt))

bit_lt : (b : Bool) → bit b < 2
bit_lt true = lit< tt
bit_lt false = lit< tt

odd_bit : (b : Bool) → odd (bit b) ≡ b
odd_bit true = refl
odd_bit false = refl

-- ---- sizes
pub length_digits : (n v : ℕ) → length (digits n v) ≡ n
unfolding digits
length_digits zero v = refl
length_digits (suc n) v = ap suc (length_digits n v)

pub length_bits : (xs : List ℕ) → length (bits_of xs) ≡ size xs
unfolding bits_of
length_bits [] = refl
length_bits (b ∷ xs) = omega (arith, length-append (digits 8 b) (bits_of xs), length_digits 8 b, length_bits xs)

pub length_window : (xs : List ℕ) (p n : ℕ) → length (window xs p n) ≡ min n (size xs - p)
unfolding window
length_window xs p n = simp (length-take, length-drop, length_bits)

pub window_whole : (xs : List ℕ) (p n : ℕ) → n ≤ size xs - p → length (window xs p n) ≡ n
unfolding window
window_whole xs p n h = length-take-le n (drop p (bits_of xs)) (simp (length-drop, length_bits) h)

-- ---- numbers and their digits
pub number_append : (bs cs : List Bool) → number (bs ++ cs) ≡ number bs * 2 ^ length cs + number cs
unfolding number
number_append [] cs = omega arith
number_append (b ∷ bs) cs =
    rw (number_append bs cs, length-append bs cs, pow-add 2 (length bs) (length cs)) (simp (add-mul, mul_assoc, add_assoc))

pub number_lt : (bs : List Bool) → number bs < 2 ^ length bs
unfolding number
number_lt [] = lit< tt
number_lt (b ∷ bs) = rw (pow-succ' 2 (length bs)) (digits_lt (bit_lt b) (number_lt bs))

pub number_digits : (n v : ℕ) → number (digits n v) ≡ v % 2 ^ n
unfolding number digits
number_digits zero v = omega arith
number_digits (suc n) v =
    let e : suc n ≡ 1 + n = omega arith in
    rw (bit_odd (v / 2 ^ n), length_digits n v, number_digits n v, e) (sym (mod-pow-add v 1 n))

-- the digits do not see what stands above them
digits_low : (n k a v : ℕ) → n ≤ k → digits n (a * 2 ^ k + v) ≡ digits n v
unfolding digits
digits_low zero k a v h = refl
digits_low (suc n) k a v h = ap₂ ◌∷◌ (ap (λ (x : ℕ). eqb x 1) (low_bit n k a v h)) (digits_low n k a v (omega arith))
  where
    low_bit : (n k a v : ℕ) → suc n ≤ k → (a * 2 ^ k + v) / 2 ^ n % 2 ≡ v / 2 ^ n % 2
    low_bit n k a v h =
        let j = k - suc n in
        let e : k ≡ j + 1 + n = omega arith in
        rw (e, pow-add 2 (j + 1) n, ← mul_assoc a (2 ^ (j + 1)) (2 ^ n), mul-add-div_right (pow_pos n) (a * 2 ^ (j + 1)) v)
        (rw (pow-add 2 j 1, ← mul_assoc a (2 ^ j) 2) (mul-add-mod_self_right (a * 2 ^ j) 2 (v / 2 ^ n)))

pub digits_number : (bs : List Bool) → digits (length bs) (number bs) ≡ bs
unfolding digits number
digits_number [] = refl
digits_number (b ∷ bs) =
    ap₂ ◌∷◌ (ap odd (high (bit b) (length bs) (number_lt bs)) ∙ odd_bit b)
    (digits_low (length bs) (length bs) (bit b) (number bs) (omega arith) ∙ digits_number bs)

-- ---- windows
pub window_add : (xs : List ℕ) (p m n : ℕ) → window xs p (m + n) ≡ window xs p m ++ window xs (p + m) n
unfolding window
window_add xs p m n = rw (take-add m n (drop p (bits_of xs)), drop-drop m p (bits_of xs))

-- what stands in a payload lies in it
pub stands_fits : (xs : List ℕ) (p : ℕ) (cs : List Bool) → Stands xs p cs → length cs ≤ size xs - p
stands_fits xs p cs h =
    let e : length cs ≡ min (length cs) (size xs - p) = sym (ap length h) ∙ length_window xs p (length cs) in
    omega (arith, e)

pub stands_window : (xs : List ℕ) (p n : ℕ) → n ≤ size xs - p → Stands xs p (window xs p n)
stands_window xs p n h = rw (window_whole xs p n h)

pub stands_none : (xs : List ℕ) (p : ℕ) → Stands xs p []
unfolding window
stands_none xs p = refl

pub stands_join : (xs : List ℕ) (p : ℕ) (cs ds : List Bool) → Stands xs p cs → Stands xs (p + length cs) ds → Stands xs p (cs ++ ds)
stands_join xs p cs ds h k = rw (length-append cs ds, window_add xs p (length cs) (length ds)) (ap₂ ◌++◌ h k)

module _ (xs : List ℕ) (p : ℕ) (cs ds : List Bool) (h : Stands xs p (cs ++ ds)) where
  both : window xs p (length cs) ++ window xs (p + length cs) (length ds) ≡ cs ++ ds
  both = sym (window_add xs p (length cs) (length ds)) ∙ ap (window xs p) (sym (length-append cs ds)) ∙ h

  first : length (window xs p (length cs)) ≡ length cs
  first =
      window_whole xs p (length cs)
      (omega (arith, stands_fits xs p (cs ++ ds) h, length-append cs ds))

  pub stands_left : Stands xs p cs
  stands_left =
      sym (take_at (window xs p (length cs)) (window xs (p + length cs) (length ds)) (length cs) first)
      ∙ ap (take (length cs)) both ∙ take-append_seam cs ds

  pub stands_right : Stands xs (p + length cs) ds
  stands_right =
      sym (drop_at (window xs p (length cs)) (window xs (p + length cs) (length ds)) (length cs) first)
      ∙ ap (drop (length cs)) both ∙ drop-append_seam cs ds

-- ---- payloads that are alike
pub alike_down : {xs ys : List ℕ} {p q : ℕ} → p ≤ q → Alike xs ys q → Alike xs ys p
alike_down h a = record { lengths = a.lengths; bits = λ i k. a.bits i (omega arith) }

-- n bits that are there in both, and are the same
same_window : (xs ys : List ℕ) (p n : ℕ) → n ≤ size xs - p → n ≤ size ys - p → ((i : ℕ) → i < n → bit_at ys (p + i) ≡ bit_at xs (p + i))
    → window ys p n ≡ window xs p n
unfolding window bit_at
same_window xs ys p n h ly same =
    ext_get_or false (window ys p n) (window xs p n) (window_whole ys p n ly ∙ sym (window_whole xs p n h))
    (λ i k.
    let k' : i < n = subst (λ (m : ℕ). i < m) (window_whole ys p n ly) k in
    get_or-take n (drop p (bits_of ys)) i false k' ∙ get_or-drop p (bits_of ys) i false ∙ same i k'
    ∙ sym (get_or-take n (drop p (bits_of xs)) i false k' ∙ get_or-drop p (bits_of xs) i false))

pub alike_window : (xs ys : List ℕ) (p n : ℕ) → n ≤ size xs - p → Alike xs ys (p + n) → window ys p n ≡ window xs p n
alike_window xs ys p n h a = same_window xs ys p n h (rw a.lengths h) (λ i k. a.bits (p + i) (omega arith))

-- ---- a payload that begins with another
pub bits_append : (xs ys : List ℕ) → bits_of (xs ++ ys) ≡ bits_of xs ++ bits_of ys
unfolding bits_of
bits_append [] ys = refl
bits_append (b ∷ xs) ys = rw (bits_append xs ys) (sym (append_assoc (digits 8 b) (bits_of xs) (bits_of ys)))

pub begins_size : {xs ys : List ℕ} → Begins xs ys → size xs ≤ size ys
begins_size {xs} b = omega (arith, ap length b.whole, length-append xs b.rest)

begins_bit : {xs ys : List ℕ} → Begins xs ys → (i : ℕ) → i < size xs → bit_at ys i ≡ bit_at xs i
unfolding bit_at
begins_bit {xs} {ys} b i h =
    let inside : i < length (bits_of xs) = rw (length_bits xs) h in
    ap (λ (bs : List Bool). get_or bs i false) (ap bits_of b.whole ∙ bits_append xs b.rest)
    ∙ get_or-append (bits_of xs) (bits_of b.rest) false i inside

pub begins_window : {xs ys : List ℕ} (p n : ℕ) → Begins xs ys → n ≤ size xs - p → window ys p n ≡ window xs p n
begins_window {xs} {ys} p n b h =
    let more = begins_size b in
    same_window xs ys p n h (omega arith) (λ i k. begins_bit b (p + i) (omega arith))
