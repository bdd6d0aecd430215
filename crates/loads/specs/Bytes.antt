-- Bytes as numbers, low byte first or high byte first, and as bits; the bytes at any bit of a payload. Assumes nothing.
use Rattle.std.specs.Prelude.{◌≡◌, refl, Bool, List, [], ◌∷◌, ◌++◌, ℕ, zero, suc, ◌+◌, ◌*◌, ◌/◌, ◌%◌, ◌^◌, ◌<◌, length, take, drop}
use Rattle.std.proofs.Common.{sym, ap, ap₂, ◌∙◌, mod-lt, pow-suc, div-add-mod', div-lt_iff_lt-mul, arith, length-drop, take-append-drop, length-take-le}
use Rattle.std.proofs.Math.Arith.{digits_lt, digits_div, digits_mod}
use Rattle.loads.specs.Bits.{bits_of, window, number, digits}
use Rattle.loads.specs.BitLaws.{length_bits, digits_number, number_lt}

-- each is a byte
abbrev pub AllBytes : List ℕ → Type 0
AllBytes [] = Unit {0}
AllBytes (b ∷ bs) = (b < 256) × AllBytes bs

-- the number of bytes, the low one first, and the k bytes of a number
unfoldable pub low_number : List ℕ → ℕ
low_number [] = 0
low_number (b ∷ bs) = low_number bs * 256 + b

unfoldable pub low_bytes : ℕ → ℕ → List ℕ
low_bytes zero v = []
low_bytes (suc k) v = v % 256 ∷ low_bytes k (v / 256)

-- k bytes bs whose bits are cs
abbrev pub Bytes : ℕ → List ℕ → List Bool → Type 0
Bytes k bs cs = (length bs ≡ k) × AllBytes bs × (cs ≡ bits_of bs)

-- the k bytes at a place
unfoldable pub bytes_at : List ℕ → ℕ → ℕ → List ℕ
bytes_at xs p zero = []
bytes_at xs p (suc k) = number (window xs p 8) ∷ bytes_at xs (p + 8) k

-- ---- numbers, low byte first
pub low_lt : (bs : List ℕ) → AllBytes bs → low_number bs < 256 ^ length bs
unfolding low_number
low_lt [] h = omega arith
low_lt (b ∷ bs) h = rw (pow-suc 256 (length bs)) (digits_lt (low_lt bs h.1) h.0)

pub low_bytes_number : (bs : List ℕ) → AllBytes bs → low_bytes (length bs) (low_number bs) ≡ bs
unfolding low_number low_bytes
low_bytes_number [] h = refl
low_bytes_number (b ∷ bs) h =
    ap₂ ◌∷◌ (digits_mod (low_number bs) h.0)
    (ap (low_bytes (length bs)) (digits_div (low_number bs) h.0) ∙ low_bytes_number bs h.1)

pub low_number_bytes : (k v : ℕ) → v < 256 ^ k → low_number (low_bytes k v) ≡ v
unfolding low_number low_bytes
low_number_bytes zero v h = omega arith
low_number_bytes (suc k) v h =
    rw (low_number_bytes k (v / 256) ((div-lt_iff_lt-mul (omega arith)).1 (rw (pow-suc 256 k) at h))) (div-add-mod' v 256)

pub low_all : (k v : ℕ) → AllBytes (low_bytes k v)
unfolding low_bytes
low_all zero v = tt
low_all (suc k) v = (mod-lt v (omega arith), low_all k (v / 256))

pub length_low : (k v : ℕ) → length (low_bytes k v) ≡ k
unfolding low_bytes
length_low zero v = refl
length_low (suc k) v = ap suc (length_low k (v / 256))

-- ---- numbers, high byte first: the number that all the bits spell
pub bits_lt : (bs : List ℕ) → number (bits_of bs) < 2 ^ (8 * length bs)
bits_lt bs = rw (length_bits bs) at (number_lt (bits_of bs))

-- the n bytes that bits are
unfoldable pub bytes_of : ℕ → List Bool → List ℕ
bytes_of zero cs = []
bytes_of (suc n) cs = number (take 8 cs) ∷ bytes_of n (drop 8 cs)

pub bits_of_bytes : (n : ℕ) (cs : List Bool) → length cs ≡ 8 * n → Bytes n (bytes_of n cs) cs
unfolding bytes_of bits_of
bits_of_bytes zero [] h = (refl, tt, refl)
bits_of_bytes zero (c ∷ cs) h = absurd (omega (arith, h))
bits_of_bytes (suc n) cs h =
    let l : length (take 8 cs) ≡ 8 = length-take-le 8 cs (omega (arith, h)) in
    let t = bits_of_bytes n (drop 8 cs) (length-drop 8 cs ∙ omega (arith, h)) in
    let d : digits 8 (number (take 8 cs)) ≡ take 8 cs = rw l at (digits_number (take 8 cs)) in
    (ap suc t.0, (rw l at (number_lt (take 8 cs)), t.1), sym (ap₂ ◌++◌ d (sym t.2) ∙ take-append-drop 8 cs))
