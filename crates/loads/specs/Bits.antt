-- The bits of a payload, top bit of each byte first; its size and its limit; a window of bits; the number that bits spell, and back.
-- Assumes nothing.
use Rattle.std.specs.Prelude.{◌≡◌, Bool, true, false, List, [], ◌∷◌, ◌++◌, ℕ, zero, suc, ◌+◌, ◌*◌, ◌/◌, ◌%◌, ◌^◌, ◌<◌, length, take, drop, get_or, eqb, leb, Option, Some, None}

-- the lowest bit of a number
abbrev pub odd : ℕ → Bool
odd n = eqb (n % 2) 1

-- a bit, as a number
abbrev pub bit : Bool → ℕ
bit true = 1
bit false = 0

-- the number that bits spell, the first the highest
unfoldable pub number : List Bool → ℕ
number [] = 0
number (b ∷ bs) = bit b * 2 ^ length bs + number bs

-- the n binary digits of a number, the highest first
unfoldable pub digits : ℕ → ℕ → List Bool
digits zero v = []
digits (suc n) v = odd (v / 2 ^ n) ∷ digits n v

-- the bits of a payload of bytes: eight to a byte, the top one first
unfoldable pub bits_of : List ℕ → List Bool
bits_of [] = []
bits_of (b ∷ xs) = digits 8 b ++ bits_of xs

-- how many bits a payload has (`length_bits`: the length of its bits)
abbrev pub size : List ℕ → ℕ
size xs = 8 * length xs

-- document 01's limit of a payload, in bytes
abbrev pub limit : ℕ
limit = 268_435_456

-- bytes as a payload: none above the limit
abbrev pub within_limit : List ℕ → Option (List ℕ)
within_limit xs = elim (leb (length xs) limit) [ true ↦ Some xs | false ↦ None ]

-- bit i of a payload, from 0
unfoldable pub bit_at : List ℕ → ℕ → Bool
bit_at xs i = get_or (bits_of xs) i false

-- the n bits from place p on, or as many as there are
unfoldable pub window : List ℕ → ℕ → ℕ → List Bool
window xs p n = take n (drop p (bits_of xs))

-- from place p on the payload has the bits cs
abbrev pub Stands : List ℕ → ℕ → List Bool → Type 0
Stands xs p cs = window xs p (length cs) ≡ cs

-- two payloads of one length that have the same bits before place q
pub record Alike (xs ys : List ℕ) (q : ℕ) : Type 0 where
  pub lengths : length ys ≡ length xs
  pub bits : (i : ℕ) → i < q → bit_at ys i ≡ bit_at xs i

-- the payload ys begins with the payload xs
pub record Begins (xs ys : List ℕ) : Type 0 where
  pub rest : List ℕ
  pub whole : ys ≡ xs ++ rest
