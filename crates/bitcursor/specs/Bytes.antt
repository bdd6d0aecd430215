-- Bytes at any bit: the next k of them, and the numbers that they are, low byte first or high byte first. One law over the
-- count says where they end and where they stop when cut short. Assumes nothing.
use Rattle.std.specs.Prelude.{◌≡◌, refl, Bool, List, [], ◌∷◌, ◌++◌, ◌⊎◌, ℕ, zero, suc, ◌+◌, ◌-◌, ◌*◌, ◌/◌, ◌^◌, ◌≤◌, ◌<◌, length}
use Rattle.std.proofs.Common.{sym, ap, ap₂, ◌∙◌, append-nil, ⊎_elim, inl, inr, zero-le, suc-le-suc, mod-eq_of_lt, not-suc-le-zero, arith, le-leb}
use Rattle.std.proofs.lemmas.Bool.{lt-leb}
use Rattle.loads.specs.Bits.{bits_of, size, window, number, digits}
use Rattle.loads.specs.BitLaws.{length_bits, length_digits, number_digits, digits_number}
use Rattle.loads.specs.Bytes.{Bytes, low_number, low_bytes, bytes_at, low_lt, low_bytes_number, low_number_bytes, low_all, length_low}
use Rattle.loads.specs.Bytes.{bits_lt, bytes_of, bits_of_bytes}
use Rattle.bitcursor.specs.declared.Refusal.TheVariants.{TooFewBits}
use Rattle.bitcursor.specs.Reading.{got, refused}
use Rattle.bitcursor.specs.Code.{Code, give, raw, ◌>>=◌, tabled, mapped}

-- ---- the next k bytes, each read by itself
unfoldable pub bytes_read : ℕ → Code (List ℕ)
bytes_read zero = give []
bytes_read (suc k) = raw 8 >>= λ b. bytes_read k >>= λ bs. give (b ∷ bs)

pub bytes_to : (k : ℕ) (bs : List ℕ) (cs : List Bool) → (bytes_read k).codes bs cs → Bytes k bs cs
unfolding bytes_read raw give ◌>>=◌ bits_of
bytes_to zero bs cs l = rw (l.0, l.1) (refl, tt, refl)
bytes_to (suc k) bs cs l =
    let b = l.0 in
    let r = l.4.0 in
    let t = bytes_to k r l.4.1 l.4.3 in
    let e : l.2 ≡ bits_of r = l.4.5 ∙ ap₂ ◌++◌ t.2 l.4.4.1 ∙ append-nil (bits_of r) in
    rw l.4.4.0 (ap suc t.0, (l.3.0, t.1), l.5 ∙ ap₂ ◌++◌ l.3.1 e)

pub bytes_from : (k : ℕ) (bs : List ℕ) (cs : List Bool) → Bytes k bs cs → (bytes_read k).codes bs cs
unfolding bytes_read raw give ◌>>=◌ bits_of
bytes_from zero [] cs l = (refl, l.2)
bytes_from zero (b ∷ bs) cs l = absurd (omega (arith, l.0))
bytes_from (suc k) [] cs l = absurd (omega (arith, l.0))
bytes_from (suc k) (b ∷ bs) cs l = (
  b,
  digits 8 b,
  bits_of bs,
  (l.1.0, refl),
  (bs, bits_of bs, [], bytes_from k bs (bits_of bs) (omega (arith, l.0), l.1.1, refl), (refl, refl), sym (append-nil (bits_of bs))),
  l.2,
)

unfoldable pub bytes : ℕ → Code (List ℕ)
bytes k = tabled (bytes_read k) (Bytes k) (bytes_to k) (bytes_from k)

-- ---- where k bytes are there, and where they are cut short
pub raw_there : (n : ℕ) (xs : List ℕ) (p : ℕ) → n ≤ size xs - p → (raw n).read xs p ≡ got (number (window xs p n)) (p + n)
unfolding raw
raw_there n xs p h = rw (le-leb n (size xs - p) h)

pub raw_short : (n : ℕ) (xs : List ℕ) (p : ℕ) → size xs - p < n → (raw n).read xs p ≡ refused TooFewBits p
unfolding raw
raw_short n xs p h = rw (lt-leb n (size xs - p) h)

pub bytes_there : (k : ℕ) (xs : List ℕ) (p : ℕ) → 8 * k ≤ size xs - p → (bytes k).read xs p ≡ got (bytes_at xs p k) (p + 8 * k)
unfolding bytes tabled bytes_read bytes_at give ◌>>=◌
bytes_there zero xs p h = ap (got []) (omega arith)
bytes_there (suc k) xs p h =
    let e : p + 8 + 8 * k ≡ p + 8 * suc k = omega arith in
    rw (raw_there 8 xs p (omega arith), bytes_there k xs (p + 8) (omega arith), e)

pub le_or_lt : (a b : ℕ) → (a ≤ b) ⊎ (b < a)
le_or_lt zero b = inl zero-le
le_or_lt (suc a) zero = inr (suc-le-suc zero-le)
le_or_lt (suc a) (suc b) = ⊎_elim (λ p. inl (suc-le-suc p)) (λ q. inr (suc-le-suc q)) (le_or_lt a b)

-- cut short: after the last whole byte
pub bytes_short : (k : ℕ) (xs : List ℕ) (p : ℕ) → size xs - p < 8 * k → (bytes k).read xs p ≡ refused TooFewBits (p + (size xs - p) / 8 * 8)
unfolding bytes tabled bytes_read ◌>>=◌
bytes_short zero xs p h = absurd (not-suc-le-zero h)
bytes_short (suc k) xs p h =
    ⊎_elim
    (λ (w : 8 ≤ size xs - p).
    let e : p + 8 + (size xs - (p + 8)) / 8 * 8 ≡ p + (size xs - p) / 8 * 8 = omega arith in
    rw (raw_there 8 xs p w, bytes_short k xs (p + 8) (omega arith), e))
    (λ (w : size xs - p < 8).
    let e : p + (size xs - p) / 8 * 8 ≡ p = omega arith in
    rw (raw_short 8 xs p w, e))
    (le_or_lt 8 (size xs - p))

-- ---- numbers, low byte first
-- k bytes of v, the low one first
abbrev pub LowFirst : ℕ → ℕ → List Bool → Type 0
LowFirst k v cs = (v < 256 ^ k) × (cs ≡ bits_of (low_bytes k v))

pub low_to : (k v : ℕ) (cs : List Bool) → (mapped low_number (bytes k)).codes v cs → LowFirst k v cs
unfolding mapped tabled bytes
low_to k v cs l =
    let bs = l.0 in
    let all = l.1.1 in
    rw (l.2, ← l.1.0) (low_lt bs all, l.1.2 ∙ ap bits_of (sym (low_bytes_number bs all)))

pub low_from : (k v : ℕ) (cs : List Bool) → LowFirst k v cs → (mapped low_number (bytes k)).codes v cs
unfolding mapped tabled bytes
low_from k v cs l = (low_bytes k v, (length_low k v, low_all k v, l.1), sym (low_number_bytes k v l.0))

unfoldable pub low_first : ℕ → Code ℕ
low_first k = tabled (mapped low_number (bytes k)) (LowFirst k) (low_to k) (low_from k)

-- ---- numbers, high byte first: the number that all the bits spell
abbrev pub HighFirst : ℕ → ℕ → List Bool → Type 0
HighFirst k v cs = (v < 2 ^ (8 * k)) × (cs ≡ digits (8 * k) v)

pub high_to : (k v : ℕ) (cs : List Bool) → (mapped (λ bs. number (bits_of bs)) (bytes k)).codes v cs → HighFirst k v cs
unfolding mapped tabled bytes
high_to k v cs l =
    let bs = l.0 in
    let d : digits (size bs) (number (bits_of bs)) ≡ bits_of bs = rw (length_bits bs) at (digits_number (bits_of bs)) in
    rw (l.2, ← l.1.0) (bits_lt bs, l.1.2 ∙ sym d)

pub high_from : (k v : ℕ) (cs : List Bool) → HighFirst k v cs → (mapped (λ bs. number (bits_of bs)) (bytes k)).codes v cs
unfolding mapped tabled bytes
high_from k v cs l =
    let b = bits_of_bytes k cs (ap length l.1 ∙ length_digits (8 * k) v) in
    (bytes_of k cs, b, sym (ap number (sym b.2 ∙ l.1) ∙ number_digits (8 * k) v ∙ mod-eq_of_lt l.0))

unfoldable pub high_first : ℕ → Code ℕ
high_first k = tabled (mapped (λ bs. number (bits_of bs)) (bytes k)) (HighFirst k) (high_to k) (high_from k)

-- ---- n bytes passed over, whatever they are
abbrev pub Skipped : ℕ → Unit {0} → List Bool → Type 0
Skipped n u cs = length cs ≡ 8 * n

pub skip_to : (n : ℕ) (u : Unit {0}) (cs : List Bool) → (mapped (λ bs. tt {0}) (bytes n)).codes u cs → Skipped n u cs
unfolding mapped tabled bytes
skip_to n u cs l = ap length l.1.2 ∙ length_bits l.0 ∙ ap (λ (k : ℕ). 8 * k) l.1.0

pub skip_from : (n : ℕ) (u : Unit {0}) (cs : List Bool) → Skipped n u cs → (mapped (λ bs. tt {0}) (bytes n)).codes u cs
unfolding mapped tabled bytes
skip_from n u cs l = (bytes_of n cs, bits_of_bytes n cs l, refl)

unfoldable pub skip : ℕ → Code (Unit {0})
skip n = tabled (mapped (λ bs. tt {0}) (bytes n)) (Skipped n) (skip_to n) (skip_from n)
