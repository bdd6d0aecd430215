-- The range of each code's values, from its table of codes. Assumes nothing.
use Rattle.std.specs.Prelude.{◌≡◌, refl, Bool, List, ℕ, zero, suc, ◌+◌, ◌*◌, ◌^◌, ◌≤◌, ◌<◌}
use Rattle.std.proofs.Common.{subst, ◌∙◌, lt_of_lt_of_le, pow-suc, arith, pow-add, pow_mono}
use Rattle.bitcursor.specs.Reading.{got}
use Rattle.bitcursor.specs.Code.{Code, raw, tabled}
use Rattle.bitcursor.specs.Bytes.{low_first, high_first}
use Rattle.bitcursor.specs.Codes.{BS, BS_codes, BS_00, BS_01, BS_10, BS_11}
use Rattle.bitcursor.specs.Doubles.{BD, BD_codes, BD_00, BD_01, BD_10, DD, DD_codes, DD_00, DD_01, DD_10, DD_11}
use Rattle.bitcursor.specs.declared.Handle.{Handle}
use Rattle.bitcursor.specs.Handles.{BLL, BLL_codes, BLL_of, HANDLE, HANDLE_codes, HANDLE_of}

pub bytes_pow : (k : ℕ) → 256 ^ k ≡ 2 ^ (8 * k)
bytes_pow zero = refl
bytes_pow (suc k) =
    let e : 8 * suc k ≡ 8 * k + 8 = omega arith in
    pow-suc 256 k ∙ rw (e, pow-add 2 (8 * k) 8, bytes_pow k)

-- every value of the code is below n
abbrev pub Below : ℕ → Code ℕ → Type 0
Below n c = (v : ℕ) (cs : List Bool) → c.codes v cs → v < n

-- so every value that is read is
pub read_below : {n : ℕ} (c : Code ℕ) → Below n c → (xs : List ℕ) (p : ℕ) {v q : ℕ} → c.read xs p ≡ got v q → v < n
read_below c b xs p {v} {q} e = let l = c.sound xs v p q e in b v l.code l.listed

pub raw_below : (n : ℕ) → Below (2 ^ n) (raw n)
unfolding raw
raw_below n v cs l = l.0

pub low_below : (k : ℕ) → Below (256 ^ k) (low_first k)
unfolding low_first tabled
low_below k v cs l = l.0

pub high_below : (k : ℕ) → Below (2 ^ (8 * k)) (high_first k)
unfolding high_first tabled
high_below k v cs l = l.0

pub BS_below : Below (2 ^ 16) BS
unfolding BS tabled
BS_below v cs l = go v cs l
  where
    go : (v : ℕ) (cs : List Bool) → BS_codes v cs → v < 2 ^ 16
    go v cs (BS_00 h) = h
    go v cs (BS_01 h) = omega arith
    go v cs BS_10 = omega arith
    go v cs BS_11 = omega arith

pub BD_below : Below (2 ^ 64) BD
unfolding BD tabled
BD_below v cs l = go v cs l
  where
    go : (v : ℕ) (cs : List Bool) → BD_codes v cs → v < 2 ^ 64
    go v cs (BD_00 h) = h
    go v cs BD_01 = omega arith
    go v cs BD_10 = omega arith

pub DD_below : (d : ℕ) → d < 2 ^ 64 → Below (2 ^ 64) (DD d)
unfolding DD tabled
DD_below d hd v cs l = go v cs l
  where
    go : (v : ℕ) (cs : List Bool) → DD_codes d v cs → v < 2 ^ 64
    go v cs DD_00 = hd
    go v cs (DD_01 h) = omega arith
    go v cs (DD_10 h k) = omega arith
    go v cs (DD_11 h) = h

pub BLL_below : Below (2 ^ 56) BLL
unfolding BLL tabled
BLL_below v cs l = go v cs l
  where
    go : (v : ℕ) (cs : List Bool) → BLL_codes v cs → v < 2 ^ 56
    go v cs (BLL_of {k = k} h j) = lt_of_lt_of_le (subst (λ (n : ℕ). v < n) (bytes_pow k) j) (pow_mono {j = 56} (omega arith))

-- a handle: a nibble, at most 8, and what that many bytes hold
pub HANDLE_range : (h : Handle) (cs : List Bool) → HANDLE.codes h cs → (h.code < 16) × (h.counter ≤ 8) × (h.value < 2 ^ (8 * h.counter))
unfolding HANDLE tabled
HANDLE_range h cs l = go h cs l
  where
    go : (h : Handle) (cs : List Bool) → HANDLE_codes h cs → (h.code < 16) × (h.counter ≤ 8) × (h.value < 2 ^ (8 * h.counter))
    go h cs (HANDLE_of a b c) = (a, b, c)
