-- Where codes end and where they stop when cut short: bits test the bits left, bytes stop after the last whole one. Assumes nothing.
use Rattle.std.specs.Prelude.{◌≡◌, refl, Bool, true, false, ◌⊎◌, ℕ, zero, suc, ◌+◌, ◌-◌, ◌*◌, ◌/◌, ◌≤◌, ◌<◌, leb}
use Rattle.std.proofs.Common.{sym, ap₂, subst, ◌∙◌, ⊎_elim, inl, inr, arith}
use Rattle.std.proofs.Math.Path.{ap}
use mathlib.Core.List.{List, ◌++◌}
use Rattle.bitcursor.specs.declared.Refusal.{Refusal}
use Rattle.bitcursor.specs.declared.Refusal.TheVariants.{TooFewBits, ReservedTag, HandleCounter}
use Rattle.loads.specs.Bits.{bits_of, size, window, number, digits}
use Rattle.loads.specs.BitLaws.{digits_number, window_whole, window_add}
use Rattle.bitcursor.specs.Refusals.{OfFields}
use Rattle.bitcursor.specs.Reading.{Out, got, refused, place, and_then, never}
use Rattle.bitcursor.specs.Code.{Code, Moves, give, refuse, raw, ◌>>=◌, tabled, mapped}
use Rattle.bitcursor.specs.Bytes.{bytes, low_first, high_first, skip, raw_there, raw_short, bytes_there, bytes_short, le_or_lt}
use Rattle.loads.specs.Bytes.{low_number, bytes_at}
use Rattle.bitcursor.specs.Codes.{by_tag, tagged, BS, BS_read, BL, BL_read}
use Rattle.bitcursor.specs.Doubles.{one_pattern, BD, BD_read, DD, DD_read, low4, low6, four, six}
use Rattle.bitcursor.specs.Handles.{BLL, BLL_read, checked, handle, HANDLE, HANDLE_value, HANDLE_read}

-- ---- k bytes, whatever is made of them: one law over the count
module _ {A : Type 0} (f : List ℕ → A) (k : ℕ) (xs : List ℕ) (p : ℕ) where
  pub counted_there : 8 * k ≤ size xs - p → (mapped f (bytes k)).read xs p ≡ got (f (bytes_at xs p k)) (p + 8 * k)
  unfolding mapped tabled ◌>>=◌ give
  counted_there h = rw (bytes_there k xs p h)

  pub counted_short : size xs - p < 8 * k → (mapped f (bytes k)).read xs p ≡ refused TooFewBits (p + (size xs - p) / 8 * 8)
  unfolding mapped tabled ◌>>=◌ give
  counted_short h = rw (bytes_short k xs p h)

-- the bits of the bytes at a place are the bits there
bits_at : (k : ℕ) (xs : List ℕ) (p : ℕ) → 8 * k ≤ size xs - p → bits_of (bytes_at xs p k) ≡ window xs p (8 * k)
unfolding bits_of bytes_at window
bits_at zero xs p h = refl
bits_at (suc k) xs p h =
    let e : 8 * suc k ≡ 8 + 8 * k = omega arith in
    let d : digits 8 (number (window xs p 8)) ≡ window xs p 8 = rw (window_whole xs p 8 (omega arith)) at (digits_number (window xs p 8)) in
    ap₂ ◌++◌ d (bits_at k xs (p + 8) (omega arith)) ∙ sym (window_add xs p 8 (8 * k)) ∙ ap (window xs p) (sym e)

module _ (k : ℕ) (xs : List ℕ) (p : ℕ) where
  pub low_there : 8 * k ≤ size xs - p → (low_first k).read xs p ≡ got (low_number (bytes_at xs p k)) (p + 8 * k)
  unfolding low_first tabled
  low_there h = counted_there low_number k xs p h

  pub low_short : size xs - p < 8 * k → (low_first k).read xs p ≡ refused TooFewBits (p + (size xs - p) / 8 * 8)
  unfolding low_first tabled
  low_short h = counted_short low_number k xs p h

  pub high_there : 8 * k ≤ size xs - p → (high_first k).read xs p ≡ got (number (window xs p (8 * k))) (p + 8 * k)
  unfolding high_first tabled
  high_there h = counted_there (λ bs. number (bits_of bs)) k xs p h ∙ ap (λ (cs : List Bool). got (number cs) (p + 8 * k)) (bits_at k xs p h)

  pub high_short : size xs - p < 8 * k → (high_first k).read xs p ≡ refused TooFewBits (p + (size xs - p) / 8 * 8)
  unfolding high_first tabled
  high_short h = counted_short (λ bs. number (bits_of bs)) k xs p h

  pub skip_there : 8 * k ≤ size xs - p → (skip k).read xs p ≡ got tt (p + 8 * k)
  unfolding skip tabled
  skip_there h = counted_there (λ bs. tt {0}) k xs p h

  pub skip_short : size xs - p < 8 * k → (skip k).read xs p ≡ refused TooFewBits (p + (size xs - p) / 8 * 8)
  unfolding skip tabled
  skip_short h = counted_short (λ bs. tt {0}) k xs p h

-- ---- a place past the end, or at it: too few bits, there
pub past_raw : (n : ℕ) (xs : List ℕ) (p : ℕ) → 0 < n → size xs ≤ p → (raw n).read xs p ≡ refused TooFewBits p
past_raw n xs p h e = raw_short n xs p (omega arith)

pub past_low : (k : ℕ) (xs : List ℕ) (p : ℕ) → 0 < k → size xs ≤ p → (low_first k).read xs p ≡ refused TooFewBits p
past_low k xs p h e =
    let m : p + (size xs - p) / 8 * 8 ≡ p = omega arith in
    low_short k xs p (omega arith) ∙ ap (refused TooFewBits) m

-- every code that opens with bits: BS, BL, BD, DD (two), BLL (three), handles (four)
pub past_opened : {A : Type 0} (n : ℕ) (g : ℕ → Code A) (xs : List ℕ) (p : ℕ) → 0 < n → size xs ≤ p → (raw n >>= g).read xs p ≡ refused TooFewBits p
unfolding ◌>>=◌
past_opened n g xs p h e = rw (past_raw n xs p h e)

pub BS_past : (xs : List ℕ) (p : ℕ) → size xs ≤ p → BS.read xs p ≡ refused TooFewBits p
unfolding BS tabled BS_read tagged
BS_past xs p e = past_opened 2 _ xs p (omega arith) e

-- so what such a code reads ends inside the payload
pub ends_inside : {A : Type 0} (c : Code A) → ((xs : List ℕ) (p : ℕ) → size xs ≤ p → c.read xs p ≡ refused TooFewBits p)
    → (xs : List ℕ) (p : ℕ) {a : A} {q : ℕ} → c.read xs p ≡ got a q → (p ≤ q) × (q ≤ size xs)
ends_inside c past xs p {a} {q} e =
    ⊎_elim
    (λ (w : size xs ≤ p). never (sym (past xs p w) ∙ e))
    (λ (w : p < size xs).
    let m = subst (λ (o : Out ℕ _). Moves xs p (place o)) e (c.grows xs p) in
    (omega arith, omega arith))
    (le_or_lt (size xs) p)

-- ---- how each code can be refused, and where
-- a refusal r at q of a reading from p
abbrev pub Stop : Type 1
Stop = List ℕ → ℕ → Refusal → ℕ → Type 0

abbrev pub Stops : {A : Type 0} → Code A → Stop → Type 0
Stops c S = (xs : List ℕ) (p : ℕ) (r : Refusal) (q : ℕ) → c.read xs p ≡ refused r q → S xs p r q

-- too few bits, after the last whole byte
abbrev pub AfterBytes : Stop
AfterBytes xs p r q = (r ≡ TooFewBits) × (q ≡ p + (size xs - p) / 8 * 8)

-- the refusal n at the place
abbrev pub AtPlace : Refusal → Stop
AtPlace n xs p r q = (r ≡ n) × (q ≡ p)

abbrev pub Or : Stop → Stop → Stop
Or S U xs p r q = S xs p r q ⊎ U xs p r q

-- n bits are missing, at the place; or they are there and the rest stops so
abbrev pub Behind : ℕ → Stop → Stop
Behind n S xs p r q = (AtPlace TooFewBits xs p r q × (size xs - p < n)) ⊎ ((n ≤ size xs - p) × S xs (p + n) r q)

pub stops_give : {A : Type 0} (a : A) (S : Stop) → Stops (give a) S
unfolding give
stops_give a S xs p r q e = never (sym e)

pub stops_refuse : {A : Type 0} (n : Refusal) (of_Fields : OfFields n) → Stops (refuse {A = A} n of_Fields) (AtPlace n)
unfolding refuse
stops_refuse n of_Fields xs p r q e = (cc, cc)

pub stops_mapped : {A B : Type 0} (f : A → B) (c : Code A) (S : Stop) → Stops c S → Stops (mapped f c) S
unfolding mapped tabled ◌>>=◌ give
stops_mapped {A} {B} f c S s xs p r q e = go (c.read xs p) refl e
  where
    go : (o : Out ℕ A) → c.read xs p ≡ o → and_then o (λ a t. got (f a) t) ≡ refused r q → S xs p r q
    go (got a t) h m = never (sym m)
    go (refused n t) h m =
        let e : n ≡ r = cc in
        let d : t ≡ q = cc in
        s xs p r q (h ∙ ap₂ refused e d)

pub stops_low : (k : ℕ) → Stops (low_first k) AfterBytes
stops_low k xs p r q e =
    ⊎_elim
    (λ (w : 8 * k ≤ size xs - p). never (sym e ∙ low_there k xs p w))
    (λ (w : size xs - p < 8 * k). let m = sym e ∙ low_short k xs p w in (cc, cc))
    (le_or_lt (8 * k) (size xs - p))

pub stops_high : (k : ℕ) → Stops (high_first k) AfterBytes
stops_high k xs p r q e =
    ⊎_elim
    (λ (w : 8 * k ≤ size xs - p). never (sym e ∙ high_there k xs p w))
    (λ (w : size xs - p < 8 * k). let m = sym e ∙ high_short k xs p w in (cc, cc))
    (le_or_lt (8 * k) (size xs - p))

-- n bits, and then what they pick
pub stops_behind : {A : Type 0} (n : ℕ) (g : ℕ → Code A) (S : Stop) → ((t : ℕ) → Stops (g t) S) → Stops (raw n >>= g) (Behind n S)
unfolding ◌>>=◌
stops_behind n g S s xs p r q e =
    ⊎_elim
    (λ (w : n ≤ size xs - p).
    let m = sym (ap (λ (o : Out ℕ ℕ). and_then o (λ t m. (g t).read xs m)) (raw_there n xs p w)) ∙ e in
    inr (w, s (number (window xs p n)) xs (p + n) r q m))
    (λ (w : size xs - p < n). let m = sym e ∙ ap (λ (o : Out ℕ ℕ). and_then o (λ t m. (g t).read xs m)) (raw_short n xs p w) in inl ((cc, cc), w))
    (le_or_lt n (size xs - p))

pub stops_tag : {A : Type 0} (a b c d : Code A) (S : Stop) → Stops a S → Stops b S → Stops c S → Stops d S → (t : ℕ) → Stops (by_tag a b c d t) S
unfolding by_tag
stops_tag a b c d S sa sb sc sd zero = sa
stops_tag a b c d S sa sb sc sd (suc zero) = sb
stops_tag a b c d S sa sb sc sd (suc (suc zero)) = sc
stops_tag a b c d S sa sb sc sd (suc (suc (suc t))) = sd

pub stops_left : {A : Type 0} (c : Code A) (S U : Stop) → Stops c S → Stops c (Or S U)
stops_left c S U s xs p r q e = inl (s xs p r q e)

pub stops_right : {A : Type 0} (c : Code A) (S U : Stop) → Stops c U → Stops c (Or S U)
stops_right c S U s xs p r q e = inr (s xs p r q e)

-- two runs of bytes stop as one
pub stops_six : (d : ℕ) → Stops (six d) AfterBytes
unfolding six ◌>>=◌
stops_six d xs p r q e =
    ⊎_elim
    (λ (w : 16 ≤ size xs - p).
    let m = stops_mapped (low6 d (low_number (bytes_at xs p 2))) (low_first 4) AfterBytes (stops_low 4) xs (p + 16) r q
    (sym (ap (λ (o : Out ℕ ℕ). and_then o (λ u t. (mapped (low6 d u) (low_first 4)).read xs t)) (low_there 2 xs p w)) ∙ e) in
    (m.0, m.1 ∙ omega arith))
    (λ (w : size xs - p < 16).
    let m = sym e ∙ ap (λ (o : Out ℕ ℕ). and_then o (λ u t. (mapped (low6 d u) (low_first 4)).read xs t)) (low_short 2 xs p w) in (cc, cc))
    (le_or_lt 16 (size xs - p))

-- ---- code by code
pub BS_stops : Stops BS (Behind 2 AfterBytes)
unfolding BS tabled BS_read tagged
BS_stops =
    stops_behind 2 _ AfterBytes
    (stops_tag (low_first 2) (low_first 1) (give 0) (give 256) AfterBytes (stops_low 2) (stops_low 1) (stops_give 0 AfterBytes) (stops_give 256 AfterBytes))

-- BL and BD: the bytes cut short, or the tag 11, right after it
abbrev pub Reserved : Stop
Reserved = Or AfterBytes (AtPlace ReservedTag)

pub BL_stops : Stops BL (Behind 2 Reserved)
unfolding BL BL_read tagged
BL_stops =
    stops_behind 2 _ Reserved
    (stops_tag (low_first 4) (low_first 1) (give 0) (refuse ReservedTag tt) Reserved
    (stops_left (low_first 4) AfterBytes (AtPlace ReservedTag) (stops_low 4)) (stops_left (low_first 1) AfterBytes (AtPlace ReservedTag) (stops_low 1))
    (stops_give 0 Reserved) (stops_right (refuse ReservedTag tt) AfterBytes (AtPlace ReservedTag) (stops_refuse ReservedTag tt)))

pub BD_stops : Stops BD (Behind 2 Reserved)
unfolding BD tabled BD_read tagged
BD_stops =
    stops_behind 2 _ Reserved
    (stops_tag (low_first 8) (give one_pattern) (give 0) (refuse ReservedTag tt) Reserved
    (stops_left (low_first 8) AfterBytes (AtPlace ReservedTag) (stops_low 8)) (stops_give one_pattern Reserved)
    (stops_give 0 Reserved) (stops_right (refuse ReservedTag tt) AfterBytes (AtPlace ReservedTag) (stops_refuse ReservedTag tt)))

pub DD_stops : (d : ℕ) → Stops (DD d) (Behind 2 AfterBytes)
unfolding DD tabled DD_read tagged four
DD_stops d =
    stops_behind 2 _ AfterBytes
    (stops_tag (give d) (four d) (six d) (low_first 8) AfterBytes
    (stops_give d AfterBytes) (stops_mapped (low4 d) (low_first 4) AfterBytes (stops_low 4)) (stops_six d) (stops_low 8))

pub BLL_stops : Stops BLL (Behind 3 AfterBytes)
unfolding BLL tabled BLL_read
BLL_stops = stops_behind 3 low_first AfterBytes stops_low

-- a handle: the code nibble, the counter nibble, then the counter above 8 or the bytes cut short
abbrev pub Counted : Stop
Counted = Or AfterBytes (AtPlace HandleCounter)

pub stops_checked : {A : Type 0} (b : Bool) (c d : Code A) (S : Stop) → Stops c S → Stops d S → Stops (checked b c d) S
unfolding checked
stops_checked true c d S sc sd = sc
stops_checked false c d S sc sd = sd

HANDLE_value_stops : (code counter : ℕ) → Stops (HANDLE_value code counter) Counted
unfolding HANDLE_value
HANDLE_value_stops code counter =
    stops_checked (leb counter 8) (mapped (handle code counter) (high_first counter)) (refuse HandleCounter tt) Counted
    (stops_left (mapped (handle code counter) (high_first counter)) AfterBytes (AtPlace HandleCounter)
    (stops_mapped (handle code counter) (high_first counter) AfterBytes (stops_high counter)))
    (stops_right (refuse HandleCounter tt) AfterBytes (AtPlace HandleCounter) (stops_refuse HandleCounter tt))

pub HANDLE_stops : Stops HANDLE (Behind 4 (Behind 4 Counted))
unfolding HANDLE tabled HANDLE_read
HANDLE_stops = stops_behind 4 _ (Behind 4 Counted) (λ code. stops_behind 4 (HANDLE_value code) Counted (HANDLE_value_stops code))
