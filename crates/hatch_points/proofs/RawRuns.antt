-- A run of RD: read whole where it is there, refused after its last whole byte where it is not; and stores that pass a list's end.
-- Assumes nothing.
use mathlib.Core.Path.{◌≡◌, refl, sym, ap, ap₂, ◌∙◌}
use mathlib.Core.List.{List, [], ◌∷◌, ◌++◌}
use mathlib.Core.Logic.{⊎_elim}
use Prim.Native.Nat.{ℕ, zero, suc, ◌+◌, ◌-◌, ◌*◌, ◌/◌, ◌≤◌, ◌<◌, min}
use native.Mathlib.Omega.{arith}
use lib.ListN.{length, set}
use lib.Seq.{sets, length-sets}
use Rattle.std.specs.Prelude.{map}
use Rattle.std.proofs.lemmas.List.{length-map, map-append}
use Rattle.bitcursor.specs.declared.Refusal.TheVariants.{TooFewBits}
use Rattle.loads.specs.Bits.{size}
use Rattle.bitcursor.specs.Reading.{got, refused}
use Rattle.bitcursor.specs.Bytes.{le_or_lt}
use Rattle.loads.specs.Bytes.{low_number, bytes_at}
use Rattle.bitcursor.specs.Codes.{RD}
use Rattle.bitcursor.specs.Stops.{low_there, low_short}
use Rattle.bitcursor.specs.Format.{pure, ◌>>=◌, relay}
use Rattle.bitcursor.specs.Fields.{coded}
use Rattle.hatch_format.specs.Counts.{times, times_read}
use Rattle.hatch_points.specs.Gathered.{numbers, gathered}
use Rattle.hatch_points.specs.Walks.{raw_run}
use Rattle.hatch_points.specs.Stores.{raw_at}
use Rattle.hatch_points.proofs.Laws.{sets_append, sets_out}

pub length_raw : (xs : List ℕ) (p n : ℕ) → length (raw_at xs p n) ≡ n
unfolding raw_at
length_raw xs p zero = refl
length_raw xs p (suc n) = ap suc (length_raw xs (p + 64) n)

-- one RD more at the end
pub raw_snoc : (xs : List ℕ) (p n : ℕ) → raw_at xs p (n + 1) ≡ raw_at xs p n ++ (low_number (bytes_at xs (p + 64 * n) 8) ∷ [])
unfolding raw_at
raw_snoc xs p zero = ap (λ (q : ℕ). low_number (bytes_at xs q 8) ∷ []) (omega arith)
raw_snoc xs p (suc n) =
    let e : suc n + 1 ≡ suc (n + 1) = omega arith in
    let f : p + 64 + 64 * n ≡ p + 64 * suc n = omega arith in
    ap (raw_at xs p) e ∙ ap (λ (l : List ℕ). low_number (bytes_at xs p 8) ∷ l) (raw_snoc xs (p + 64) n)
    ∙ ap (λ (q : ℕ). low_number (bytes_at xs p 8) ∷ (raw_at xs (p + 64) n ++ (low_number (bytes_at xs q 8) ∷ []))) f

-- so one more is stored behind the first n
pub one_more : {N : Type 0} (of : ℕ → N) (xs : List ℕ) (p n i : ℕ) (l : List N)
    → set (sets l i (map of (raw_at xs p n))) (i + n) (of (low_number (bytes_at xs (p + 64 * n) 8))) ≡ sets l i (map of (raw_at xs p (n + 1)))
one_more of xs p n i l =
    sym (ap (λ (ns : List ℕ). sets l i (map of ns)) (raw_snoc xs p n) ∙ ap (sets l i) (map-append of (raw_at xs p n) _)
    ∙ sets_append l i (map of (raw_at xs p n)) _
    ∙ ap (λ (k : ℕ). set (sets l i (map of (raw_at xs p n))) (i + k) (of (low_number (bytes_at xs (p + 64 * n) 8))))
    (length-map (raw_at xs p n) of ∙ length_raw xs p n))

-- ---- n RD, and where they end or stop
RD_there : (xs : List ℕ) (p : ℕ) → 64 ≤ size xs - p → RD.read xs p ≡ got (low_number (bytes_at xs p 8)) (p + 64)
unfolding RD
RD_there xs p h = low_there 8 xs p h

RD_short : (xs : List ℕ) (p : ℕ) → size xs - p < 64 → RD.read xs p ≡ refused TooFewBits (p + (size xs - p) / 8 * 8)
unfolding RD
RD_short xs p h = low_short 8 xs p h

times_there : (xs : List ℕ) (n p : ℕ) → 64 * n ≤ size xs - p → (times n (coded RD)).read xs p ≡ got (raw_at xs p n) (p + 64 * n)
unfolding times times_read relay raw_at ◌>>=◌ pure
times_there xs zero p h = ap (got []) (omega arith)
times_there xs (suc n) p h =
    let e : p + 64 + 64 * n ≡ p + 64 * suc n = omega arith in
    rw (RD_there xs p (omega arith), times_there xs n (p + 64) (omega arith)) (ap (got (low_number (bytes_at xs p 8) ∷ raw_at xs (p + 64) n)) e)

times_short : (xs : List ℕ) (n p : ℕ) → size xs - p < 64 * n → (times n (coded RD)).read xs p ≡ refused TooFewBits (p + (size xs - p) / 8 * 8)
unfolding times times_read relay ◌>>=◌ pure
times_short xs zero p h = absurd (omega arith)
times_short xs (suc n) p h =
    ⊎_elim
    (λ (w : 64 ≤ size xs - p).
    let e : p + 64 + (size xs - (p + 64)) / 8 * 8 ≡ p + (size xs - p) / 8 * 8 = omega arith in
    rw (RD_there xs p w, times_short xs n (p + 64) (omega arith)) (ap (refused TooFewBits) e))
    (λ (w : size xs - p < 64). rw (RD_short xs p w))
    (le_or_lt 64 (size xs - p))

pub raw_there : (xs : List ℕ) (n p : ℕ) → 64 * n ≤ size xs - p → (raw_run n).read xs p ≡ got (numbers (raw_at xs p n)) (p + 64 * n)
unfolding raw_run ◌>>=◌ pure
raw_there xs n p h = ap (gathered numbers) (times_there xs n p h)

pub raw_short : (xs : List ℕ) (n p : ℕ) → size xs - p < 64 * n → (raw_run n).read xs p ≡ refused TooFewBits (p + (size xs - p) / 8 * 8)
unfolding raw_run ◌>>=◌ pure
raw_short xs n p h = ap (gathered numbers) (times_short xs n p h)

-- a run may end where the list does
module _ {A : Type 0} where
  sets_enough : (l : List A) (i : ℕ) (us vs : List A) → length l ≤ i + length us → sets l i us ≡ sets l i (us ++ vs)
  sets_enough l i us vs h = sym (sets_append l i us vs ∙ sets_out (sets l i us) (i + length us) vs (omega (arith, length-sets l i us)))

pub raw_add : (xs : List ℕ) (p m n : ℕ) → raw_at xs p (m + n) ≡ raw_at xs p m ++ raw_at xs (p + 64 * m) n
unfolding raw_at
raw_add xs p zero n =
    let e : 0 + n ≡ n = omega arith in
    let f : p ≡ p + 64 * 0 = omega arith in
    ap₂ (raw_at xs) f e
raw_add xs p (suc m) n =
    let e : suc m + n ≡ suc (m + n) = omega arith in
    let f : p + 64 + 64 * m ≡ p + 64 * suc m = omega arith in
    ap (raw_at xs p) e ∙ ap (λ (l : List ℕ). low_number (bytes_at xs p 8) ∷ l) (raw_add xs (p + 64) m n)
    ∙ ap (λ (q : ℕ). low_number (bytes_at xs p 8) ∷ (raw_at xs (p + 64) m ++ raw_at xs q n)) f

-- m of n RD are stored, as many as the list has room for: that is the same as n stores
module _ (xs : List ℕ) (p n m i : ℕ) where
  split : m ≤ n → raw_at xs p n ≡ raw_at xs p m ++ raw_at xs (p + 64 * m) (n - m)
  split le = let e : n ≡ m + (n - m) = omega arith in ap (raw_at xs p) e ∙ raw_add xs p m (n - m)

  pub enough : {N : Type 0} (of : ℕ → N) (l : List N) → m ≡ min n (length l - i) → sets l i (map of (raw_at xs p m)) ≡ sets l i (map of (raw_at xs p n))
  enough of l h =
      ⊎_elim
      (λ (w : n ≤ length l - i). let e : m ≡ n = omega arith in ap (λ (k : ℕ). sets l i (map of (raw_at xs p k))) e)
      (λ (w : length l - i < n).
      sets_enough l i (map of (raw_at xs p m)) (map of (raw_at xs (p + 64 * m) (n - m)))
      (omega (arith, length-map (raw_at xs p m) of, length_raw xs p m))
      ∙ ap (sets l i) (sym (ap (map of) (split (omega arith)) ∙ map-append of (raw_at xs p m) (raw_at xs (p + 64 * m) (n - m)))))
      (le_or_lt n (length l - i))

-- and where there is room for none, nothing changes
pub none_enough : {N : Type 0} (of : ℕ → N) (xs : List ℕ) (p n i : ℕ) (l : List N) → min n (length l - i) ≡ 0 → sets l i (map of (raw_at xs p n)) ≡ l
unfolding raw_at
none_enough of xs p n i l h = sym (enough xs p n 0 i of l (sym h))

-- none are there everywhere
pub raw_zero : (xs : List ℕ) (n p : ℕ) → n ≡ 0 → (raw_run n).read xs p ≡ got (numbers []) p
unfolding raw_at
raw_zero xs n p e =
    let stays : p + 64 * 0 ≡ p = omega arith in
    ap (λ (k : ℕ). (raw_run k).read xs p) e ∙ raw_there xs 0 p (omega arith) ∙ ap (got (numbers [])) stays
