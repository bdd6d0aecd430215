-- What a count is at each test of `bounds_check`, and fields in a row: each is read where the one before ended, and a refusal stays.
-- Assumes nothing.
use Rattle.std.specs.Prelude.{◌≡◌, refl, List, ℕ, ◌-◌, ◌≤◌, ◌<◌, Bool, eqb}
use Rattle.std.proofs.Common.{ap, sym, ◌∙◌, arith, le-leb}
use Rattle.std.proofs.lemmas.Bool.{lt-leb}
use Rattle.bitcursor.specs.declared.Refusal.TheVariants.{CountTooLarge}
use Rattle.loads.specs.Bits.{size}
use Rattle.bitcursor.specs.Reading.{Out, got, refused, and_then, never}
use Rattle.bitcursor.specs.Code.{Code, raw, ◌>>=◌ as ◌then◌, give, mapped, tabled}
use Rattle.bitcursor.specs.Codes.{B, B_read}
use Rattle.bitcursor.specs.Format.{Format, ◌>>=◌}
use Rattle.bitcursor.specs.Inputs.{one}
use Rattle.bitcursor.specs.Fields.{coded}
use Rattle.hatch_format.specs.Counts.{bounded}
use Rattle.hatch_points.specs.Heads.{bounds_of, count_capped}

-- ---- a count above the cap, one above the bits left, and one that is neither
module _ (xs : List ℕ) (cap n p : ℕ) where
  pub bounds_many : cap < n → bounds_of xs cap n p ≡ refused CountTooLarge p
  bounds_many h = rw (lt-leb n cap h, bounds_of)

  pub bounds_short : n ≤ cap → size xs - p < n → bounds_of xs cap n p ≡ refused CountTooLarge p
  bounds_short h k = rw (le-leb n cap h, lt-leb n (size xs - p) k, bounds_of)

  pub bounds_kept : n ≤ cap → n ≤ size xs - p → bounds_of xs cap n p ≡ got n p
  bounds_kept h k = rw (le-leb n cap h, le-leb n (size xs - p) k, bounds_of)

-- ---- a row of fields
-- the next answer, where the one before was a value
abbrev pub read_next : (ℕ → Out ℕ ℕ) → Out ℕ ℕ → Out ℕ ℕ
read_next f x = and_then x (λ v p. f p)

-- the number of an answer, 0 of a refusal
abbrev pub value_of : Out ℕ ℕ → ℕ
value_of (got v p) = v
value_of (refused k p) = 0

module _ {A : Type 0} (xs : List ℕ) where
  -- what is still to be read after an answer
  abbrev pub resumed : (ℕ → Format one A) → Out ℕ ℕ → Out ℕ A
  resumed k x = and_then x (λ v p. (k v).read xs p)

  -- one field more, whose format may look at the value before
  pub one_more : (f : ℕ → Format one ℕ) (k : ℕ → ℕ → Format one A) (x : Out ℕ ℕ) {y : Out ℕ ℕ} → y ≡ read_next ((f (value_of x)).read xs) x
      → resumed (λ v. f v >>= k v) x ≡ resumed (k (value_of x)) y
  unfolding ◌>>=◌
  one_more f k (refused n p) e = ap (resumed (k 0)) (sym e)
  one_more f k (got v p) e = ap (resumed (k v)) (sym e)

  -- a bit more
  pub bit_more : (k : ℕ → Bool → Format one A) (x : Out ℕ ℕ) {y : Out ℕ ℕ} → y ≡ read_next ((raw 1).read xs) x
      → resumed (λ v. coded B >>= k v) x ≡ resumed (λ n. k (value_of x) (eqb 1 n)) y
  unfolding ◌>>=◌ B B_read mapped tabled ◌then◌ give
  bit_more k (refused n p) e = ap (resumed (λ m. k 0 (eqb 1 m))) (sym e)
  bit_more k (got v p) e = go ((raw 1).read xs p) ∙ ap (resumed (λ n. k v (eqb 1 n))) (sym e)
    where
      go : (o : Out ℕ ℕ) → and_then (and_then o (λ n q. got (eqb 1 n) q)) (λ a r. (k v a).read xs r) ≡ resumed (λ n. k v (eqb 1 n)) o
      go (got a r) = refl
      go (refused n r) = refl

-- ---- what an answer behind another says of the one before
pub then_value : (f : ℕ → Out ℕ ℕ) (x : Out ℕ ℕ) {v q : ℕ} → read_next f x ≡ got v q → (u : ℕ) × (p : ℕ) × (x ≡ got u p) × (f p ≡ got v q)
then_value f (got u p) e = (u, p, refl, e)
then_value f (refused k p) e = never e

pub then_capped : (cap : ℕ) (c : Code ℕ) (xs : List ℕ) (x : Out ℕ ℕ) → value_of (read_next ((bounded cap c).read xs) x) ≤ cap
then_capped cap c xs (refused k p) = omega arith
then_capped cap c xs (got v p) = go ((bounded cap c).read xs p) refl
  where
    go : (o : Out ℕ ℕ) → (bounded cap c).read xs p ≡ o → value_of o ≤ cap
    go (got n q) e = count_capped cap c xs p e
    go (refused k q) e = omega arith
