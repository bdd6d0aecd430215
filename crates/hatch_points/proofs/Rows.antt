-- A count with its items, and what follows them. Assumes nothing.
use mathlib.Core.Path.{◌≡◌, refl, sym}
use mathlib.Core.Bool.{Bool}
use mathlib.Core.List.{List}
use Prim.Native.Nat.{ℕ, ◌+◌, ◌-◌, ◌*◌, ◌≤◌}
use native.Mathlib.Omega.{arith}
use lib.ListN.{length}
use Rattle.loads.specs.Bits.{size}
use Rattle.bitcursor.specs.Reading.{Out, got, refused, and_then}
use Rattle.bitcursor.specs.Bytes.{low_first}
use Rattle.bitcursor.specs.Code.{Code}
use Rattle.bitcursor.specs.Codes.{B, BL}
use Rattle.bitcursor.specs.Format.{Format, ◌>>=◌, relay}
use Rattle.bitcursor.specs.Inputs.{one}
use Rattle.bitcursor.specs.Fields.{coded}
use Rattle.hatch_format.specs.Takes.{Takes, takes_low, takes_BL}
use Rattle.hatch_format.specs.Counts.{times, bounded, takes_bounded, bounded_left, counted, listed_read, listed}
use Rattle.hatch_points.specs.Heads.{count_capped}
use Rattle.hatch_points.proofs.Laws.{onward}
use Rattle.hatch_points.proofs.NoWords.{takes_flag}

-- a count is not above the bits after it, and has bits of its own
pub count_left : (cap : ℕ) (c : Code ℕ) (m : ℕ) → Takes m (coded c) → (xs : List ℕ) (p : ℕ) {n q : ℕ} → got n q ≡ (bounded cap c).read xs p
    → p ≤ 8 * length xs → (n ≤ size xs - q) × (m ≤ q)
count_left cap c m t xs p e h =
    let on = onward (bounded cap c) m (takes_bounded cap c m t) xs p e h in
    (bounded_left cap c xs p (sym e), omega (arith, on.0))

-- nor above its cap
pub count_below : (cap : ℕ) (c : Code ℕ) (xs : List ℕ) (p : ℕ) {n q : ℕ} → got n q ≡ (bounded cap c).read xs p → n ≤ cap
count_below cap c xs p e = count_capped cap c xs p (sym e)

-- ---- where fields end: behind their first bits, and inside where they begin inside
module _ (xs : List ℕ) (p : ℕ) {q : ℕ} where
  pub flag_after : {b : Bool} → got b q ≡ B.read xs p → p ≤ 8 * length xs → p + 1 ≤ q
  flag_after e h = (onward (coded B) 1 takes_flag xs p e h).0

  pub flag_inside : {b : Bool} → got b q ≡ B.read xs p → p ≤ 8 * length xs → q ≤ 8 * length xs
  flag_inside e h = (onward (coded B) 1 takes_flag xs p e h).1

  module _ {n : ℕ} where
    pub long_after : got n q ≡ BL.read xs p → p ≤ 8 * length xs → p + 2 ≤ q
    long_after e h = (onward (coded BL) 2 takes_BL xs p e h).0

    pub long_inside : got n q ≡ BL.read xs p → p ≤ 8 * length xs → q ≤ 8 * length xs
    long_inside e h = (onward (coded BL) 2 takes_BL xs p e h).1

    pub byte_after : got n q ≡ (low_first 1).read xs p → p ≤ 8 * length xs → p + 8 ≤ q
    byte_after e h = (onward (coded (low_first 1)) 8 (takes_low 1) xs p e h).0

    pub byte_inside : got n q ≡ (low_first 1).read xs p → p ≤ 8 * length xs → q ≤ 8 * length xs
    byte_inside e h = (onward (coded (low_first 1)) 8 (takes_low 1) xs p e h).1

    module _ (cap : ℕ) where
      pub count_after : got n q ≡ (bounded cap BL).read xs p → p ≤ 8 * length xs → p + 2 ≤ q
      count_after e h = (onward (bounded cap BL) 2 (takes_bounded cap BL 2 takes_BL) xs p e h).0

      pub count_inside : got n q ≡ (bounded cap BL).read xs p → p ≤ 8 * length xs → q ≤ 8 * length xs
      count_inside e h = (onward (bounded cap BL) 2 (takes_bounded cap BL 2 takes_BL) xs p e h).1

pub ruleset places = (flag_after, flag_inside, long_after, long_inside, byte_after, byte_inside, count_after, count_inside, count_below)

-- a count, its items and what follows them
pub listed_row : {A I : Type 0} (xs : List ℕ) (cap : ℕ) (c : Code ℕ) (f : Format one I) (t : Takes 1 f) (g : List I → Format one A) (p : ℕ)
    → (listed cap c f t >>= g).read xs p ≡ (bounded cap c >>= λ n. times n f >>= g).read xs p
unfolding listed listed_read counted relay ◌>>=◌
listed_row xs cap c f t g p = go ((bounded cap c).read xs p)
  where
    go : (o : Out ℕ ℕ)
        → and_then (and_then o (λ n q. (times n f).read xs q)) (λ items r. (g items).read xs r)
        ≡ and_then o (λ n q. and_then ((times n f).read xs q) (λ items r. (g items).read xs r))
    go (got n q) = refl
    go (refused k q) = refl
