-- The numbers of lists as they are stored: `of` is what a number is of its 64 bits, the double among others; or they are stored as they are.
-- Assumes nothing.
use Rattle.std.specs.Prelude.{◌≡◌, List, ◌++◌, ℕ, ◌-◌, min, length, map}
use Rattle.std.proofs.Common.{sym, ap, ◌∙◌}
use Rattle.std.proofs.lemmas.List.{length-map, map-append, map-id}
use Rattle.std.proofs.lemmas.List.Edits.{sets}
use Rattle.hatch_points.specs.Stores.{raw_at}
use Rattle.hatch_points.proofs.RawRuns.{enough}

module _ {N : Type 0} (of : ℕ → N) where
  pub doubles_append : (xs ys : List ℕ) → map of (xs ++ ys) ≡ map of xs ++ map of ys
  doubles_append xs ys = map-append of xs ys

  pub length_doubles : (xs : List ℕ) → length (map of xs) ≡ length xs
  length_doubles xs = length-map xs of

-- m of n RD are stored, as many as the list has room for: that is the same as n stores
pub bits_enough : (xs : List ℕ) (p n m i : ℕ) (b : List ℕ) → m ≡ min n (length b - i) → sets b i (raw_at xs p m) ≡ sets b i (raw_at xs p n)
bits_enough xs p n m i b h =
    ap (sets b i) (sym (map-id (raw_at xs p m))) ∙ enough xs p n m i (λ k. k) b h ∙ ap (sets b i) (map-id (raw_at xs p n))
