-- Points with so many numbers from each to the next: a run is judged by its first points and then by those behind them, and moved point by point.
-- Assumes nothing.
use mathlib.Core.Path.{◌≡◌, sym, ap, ap₂, subst, ◌∙◌}
use mathlib.Core.Bool.{Bool, true, false, ◌&&◌, and-eq-true_iff, and-true, and-false}
use mathlib.Core.List.{List, [], ◌∷◌, ◌++◌, append_assoc, append-nil}
use Prim.Native.Nat.{ℕ, zero, suc, ◌+◌, ◌-◌, ◌*◌, ◌≤◌}
use native.Mathlib.Nat.{add-mul, mul-le-mul_right}
use native.Mathlib.Omega.{arith}
use lib.ListN.{length, get_or, set, take, drop}
use lib.Seq.{drop-cons, sets-eq}
use Rattle.hatch_lists.specs.Coordinates.{x, y, others, point_run}
use Rattle.hatch_lists.proofs.CoordinateLaws.{run_long}
use Rattle.moved_hatch.specs.Moving.{moved, all_in_range}
use Rattle.moved_hatch.specs.MovedLists.{moved_others}
use Rattle.moved_hatch.specs.Parts.{moved_from, in_range_from, Movable}
use Rattle.point_runs.proofs.PartLaws.{others_in_range, in_range_behind, moved_behind, moved_from_length, stays_behind}

-- a point's two numbers, read at its index and the next
pub record Read {A : Type 0} (l : List A) (at : ℕ) (v w : A) : Type 0 where
  pub there : at + 2 ≤ length l
  pub is_x : v ≡ get_or l at v
  pub is_y : w ≡ get_or l (at + 1) w

two_numbers : {A : Type 0} {l : List A} {at : ℕ} {v w : A} → Read l at v w → drop at l ≡ v ∷ (w ∷ drop (at + 2) l)
two_numbers {A} {l} {at} {v} {w} r =
    let e : suc at ≡ at + 1 = omega arith in
    let f : suc (at + 1) ≡ at + 2 = omega arith in
    drop-cons l at v (omega (arith, r.there)) ∙ ap₂ (λ a n. a ∷ drop n l) (sym r.is_x) e
    ∙ ap (λ m. v ∷ m) (drop-cons l (at + 1) w (omega (arith, r.there)) ∙ ap₂ (λ a n. a ∷ drop n l) (sym r.is_y) f)

-- fewer points have room where more have
pub fewer_there : (stride at : ℕ) {k n : ℕ} → k ≤ n → at + k * stride ≤ at + n * stride
fewer_there stride at h = let e = mul-le-mul_right stride h in omega (arith, e)

-- ---- runs one behind the other
pub run_behind : (stride k m : ℕ) → point_run stride (k + m) ≡ point_run stride k ++ point_run stride m
run_behind stride zero m = let e : 0 + m ≡ m = omega arith in ap (point_run stride) e
run_behind stride (suc k) m =
    let e : suc k + m ≡ suc (k + m) = omega arith in
    ap (point_run stride) e
    ∙ ap (λ rs. x ∷ (y ∷ (others (stride - 2) ++ rs))) (run_behind stride k m)
    ∙ ap (λ rs. x ∷ (y ∷ rs)) (sym (append_assoc (others (stride - 2)) (point_run stride k) (point_run stride m)))

module _ {A : Type 0} (in_range : A → Bool) (stride : ℕ) (two : 2 ≤ stride) (l : List A) where
  -- whether the coordinates of n points from an index on are in range
  abbrev pub in_run : ℕ → ℕ → Bool
  in_run at n = in_range_from in_range at (point_run stride n) l

  pub run_then : (at k m : ℕ) → in_run at (k + m) ≡ in_run at k && in_run (at + k * stride) m
  run_then at k m =
      ap (λ rs. in_range_from in_range at rs l) (run_behind stride k m) ∙ in_range_behind in_range at (point_run stride k) (point_run stride m) l
      ∙ ap (λ j. in_run at k && in_run (at + j) m) (run_long stride k two)

  pub run_one : {at : ℕ} {v w : A} → Read l at v w → in_run at 1 ≡ in_range v && in_range w
  run_one {at} {v} {w} r =
      ap (all_in_range in_range (point_run stride 1)) (two_numbers r)
      ∙ ap (λ b. in_range v && (in_range w && b))
      (ap (λ rs. all_in_range in_range rs (drop (at + 2) l)) (append-nil (others (stride - 2))) ∙ others_in_range in_range (stride - 2) (drop (at + 2) l))
      ∙ ap (λ b. in_range v && b) (and-true (in_range w))

  pub run_two : (at : ℕ) → in_run at 2 ≡ in_run at 1 && in_run (at + stride) 1
  run_two at = let e : 1 * stride ≡ stride = omega arith in run_then at 1 1 ∙ ap (λ n. in_run at 1 && in_run (at + n) 1) e

  -- four points more: where they are not in range, no longer run is
  pub run_fails : (from k n : ℕ) → k + 4 ≤ n → in_run (from + k * stride) 4 ≡ false → in_run from n ≡ false
  run_fails from k n h e =
      let f : n ≡ k + (4 + (n - (k + 4))) = omega arith in
      let rest = n - (k + 4) in
      ap (in_run from) f ∙ run_then from k (4 + rest)
      ∙ ap (λ b. in_run from k && b) (run_then (from + k * stride) 4 rest ∙ ap (λ b. b && in_run (from + k * stride + 4 * stride) rest) e)
      ∙ and-false (in_run from k)

  -- a run with a first part that is in range
  pub run_rest : (from k n : ℕ) → k ≤ n → in_run from k ≡ true → in_run from n ≡ in_run (from + k * stride) (n - k)
  run_rest from k n h e =
      let f : n ≡ k + (n - k) = omega arith in
      ap (in_run from) f ∙ run_then from k (n - k) ∙ ap (λ b. b && in_run (from + k * stride) (n - k)) e

-- ---- a point moved
module _ {A : Type 0} (difference : A → A → A) (x₀ y₀ : A) (stride : ℕ) (l : List A) where
  -- by its two stores
  pub stored : {at : ℕ} {v w a b : A} → Read l at v w → a ≡ difference v x₀ → b ≡ difference w y₀
      → set (set l at a) (at + 1) b ≡ moved_from difference x₀ y₀ at (point_run stride 1) l
  stored {at} {v} {w} {a} {b} r ea eb =
      let e : suc at ≡ at + 1 = omega arith in
      let rest = drop (at + 2) l in
      sym
      (ap (λ m. take at l ++ moved difference x₀ y₀ (point_run stride 1) m) (two_numbers r)
      ∙ ap₂ (λ c d. take at l ++ (c ∷ (d ∷ moved difference x₀ y₀ (others (stride - 2) ++ []) rest))) (sym ea) (sym eb)
      ∙ ap (λ rs. take at l ++ (a ∷ (b ∷ moved difference x₀ y₀ rs rest))) (append-nil (others (stride - 2)))
      ∙ ap (λ m. take at l ++ (a ∷ (b ∷ m))) (moved_others difference x₀ y₀ (stride - 2) rest)
      ∙ sym (sets-eq (a ∷ (b ∷ [])) l at (omega (arith, r.there)) ∙ append_assoc (take at l) (a ∷ (b ∷ [])) rest)
      ∙ ap (λ n. set (set l at a) n b) e)

-- each number of a point that may be moved may be subtracted from, and the origin's subtracted
pub both_may : {A : Type 0} (may : A → Bool) (stride : ℕ) → 2 ≤ stride → (l : List A) {x₀ y₀ : A} {at : ℕ} {v w : A} → Read l at v w
    → Movable may x₀ y₀ at (point_run stride 1) l → ((may v ≡ true) × (may x₀ ≡ true)) × ((may w ≡ true) × (may y₀ ≡ true))
both_may may stride two l {x₀} {y₀} {at} {v} {w} r h =
    let read = (and-eq-true_iff (may v) (may w)).0 (sym (run_one may stride two l r) ∙ h.coordinates) in
    let origin = (and-eq-true_iff (may x₀) (may y₀)).0 h.origin in
    ((read.0, origin.0), (read.1, origin.1))

-- ---- the first i points moved, and then the next
module _ {A : Type 0} (difference : A → A → A) (x₀ y₀ : A) (stride : ℕ) (two : 2 ≤ stride) (l₀ : List A) (from : ℕ) where
  abbrev pub moved_run : ℕ → List A
  moved_run i = moved_from difference x₀ y₀ from (point_run stride i) l₀

  module _ {l : List A} (i : ℕ) (room : from + (i + 1) * stride ≤ length l₀) (so_far : l ≡ moved_run i) where
    abbrev at : ℕ
    at = from + i * stride

    pub next_there : at + stride ≤ length l
    next_there =
        let long = ap length so_far ∙ moved_from_length difference x₀ y₀ from (point_run stride i) l₀ in
        let e = add-mul i 1 stride in
        omega (arith, long, e, room)

    pub next_moved : moved_from difference x₀ y₀ at (point_run stride 1) l ≡ moved_run (i + 1)
    next_moved =
        sym
        (ap (λ rs. moved_from difference x₀ y₀ from rs l₀) (run_behind stride i 1)
        ∙ moved_behind difference x₀ y₀ from (point_run stride i) (point_run stride 1) l₀ (omega arith)
        ∙ ap₂ (λ k m. moved_from difference x₀ y₀ (from + k) (point_run stride 1) m) (run_long stride i two) (sym so_far))

    -- what may be moved ahead may be so still
    pub next_movable : {may : A → Bool} {n : ℕ} → i + 1 ≤ n → Movable may x₀ y₀ from (point_run stride n) l₀
        → Movable may x₀ y₀ at (point_run stride 1) l
    next_movable {may} {n} h all =
        let f : n ≡ i + (1 + (n - (i + 1))) = omega arith in
        let rest = n - (i + 1) in
        let run = in_run may stride two l₀ in
        let first = (and-eq-true_iff (run from i) (run at (1 + rest))).0
        (sym (ap (run from) f ∙ run_then may stride two l₀ from i (1 + rest)) ∙ all.coordinates) in
        let next = (and-eq-true_iff (run at 1) (run (at + 1 * stride) rest)).0 (sym (run_then may stride two l₀ at 1 rest) ∙ first.1) in
        let same : drop at l ≡ drop at l₀ = ap (drop at) so_far
        ∙ subst (λ n. drop (from + n) (moved_run i) ≡ drop (from + n) l₀) (run_long stride i two)
        (stays_behind difference x₀ y₀ from (point_run stride i) l₀ (omega arith)) in
        record { origin = all.origin; coordinates = ap (all_in_range may (point_run stride 1)) same ∙ next.0 }
