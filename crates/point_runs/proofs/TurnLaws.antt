-- Turns over the points of a run, by the index and by how many are left: four judged, or one moved. Assumes nothing.
use mathlib.Core.Path.{◌≡◌, refl, sym, ap, ap₂, ◌∙◌}
use mathlib.Core.Bool.{Bool, true, false, ◌&&◌, and-eq-true_iff, and-true}
use mathlib.Core.List.{List, [], ◌∷◌, ◌++◌, append_assoc, append-nil}
use Prim.Native.Nat.{ℕ, suc, ◌+◌, ◌-◌, ◌*◌, ◌≤◌, ◌<◌}
use native.Mathlib.Nat.{sub-zero, suc-mul, add-mul}
use native.Mathlib.Omega.{arith}
use lib.ListN.{length, get_or, set, take, drop, take-append-drop, length-set, length-replicate}
use lib.Seq.{drop-cons, get_or-set_other, sets-eq, drop-set-lt}
use Rattle.hatch_lists.specs.Coordinates.{Role, x, y, others, point_run}
use Rattle.moved_hatch.specs.Moving.{moved, all_in_range}
use Rattle.moved_hatch.specs.MovedLists.{moved_others}
use Rattle.moved_hatch.specs.Parts.{moved_from, in_range_from}
use Rattle.point_runs.proofs.PartLaws.{others_in_range, moved_behind}
use Rattle.point_runs.proofs.PointLaws.{in_run, run_then}

-- ---- the roles of one point, and the index of each
abbrev a_point : ℕ → List Role
a_point stride = x ∷ (y ∷ others (stride - 2))

point_long : (stride : ℕ) → 2 ≤ stride → length (a_point stride) ≡ stride
point_long stride h = simp length-replicate (omega arith)

two_numbers : {A : Type 0} (z : A) (l : List A) (at : ℕ) → at + 2 ≤ length l → drop at l ≡ get_or l at z ∷ (get_or l (at + 1) z ∷ drop (at + 2) l)
two_numbers z l at h =
    let e : suc at ≡ at + 1 = omega arith in
    let f : suc (at + 1) ≡ at + 2 = omega arith in
    drop-cons l at z (omega arith)
    ∙ ap (λ m. get_or l at z ∷ m) (ap (λ n. drop n l) e ∙ drop-cons l (at + 1) z (omega arith) ∙ ap (λ n. get_or l (at + 1) z ∷ drop n l) f)

-- i of n points are passed, and the next begins at an index
abbrev pub Reached : ℕ → ℕ → ℕ → ℕ → ℕ → Type 0
Reached stride from n at i = at + (n - i) * stride ≡ from + n * stride

pub reached_first : (stride from n : ℕ) → Reached stride from n from 0
reached_first stride from n = ap (λ m. from + m * stride) (sub-zero n)

pub reached_next : (stride from n at i : ℕ) → i < n → Reached stride from n at i → Reached stride from n (at + stride) (i + 1)
reached_next stride from n at i lt h =
    let e : n - i ≡ suc (n - (i + 1)) = omega arith in
    let f = ap (λ m. m * stride) e ∙ suc-mul (n - (i + 1)) stride in
    omega (arith, f)

-- the numbers of the next point are there
pub point_there : (stride from n at i : ℕ) → i < n → Reached stride from n at i → at + stride ≤ from + n * stride
point_there stride from n at i lt h = let r = reached_next stride from n at i lt h in omega (arith, r)

-- ---- judged: the next point of a run, and those behind it
module _ {A : Type 0} (in_range : A → Bool) (stride : ℕ) (two : 2 ≤ stride) (l : List A) (z : A) where
  -- of the point at an index
  abbrev pub in_point : ℕ → Bool
  in_point at = in_range (get_or l at z) && in_range (get_or l (at + 1) z)

  pub run_one : (at : ℕ) → at + 2 ≤ length l → in_run in_range stride two l at 1 ≡ in_point at
  run_one at h =
      ap (λ rs. in_range_from in_range at (x ∷ (y ∷ rs)) l) (append-nil (others (stride - 2)))
      ∙ ap (all_in_range in_range (a_point stride)) (two_numbers z l at h)
      ∙ ap (λ b. in_range (get_or l at z) && b)
      (ap (λ b. in_range (get_or l (at + 1) z) && b) (others_in_range in_range (stride - 2) (drop (at + 2) l)) ∙ and-true (in_range (get_or l (at + 1) z)))

  pub run_next : (at m : ℕ) → at + 2 ≤ length l → in_run in_range stride two l at (suc m) ≡ in_point at && in_run in_range stride two l (at + stride) m
  run_next at m h =
      let e : 1 * stride ≡ stride = omega arith in
      let f : suc m ≡ 1 + m = omega arith in
      ap (in_run in_range stride two l at) f ∙ run_then in_range stride two l at 1 m
      ∙ ap₂ (λ b j. b && in_run in_range stride two l (at + j) m) (run_one at h) e

  pub run_two : (at : ℕ) → at + 2 * stride ≤ length l → in_run in_range stride two l at 2 ≡ in_point at && in_point (at + stride)
  run_two at h = run_next at 1 (omega arith) ∙ ap (λ b. in_point at && b) (run_one (at + stride) (omega arith))

-- so many points are left, and they decide
pub record Judged {A : Type 0} (in_range : A → Bool) (stride : ℕ) (l : List A) (from n at left : ℕ) : Type 0 where
  pub reached : at + left * stride ≡ from + n * stride
  pub same : in_range_from in_range from (point_run stride n) l ≡ in_range_from in_range at (point_run stride left) l

module _ {A : Type 0} (in_range : A → Bool) (stride : ℕ) (two : 2 ≤ stride) (l : List A) where
  pub judged_none : (from n : ℕ) → Judged in_range stride l from n from n
  judged_none from n = record { reached = refl; same = refl }

  module _ {from n at left : ℕ} (h : Judged in_range stride l from n at left) (lt : 3 < left) where
    -- four of them, and the rest
    four : left ≡ 4 + (left - 4)
    four = omega (arith, lt)

    four_reached : at + 4 * stride + (left - 4) * stride ≡ from + n * stride
    four_reached =
        let e = ap (λ k. k * stride) four in
        let f = add-mul 4 (left - 4) stride in
        omega (arith, h.reached, e, f)

    pub four_there : at + 4 * stride ≤ from + n * stride
    four_there = omega (arith, four_reached)

    four_same : in_range_from in_range from (point_run stride n) l
        ≡ (in_run in_range stride two l at 2 && in_run in_range stride two l (at + 2 * stride) 2)
        && in_run in_range stride two l (at + 4 * stride) (left - 4)
    four_same =
        h.same ∙ ap (in_run in_range stride two l at) four ∙ run_then in_range stride two l at 4 (left - 4)
        ∙ ap (λ b. b && in_run in_range stride two l (at + 4 * stride) (left - 4)) (run_then in_range stride two l at 2 2)

    module _ {b c : Bool} (eb : b ≡ in_run in_range stride two l at 2) (ec : c ≡ in_run in_range stride two l (at + 2 * stride) 2) where
      pub judged_next : b && c ≡ true → Judged in_range stride l from n (at + 4 * stride) (left - 4)
      judged_next t =
          record {
            reached = four_reached;
            same = four_same ∙ ap (λ d. d && in_run in_range stride two l (at + 4 * stride) (left - 4)) (sym (ap₂ (λ d e. d && e) eb ec) ∙ t);
          }

      pub judged_beyond : b && c ≡ false → false ≡ in_range_from in_range from (point_run stride n) l
      judged_beyond t =
          sym (four_same ∙ ap (λ d. d && in_run in_range stride two l (at + 4 * stride) (left - 4)) (sym (ap₂ (λ d e. d && e) eb ec) ∙ t))

-- ---- i of n points are moved: what is left to move of the list is what the whole moves of the first
pub record Moved {A : Type 0} (difference : A → A → A) (x₀ y₀ : A) (stride : ℕ) (l₀ : List A) (from n : ℕ) (l : List A) (at i : ℕ) : Type 0 where
  pub reached : Reached stride from n at i
  pub long : length l ≡ length l₀
  pub same : moved_from difference x₀ y₀ from (point_run stride n) l₀ ≡ moved_from difference x₀ y₀ at (point_run stride (n - i)) l

module _ {A : Type 0} (difference : A → A → A) (x₀ y₀ : A) (stride : ℕ) where
  pub moved_none : (l : List A) (from n : ℕ) → Moved difference x₀ y₀ stride l from n l from 0
  moved_none l from n =
      record {
        reached = reached_first stride from n;
        long = refl;
        same = ap (λ m. moved_from difference x₀ y₀ from (point_run stride m) l) (sym (sub-zero n));
      }

  pub moved_all : {l₀ l : List A} {from n at i : ℕ} → Moved difference x₀ y₀ stride l₀ from n l at i → n ≤ i
      → l ≡ moved_from difference x₀ y₀ from (point_run stride n) l₀
  moved_all {l₀} {l} {from} {n} {at} {i} h le =
      let e : n - i ≡ 0 = omega arith in
      sym (h.same ∙ ap (λ m. moved_from difference x₀ y₀ at (point_run stride m) l) e ∙ take-append-drop at l)

  module _ (z : A) (two : 2 ≤ stride) where
    -- the two stores of a point, the second into the list that the first left
    stored : (l : List A) (at : ℕ) (a b : A) → at + stride ≤ length l → a ≡ difference (get_or l at z) x₀ → b ≡ difference (get_or (set l at a) (at + 1) z) y₀
        → moved_from difference x₀ y₀ at (a_point stride) l ≡ set (set l at a) (at + 1) b
    stored l at a b h ea eb =
        let e : suc at ≡ at + 1 = omega arith in
        let same : get_or (set l at a) (at + 1) z ≡ get_or l (at + 1) z = get_or-set_other l at (at + 1) a z (λ k. omega (arith, k)) in
        let eb' = eb ∙ ap (λ c. difference c y₀) same in
        ap (λ m. take at l ++ moved difference x₀ y₀ (a_point stride) m) (two_numbers z l at (omega arith))
        ∙ ap₂ (λ c d. take at l ++ (c ∷ (d ∷ moved difference x₀ y₀ (others (stride - 2)) (drop (at + 2) l)))) (sym ea) (sym eb')
        ∙ ap (λ m. take at l ++ (a ∷ (b ∷ m))) (moved_others difference x₀ y₀ (stride - 2) (drop (at + 2) l))
        ∙ sym (sets-eq (a ∷ (b ∷ [])) l at (omega arith) ∙ append_assoc (take at l) (a ∷ (b ∷ [])) (drop (at + 2) l))
        ∙ ap (λ n. set (set l at a) n b) e

    pub moved_next : {l₀ l : List A} {from n at i : ℕ} → Moved difference x₀ y₀ stride l₀ from n l at i → from + n * stride ≤ length l₀ → i < n
        → {a b : A} → a ≡ difference (get_or l at z) x₀ → b ≡ difference (get_or (set l at a) (at + 1) z) y₀
        → Moved difference x₀ y₀ stride l₀ from n (set (set l at a) (at + 1) b) (at + stride) (i + 1)
    moved_next {l₀} {l} {from} {n} {at} {i} h room lt {a} {b} ea eb =
        let e : n - i ≡ suc (n - (i + 1)) = omega arith in
        let there = point_there stride from n at i lt h.reached in
        let rest = point_run stride (n - (i + 1)) in
        record {
          reached = reached_next stride from n at i lt h.reached;
          long = simp length-set h.long;
          same = h.same ∙ ap (λ m. moved_from difference x₀ y₀ at (point_run stride m) l) e
              ∙ moved_behind difference x₀ y₀ at (a_point stride) rest l (omega (arith, h.long))
              ∙ ap₂ (λ k m. moved_from difference x₀ y₀ (at + k) rest m) (point_long stride two) (stored l at a b (omega (arith, h.long)) ea eb);
        }

-- ---- the points left to move are in range: the next is, and its stores leave those behind it as they were
abbrev pub Ahead : {A : Type 0} → (A → Bool) → ℕ → List A → ℕ → ℕ → ℕ → Type 0
Ahead in_range stride l n at i = in_range_from in_range at (point_run stride (n - i)) l ≡ true

module _ {A : Type 0} (in_range : A → Bool) (stride : ℕ) where
  pub ahead_first : (l : List A) (from n : ℕ) → in_range_from in_range from (point_run stride n) l ≡ true → Ahead in_range stride l n from 0
  ahead_first l from n e = ap (λ m. in_range_from in_range from (point_run stride m) l) (sub-zero n) ∙ e

  module _ (z : A) (two : 2 ≤ stride) (l : List A) (n at i : ℕ) (room : at + stride ≤ length l) (lt : i < n) (h : Ahead in_range stride l n at i) where
    split : (in_range (get_or l at z) && in_range (get_or l (at + 1) z) ≡ true)
        × (in_range_from in_range (at + stride) (point_run stride (n - (i + 1))) l ≡ true)
    split =
        let e : n - i ≡ suc (n - (i + 1)) = omega arith in
        (and-eq-true_iff (in_range (get_or l at z) && in_range (get_or l (at + 1) z)) (in_range_from in_range (at + stride) (point_run stride (n -
        (i + 1))) l)).0
        (sym (ap (λ m. in_range_from in_range at (point_run stride m) l) e ∙ run_next in_range stride two l z at (n - (i + 1)) (omega arith)) ∙ h)

    pub x_ahead : in_range (get_or l at z) ≡ true
    x_ahead = ((and-eq-true_iff (in_range (get_or l at z)) (in_range (get_or l (at + 1) z))).0 split.0).0

    -- read behind the store of the new x
    pub y_ahead : (a : A) → in_range (get_or (set l at a) (at + 1) z) ≡ true
    y_ahead a =
        ap in_range (get_or-set_other l at (at + 1) a z (λ k. omega (arith, k)))
        ∙ ((and-eq-true_iff (in_range (get_or l at z)) (in_range (get_or l (at + 1) z))).0 split.0).1

    pub ahead_next : (a b : A) → Ahead in_range stride (set (set l at a) (at + 1) b) n (at + stride) (i + 1)
    ahead_next a b =
        ap (all_in_range in_range (point_run stride (n - (i + 1))))
        (drop-set-lt (at + stride) (set l at a) (at + 1) b (omega arith) ∙ drop-set-lt (at + stride) l at a (omega arith))
        ∙ split.1
