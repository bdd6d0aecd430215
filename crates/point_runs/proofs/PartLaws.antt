-- Parts of a list, one behind the other: the first judged and then the next, or moved and then the next moved, is both at once. Assumes nothing.
use mathlib.Core.Path.{◌≡◌, refl, sym, ap, ap₂, ◌∙◌}
use mathlib.Core.Bool.{Bool, true, ◌&&◌, and_assoc}
use mathlib.Core.List.{List, [], ◌∷◌, ◌++◌, append_assoc}
use Prim.Native.Nat.{ℕ, zero, suc, ◌+◌, ◌≤◌}
use lib.ListN.{length, take, drop, take-append-drop, length-append}
use lib.Seq.{length-take-le, take-append-add, drop-append-add, drop-drop}
use Rattle.hatch_lists.specs.Coordinates.{Role, others}
use Rattle.moved_hatch.specs.Moving.{moved_one, moved, one_in_range, all_in_range}
use Rattle.moved_hatch.specs.MovedLists.{moved_length, moved_others}
use Rattle.moved_hatch.specs.Parts.{moved_from, in_range_from}

module _ {A : Type 0} (in_range : A → Bool) where
  none_in_range : (rs : List Role) → all_in_range in_range rs [] ≡ true
  none_in_range [] = refl
  none_in_range (r ∷ rs) = refl

  -- what is no coordinate is in range
  pub others_in_range : (n : ℕ) (l : List A) → all_in_range in_range (others n) l ≡ true
  others_in_range zero l = refl
  others_in_range (suc n) [] = refl
  others_in_range (suc n) (a ∷ l) = others_in_range n l

  both : (rs ss : List Role) (l : List A)
      → all_in_range in_range (rs ++ ss) l ≡ all_in_range in_range rs l && all_in_range in_range ss (drop (length rs) l)
  both [] ss l = refl
  both (r ∷ rs) ss [] = sym (none_in_range ss)
  both (r ∷ rs) ss (a ∷ l) =
      let rest = all_in_range in_range ss (drop (length rs) l) in
      ap (λ b. one_in_range in_range r a && b) (both rs ss l) ∙ sym (and_assoc (one_in_range in_range r a) (all_in_range in_range rs l) rest)

  pub in_range_behind : (from : ℕ) (rs ss : List Role) (l : List A)
      → in_range_from in_range from (rs ++ ss) l ≡ in_range_from in_range from rs l && in_range_from in_range (from + length rs) ss l
  in_range_behind from rs ss l =
      both rs ss (drop from l) ∙ ap (λ m. in_range_from in_range from rs l && all_in_range in_range ss m) (drop-drop (length rs) from l)

module _ {A : Type 0} (difference : A → A → A) (x₀ y₀ : A) where
  none_moved : (rs : List Role) → moved difference x₀ y₀ rs [] ≡ []
  none_moved [] = refl
  none_moved (r ∷ rs) = refl

  one_then : (rs ss : List Role) (l : List A) → moved difference x₀ y₀ (rs ++ ss) l
      ≡ take (length rs) (moved difference x₀ y₀ rs l) ++ moved difference x₀ y₀ ss (drop (length rs) (moved difference x₀ y₀ rs l))
  one_then [] ss l = refl
  one_then (r ∷ rs) ss [] = sym (none_moved ss)
  one_then (r ∷ rs) ss (a ∷ l) = ap (λ k. moved_one difference x₀ y₀ r a ∷ k) (one_then rs ss l)

  pub moved_behind : (from : ℕ) (rs ss : List Role) (l : List A) → from ≤ length l
      → moved_from difference x₀ y₀ from (rs ++ ss) l ≡ moved_from difference x₀ y₀ (from + length rs) ss (moved_from difference x₀ y₀ from rs l)
  moved_behind from rs ss l h =
      let front = take from l in
      let m = moved difference x₀ y₀ rs (drop from l) in
      let k = length rs in
      let then_moved = moved difference x₀ y₀ ss in
      ap (λ b. front ++ b) (one_then rs ss (drop from l)) ∙ sym (append_assoc front (take k m) (then_moved (drop k m)))
      ∙ sym (ap₂ (λ a b. a ++ then_moved b) (take-append-add front m k) (drop-append-add front m k))
      ∙ ap (λ n. take (n + k) (front ++ m) ++ then_moved (drop (n + k) (front ++ m))) (length-take-le from l h)

  -- what is no coordinate stays
  pub others_from : (from n : ℕ) (l : List A) → moved_from difference x₀ y₀ from (others n) l ≡ l
  others_from from n l = ap (λ b. take from l ++ b) (moved_others difference x₀ y₀ n (drop from l)) ∙ take-append-drop from l

  pub moved_from_length : (from : ℕ) (rs : List Role) (l : List A) → length (moved_from difference x₀ y₀ from rs l) ≡ length l
  moved_from_length from rs l =
      length-append (take from l) (moved difference x₀ y₀ rs (drop from l))
      ∙ ap (λ n. length (take from l) + n) (moved_length difference x₀ y₀ rs (drop from l))
      ∙ sym (length-append (take from l) (drop from l)) ∙ ap length (take-append-drop from l)

  -- behind what is moved all stays
  rest_stays : (rs : List Role) (l : List A) → drop (length rs) (moved difference x₀ y₀ rs l) ≡ drop (length rs) l
  rest_stays [] l = refl
  rest_stays (r ∷ rs) [] = refl
  rest_stays (r ∷ rs) (a ∷ l) = rest_stays rs l

  pub stays_behind : (from : ℕ) (rs : List Role) (l : List A) → from ≤ length l
      → drop (from + length rs) (moved_from difference x₀ y₀ from rs l) ≡ drop (from + length rs) l
  stays_behind from rs l h =
      let front = take from l in
      let m = moved difference x₀ y₀ rs (drop from l) in
      ap (λ n. drop (n + length rs) (front ++ m)) (sym (length-take-le from l h)) ∙ drop-append-add front m (length rs)
      ∙ rest_stays rs (drop from l) ∙ drop-drop (length rs) from l
