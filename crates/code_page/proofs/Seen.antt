-- Looking at every entry, at the first one that was not seen yet: what was seen and what is left come to the whole, and at the end to what is said of
-- the list. Assumes nothing.
use Rattle.std.specs.Prelude.{◌≡◌, refl, Bool, true, false, ◌&&◌, Option, Some, None, is_some, List, ◌∷◌, ℕ, ◌+◌, ◌<◌, ◌≤◌, length, get_or, drop}
use Rattle.std.specs.List.{list_all}
use Rattle.std.proofs.Common.{sym, ap, ◌∙◌, arith}
use Rattle.std.proofs.Math.Numerals.{add-one}
use Rattle.std.proofs.Math.ListN.{drop_of_length-le}
use Rattle.std.proofs.Math.Seq.{drop-cons}
use Rattle.std.proofs.Math.Bool.{and_assoc, and-true}
use Rattle.std.proofs.lemmas.List.Elements.{All-get_or}
use Rattle.std.proofs.lemmas.List.Sums.{AllPass-from_list_all}
use Rattle.code_page.specs.Conversion.{joined, mapped_all}

pub is_defined_lem : {B : Type 0} (m : Option B) → is_some m ≡ true → (b : B) × (m ≡ Some b)
is_defined_lem (Some b) e = (b, refl)
is_defined_lem None e = cc

pub is_undefined : {B : Type 0} (m : Option B) → is_some m ≡ false → m ≡ None
is_undefined (Some b) e = cc
is_undefined None e = refl

-- ---- whether every entry passes a test
module _ {A : Type 0} (test : A → Bool) (xs : List A) where
  abbrev pub SeenTo : ℕ → Bool → Type 0
  SeenTo k own = (k ≤ length xs) × (list_all test xs ≡ own && list_all test (drop k xs))

  pub seen_more : (d : A) (k : ℕ) (own : Bool) → SeenTo k own → k < length xs → SeenTo (k + 1) (own && test (get_or xs k d))
  seen_more d k own s h =
      let next : drop k xs ≡ get_or xs k d ∷ drop (k + 1) xs = rw (add-one k) (drop-cons xs k d h) in
      (omega arith, s.1 ∙ ap (λ (l : List A). own && list_all test l) next ∙ sym (and_assoc own (test (get_or xs k d)) (list_all test (drop (k + 1) xs))))

  -- once all were looked at, what was seen is whether all pass
  pub seen_all : (k : ℕ) (own : Bool) → SeenTo k own → length xs ≤ k → own ≡ list_all test xs
  seen_all k own s h = sym (s.1 ∙ ap (λ (l : List A). own && list_all test l) (drop_of_length-le xs h) ∙ and-true own)

  -- each of a list that all pass
  pub own_at : (d : A) (i : ℕ) → list_all test xs ≡ true → i < length xs → test (get_or xs i d) ≡ true
  own_at d i e h = All-get_or (λ x. test x ≡ true) xs i d h (AllPass-from_list_all test xs e)

-- ---- whether every entry is mapped: from i on all are exactly if all are
module _ {A B : Type 0} (f : A → Option B) (xs : List A) where
  abbrev pub JudgedTo : ℕ → Type 0
  JudgedTo i = (i ≤ length xs) × (is_some (mapped_all f xs) ≡ is_some (mapped_all f (drop i xs)))

  first_of : (d : A) (i : ℕ) → i < length xs → mapped_all f (drop i xs) ≡ joined (f (get_or xs i d)) (mapped_all f (drop (i + 1) xs))
  first_of d i h = rw (add-one i) (ap (mapped_all f) (drop-cons xs i d h))

  pub judged_more : (d : A) (i : ℕ) (y : B) → JudgedTo i → i < length xs → f (get_or xs i d) ≡ Some y → JudgedTo (i + 1)
  judged_more d i y j h e = (omega arith, j.1 ∙ ap is_some (first_of d i h) ∙ rw e (left (mapped_all f (drop (i + 1) xs))))
    where
      left : (r : Option (List B)) → is_some (joined (Some y) r) ≡ is_some r
      left None = refl
      left (Some ys) = refl

  -- at one that is not mapped not all are, and past the last one all are
  pub judged_undefined : (d : A) (i : ℕ) → JudgedTo i → i < length xs → f (get_or xs i d) ≡ None → is_some (mapped_all f xs) ≡ false
  judged_undefined d i j h e = j.1 ∙ ap is_some (first_of d i h) ∙ rw e

  pub judged_all : (i : ℕ) → JudgedTo i → length xs ≤ i → is_some (mapped_all f xs) ≡ true
  judged_all i j h = j.1 ∙ rw (drop_of_length-le xs h)
