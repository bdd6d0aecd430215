-- Lists whose entries are all mapped: as long as the input, entry by entry. Assumes nothing.
use Rattle.std.specs.Prelude.{◌≡◌, refl, ◌&&◌, Bool, true, false, Option, Some, None, is_some, List, [], ◌∷◌, ℕ, zero, suc, ◌<◌, length, get_or}
use Rattle.std.specs.List.{All, list_all}
use Rattle.std.proofs.Common.{sym, ap, ◌∙◌, le_of_suc-le-suc, not-suc-le-zero, arith}
use Rattle.std.proofs.lemmas.List.Sums.{AllPass-from_list_all, list_all-from_AllPass}
use Rattle.code_page.specs.Conversion.{joined, mapped_all}

module _ {A B : Type 0} (f : A → Option B) where
  -- what a first entry and the rest come to
  joined_all : (m : Option B) (r : Option (List B)) (ys : List B) → joined m r ≡ Some ys
      → (y : B) × (zs : List B) × (m ≡ Some y) × (r ≡ Some zs) × (ys ≡ y ∷ zs)
  joined_all None r ys e = cc
  joined_all (Some y) None ys e = cc
  joined_all (Some y) (Some zs) ys e = (y, zs, refl, refl, cc)

  pub all_length : (xs : List A) (ys : List B) → mapped_all f xs ≡ Some ys → length ys ≡ length xs
  all_length [] ys e = let same : ys ≡ [] = cc in ap length same
  all_length (x ∷ xs) ys e =
      let j = joined_all (f x) (mapped_all f xs) ys e in
      ap length j.4 ∙ ap suc (all_length xs j.1 j.3)

  -- each entry is what the input's entry is mapped to
  pub all_entries : (d : A) (z : B) (xs : List A) (ys : List B) → mapped_all f xs ≡ Some ys
      → (i : ℕ) → i < length xs → f (get_or xs i d) ≡ Some (get_or ys i z)
  all_entries d z [] ys e i h = absurd (not-suc-le-zero h)
  all_entries d z (x ∷ xs) ys e zero h = let j = joined_all (f x) (mapped_all f xs) ys e in rw j.4 j.2
  all_entries d z (x ∷ xs) ys e (suc i) h =
      let j = joined_all (f x) (mapped_all f xs) ys e in
      rw j.4 (all_entries d z xs j.1 j.3 i (le_of_suc-le-suc h))

  -- all are mapped exactly if each is
  pub each_mapped : (xs : List A) → list_all (λ x. is_some (f x)) xs ≡ is_some (mapped_all f xs)
  each_mapped [] = refl
  each_mapped (x ∷ xs) = rw (each_mapped xs) (both (f x) (mapped_all f xs))
    where
      both : (m : Option B) (r : Option (List B)) → is_some m && is_some r ≡ is_some (joined m r)
      both None r = refl
      both (Some y) None = refl
      both (Some y) (Some ys) = refl

  pub all_mapped : (xs : List A) → All (λ x. is_some (f x) ≡ true) xs → is_some (mapped_all f xs) ≡ true
  all_mapped xs a = sym (each_mapped xs) ∙ list_all-from_AllPass (λ x. is_some (f x)) xs a

  pub not_all_mapped : (xs : List A) → (All (λ x. is_some (f x) ≡ true) xs → ⊥) → is_some (mapped_all f xs) ≡ false
  not_all_mapped xs unlike_all = go (is_some (mapped_all f xs)) refl
    where
      go : (t : Bool) → is_some (mapped_all f xs) ≡ t → is_some (mapped_all f xs) ≡ false
      go true e = absurd (unlike_all (AllPass-from_list_all (λ x. is_some (f x)) xs (each_mapped xs ∙ e)))
      go false e = e

  -- one that is not mapped, and where it stands
  abbrev pub UndefinedIn : A → List A → Type 0
  UndefinedIn d xs = (i : ℕ) × (i < length xs) × (f (get_or xs i d) ≡ None)

  pub somewhere : (d : A) (xs : List A) → mapped_all f xs ≡ None → UndefinedIn d xs
  somewhere d [] e = cc
  somewhere d (x ∷ xs) e = go (f x) refl (mapped_all f xs) refl (somewhere d xs)
    where
      go : (m : Option B) → f x ≡ m → (r : Option (List B)) → mapped_all f xs ≡ r → (mapped_all f xs ≡ None → UndefinedIn d xs) → UndefinedIn d (x ∷ xs)
      go None p r q later = (0, omega arith, p)
      go (Some y) p None q later = let rest = later q in (suc rest.0, omega (arith, rest.1), rest.2)
      go (Some y) p (Some ys) q later = let z : Some (y ∷ ys) ≡ None = rw (p, q) at e in cc

  -- and these are all the ways
  pub of_entries : (d : A) (z : B) (xs : List A) (ys : List B) → length ys ≡ length xs
      → ((i : ℕ) → i < length xs → f (get_or xs i d) ≡ Some (get_or ys i z)) → mapped_all f xs ≡ Some ys
  of_entries d z [] [] l e = refl
  of_entries d z [] (y ∷ ys) l e = absurd (omega arith)
  of_entries d z (x ∷ xs) [] l e = absurd (omega arith)
  of_entries d z (x ∷ xs) (y ∷ ys) l e = rw (e 0 (omega arith), of_entries d z xs ys (omega arith) (λ i h. e (suc i) (omega arith)))

  pub of_somewhere : (d : A) (xs : List A) → UndefinedIn d xs → mapped_all f xs ≡ None
  of_somewhere d [] (i, h, e) = absurd (not-suc-le-zero h)
  of_somewhere d (x ∷ xs) (zero, h, e) = rw e
  of_somewhere d (x ∷ xs) (suc i, h, e) = rw (of_somewhere d xs (i, le_of_suc-le-suc h, e)) (none_joined (f x))
    where
      none_joined : (m : Option B) → joined m None ≡ None
      none_joined None = refl
      none_joined (Some y) = refl

  -- mapped back entry by entry
  pub mapped_back : (g : B → Option A) → ((x : A) (y : B) → f x ≡ Some y → g y ≡ Some x)
      → (xs : List A) (ys : List B) → mapped_all f xs ≡ Some ys → mapped_all g ys ≡ Some xs
  mapped_back g inverse [] ys e = let same : ys ≡ [] = cc in rw same
  mapped_back g inverse (x ∷ xs) ys e =
      let j = joined_all (f x) (mapped_all f xs) ys e in
      rw (j.4, inverse x j.0 j.2, mapped_back g inverse xs j.1 j.3)
