-- The storing pass leaves the first entries in front of what the output was, over any list; and so over the list that a mapping makes of another.
-- Assumes nothing.
use Rattle.std.specs.Prelude.{◌≡◌, refl, Option, Some, None, Ok, IsSome, unwrap_or}
use Rattle.std.specs.Prelude.{List, [], ◌∷◌, ◌++◌, ℕ, zero, suc, ◌+◌, ◌<◌, ◌≤◌, length, get_or, set, take, drop}
use Rattle.std.specs.List.{All}
use Rattle.std.proofs.Common.{sym, ap, ◌∙◌, le_of_suc-le-suc, not-suc-le-zero, arith}
use Rattle.std.proofs.Math.Numerals.{add-one}
use Rattle.std.proofs.Math.ListN.{length-set}
use Rattle.std.proofs.Math.Seq.{take-length}
use Rattle.code_page.specs.Conversion.{mapped_all, after}
use Rattle.code_page.specs.MappedLists.{all_mapped, all_length, all_entries}

-- ---- over any list
-- a store behind the first i entries
set_next : {B : Type 0} (z : B) (ys l : List B) (i : ℕ) → i < length ys → i < length l
    → set (take i ys ++ drop i l) i (get_or ys i z) ≡ take (suc i) ys ++ drop (suc i) l
set_next z [] l i h g = absurd (not-suc-le-zero h)
set_next z (y ∷ ys) [] i h g = absurd (not-suc-le-zero g)
set_next z (y ∷ ys) (x ∷ l) zero h g = refl
set_next z (y ∷ ys) (x ∷ l) (suc i) h g = ap (λ t. y ∷ t) (set_next z ys l i (le_of_suc-le-suc h) (le_of_suc-le-suc g))

-- the first i entries of a list stand in front of what the output was
module _ {B : Type 0} (ys out : List B) where
  abbrev pub Stored : ℕ → List B → Type 0
  Stored i out' = out' ≡ take i ys ++ drop i out

  -- and there are so many, and the output is as long as it was
  abbrev pub Laid : ℕ → List B → Type 0
  Laid i out' = (i ≤ length ys) × Stored i out' × (length out' ≡ length out)

  pub stored_next : (z : B) (i : ℕ) (y : B) (out' : List B) → Stored i out' → i < length ys → length ys ≤ length out → y ≡ get_or ys i z
      → Stored (i + 1) (set out' i y)
  stored_next z i y out' s h room e = rw (add-one i, s, e) (set_next z ys out i h (omega arith))

  pub stored_all : (i : ℕ) (out' : List B) → Stored i out' → i ≡ length ys → out' ≡ after (Ok ys) out
  stored_all i out' s end = s ∙ rw (end, take-length ys)

  pub laid_more : (z : B) (i : ℕ) (y : B) (out' : List B) → Laid i out' → i < length ys → length ys ≤ length out → y ≡ get_or ys i z
      → Laid (i + 1) (set out' i y)
  laid_more z i y out' l h room e = (omega arith, stored_next z i y out' l.1 h room e, length-set out' i y ∙ l.2)

  pub laid_all : (i : ℕ) (out' : List B) → Laid i out' → length ys ≤ i → out' ≡ after (Ok ys) out
  laid_all i out' l h = stored_all i out' l.1 (omega (arith, l.0))

-- ---- over what a mapping makes of a list whose entries are all defined
pub all_of : {B : Type 0} (m : Option (List B)) → IsSome m → m ≡ Some (unwrap_or m [])
all_of (Some ys) e = refl
all_of None e = cc

module _ {A B : Type 0} (f : A → Option B) (xs : List A) where
  abbrev pub entries : List B
  entries = unwrap_or (mapped_all f xs) []

  module _ (defined : All (λ x. IsSome (f x)) xs) where
    pub mapped : mapped_all f xs ≡ Some entries
    mapped = all_of (mapped_all f xs) (all_mapped f xs defined)

    pub as_many : length entries ≡ length xs
    as_many = all_length f xs entries mapped

    pub entry_stored : (d : A) (z : B) (i : ℕ) → i < length xs → f (get_or xs i d) ≡ Some (get_or entries i z)
    entry_stored d z i h = all_entries f d z xs entries mapped i h

    -- a store of what the next entry, x, is mapped to
    pub mapped_next : (out : List B) (i : ℕ) (x : A) (y : B) (out' : List B) → Stored entries out i out' → i < length xs → length xs ≤ length out
        → x ≡ get_or xs i x → f x ≡ Some y → Stored entries out (i + 1) (set out' i y)
    mapped_next out i x y out' s h room at e =
        let there : f (get_or xs i x) ≡ Some (get_or entries i y) = entry_stored x y i h in
        let here : y ≡ get_or entries i y = cc in
        stored_next entries out y i y out' s (omega (arith, as_many)) (omega (arith, as_many)) here

    pub stored_more : (out : List B) (i : ℕ) (x : A) (y : B) (out' : List B) → Laid entries out i out' → i < length xs → length xs ≤ length out
        → x ≡ get_or xs i x → f x ≡ Some y → Laid entries out (i + 1) (set out' i y)
    stored_more out i x y out' l h room at e =
        (omega (arith, as_many), mapped_next out i x y out' l.1 h room at e, length-set out' i y ∙ l.2)

    -- and once every entry is
    pub mapped_stored : (out : List B) (i : ℕ) (out' : List B) → Stored entries out i out' → i ≡ length xs → out' ≡ after (Ok entries) out
    mapped_stored out i out' s end = stored_all entries out i out' s (end ∙ sym as_many)
