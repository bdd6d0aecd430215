-- Each way undoes the other, byte by byte and unit by unit: a unit comes from a byte exactly if the byte has this unit. There after back is here; back after
-- there, which rests on no two bytes sharing a unit, is in proofs/Inverse.antt. Assumes nothing.
use Rattle.std.specs.Prelude.{◌≡◌, refl, Bool, true, false, Option, Some, None, List, [], ◌∷◌, ℕ, zero, suc, ◌+◌, ◌<◌, eqb, length, get_or}
use Rattle.std.proofs.Common.{sym, ◌∙◌, subst, le_of_suc-le-suc, not-suc-le-zero, arith, eqb-true, eq-eqb, ne_eqb}
use Rattle.code_page.specs.Cp1252.{cp1252}
use Rattle.code_page.specs.Mapping.{mark, unit_of, byte_of, first_from}
use Rattle.code_page.specs.Everywhere.{unlike}
use Rattle.code_page.specs.Facts.{unmarked_entry}

pub nothing : {n : ℕ} → None ≡ Some n → ⊥
nothing e = cc

-- ---- where a unit first stands, it stands
module _ (u d : ℕ) where
  abbrev StandsAt : ℕ → ℕ → List ℕ → Type 0
  StandsAt k b xs = (j : ℕ) × (b ≡ k + j) × (get_or xs j d ≡ u) × (j < length xs)

  first_stands : (xs : List ℕ) (k b : ℕ) → first_from u k xs ≡ Some b → StandsAt k b xs
  first_stands [] k b e = absurd (nothing e)
  first_stands (x ∷ xs) k b e = go (eqb u x) refl (first_stands xs (suc k) b)
    where
      go : (t : Bool) → eqb u x ≡ t → (first_from u (suc k) xs ≡ Some b → StandsAt (suc k) b xs) → StandsAt k b (x ∷ xs)
      go true f later =
          let here : Some k ≡ Some b = rw f at e in
          let same : k ≡ b = cc in
          (0, omega arith, sym (eqb-true u x f), omega arith)
      go false f later =
          let rest = later (rw f at e) in
          (suc rest.0, omega (arith, rest.1), rest.2, omega (arith, rest.3))

  -- and where it stands somewhere, it stands first somewhere
  pub stands_first : (xs : List ℕ) (k j : ℕ) → j < length xs → get_or xs j d ≡ u → (b : ℕ) × (first_from u k xs ≡ Some b)
  stands_first [] k j h e = absurd (not-suc-le-zero h)
  stands_first (x ∷ xs) k j h e = go (eqb u x) refl j h e (stands_first xs (suc k))
    where
      go : (t : Bool) → eqb u x ≡ t → (j : ℕ) → j < length (x ∷ xs) → get_or (x ∷ xs) j d ≡ u
          → ((j : ℕ) → j < length xs → get_or xs j d ≡ u → (b : ℕ) × (first_from u (suc k) xs ≡ Some b))
          → (b : ℕ) × (first_from u k (x ∷ xs) ≡ Some b)
      go true f j h e later = (k, rw f)
      go false f zero h e later = absurd (unlike (sym (eq-eqb u x (sym e)) ∙ f))
      go false f (suc j) h e later = let rest = later j (le_of_suc-le-suc h) e in (rest.0, rw f rest.1)

-- ---- there after back
pub there : (u b : ℕ) → byte_of u ≡ Some b → unit_of b ≡ Some u
unfolding byte_of unit_of
there u b e = go (eqb u mark) refl
  where
    go : (t : Bool) → eqb u mark ≡ t → unit_of b ≡ Some u
    go true f = let z : None ≡ Some b = rw f at e in absurd (nothing z)
    go false f =
        let found : first_from u 0 cp1252 ≡ Some b = rw f at e in
        let at = first_stands u mark cp1252 0 b found in
        let place : at.0 ≡ b = omega (arith, at.1) in
        let entry : get_or cp1252 b mark ≡ u = subst (λ (j : ℕ). get_or cp1252 j mark ≡ u) place at.2 in
        rw entry (unmarked_entry u (λ m. unlike (sym (eq-eqb u mark m) ∙ f)))

pub by_search : (u k : ℕ) → (u ≡ mark → ⊥) → first_from u 0 cp1252 ≡ Some k → byte_of u ≡ Some k
unfolding byte_of
by_search u k n f = rw (ne_eqb u mark n) f

-- a unit that no byte has comes from none
pub no_byte : (u : ℕ) → ((b : ℕ) → unit_of b ≡ Some u → ⊥) → byte_of u ≡ None
no_byte u none = go (byte_of u) refl
  where
    go : (m : Option ℕ) → byte_of u ≡ m → byte_of u ≡ None
    go (Some b) e = absurd (none b (there u b e))
    go None e = e
