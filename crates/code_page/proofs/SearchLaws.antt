-- Looking for a unit among the bytes 80 to 9F (hexadecimal): what was found so far, and what it is at the end. Assumes nothing.
use Rattle.std.specs.Prelude.{◌≡◌, refl, Option, Some, None, Bool, true, false, List, ℕ, ◌+◌, ◌<◌, ◌≤◌, ltb, get_or}
use Rattle.std.proofs.Common.{sym, ◌∙◌, subst, arith, ltb-true, ltb-false}
use Rattle.code_page.specs.Cp1252.{cp1252}
use Rattle.code_page.specs.Mapping.{unit_of, byte_of, mark}
use Rattle.code_page.specs.Facts.{unit_entry, looked_up, found_unit, unit_of_byte}
use Rattle.code_page.specs.Inverse.{no_byte}
use Rattle.code_page.specs.Own.{is_own}
use Rattle.code_page.proofs.Inverse.{back}
use Rattle.code_page.proofs.OwnEntries.{other_between}

-- from 128 to a place the unit stands nowhere and nothing was found, or it stands where it was found
pub data Searched (table : List ℕ) (unit to : ℕ) : Option ℕ → Type 0 where
  nowhere : ((k : ℕ) → 128 ≤ k → k < to → get_or table k 0 ≡ unit → ⊥) → Searched table unit to None
  somewhere : (found : ℕ) → 128 ≤ found → found < 160 → get_or table found 0 ≡ unit → Searched table unit to (Some found)

module _ (table : List ℕ) (unit to : ℕ) where
  pub further : (found : Option ℕ) → Searched table unit to found → (get_or table to 0 ≡ unit → ⊥) → Searched table unit (to + 1) found
  further None (nowhere none) other = nowhere one_more
    where
      one_more : (k : ℕ) → 128 ≤ k → k < to + 1 → get_or table k 0 ≡ unit → ⊥
      one_more k l h e = go (ltb k to) refl
        where
          go : (t : Bool) → ltb k to ≡ t → ⊥
          go true f = none k l (ltb-true k to f) e
          go false f = let same : k ≡ to = omega (arith, ltb-false k to f) in other (subst (λ (j : ℕ). get_or table j 0 ≡ unit) same e)
  further (Some found) (somewhere at l h e) other = somewhere at l h e

-- at the end what was found is the unit's byte, or no byte has it
pub searched : (table : List ℕ) (unit : ℕ) (found : Option ℕ) → table ≡ cp1252 → is_own unit ≡ false → (unit ≡ mark → ⊥) → Searched table unit 160 found
    → found ≡ byte_of unit
searched table unit None lent other unmarked (nowhere none) = sym (no_byte unit no)
  where
    no : (b : ℕ) → unit_of b ≡ Some unit → ⊥
    no b e =
        let place = other_between b unit e other in
        let entry : get_or cp1252 b 0 ≡ unit = sym (looked_up b (unit_of_byte b unit e)) ∙ unit_entry b unit e in
        none b place.0 place.1 (rw lent entry)
searched table unit (Some found) lent other unmarked (somewhere at l h e) =
    let entry : get_or cp1252 at 0 ≡ unit = rw lent at e in
    sym (back at unit (found_unit at unit (omega arith) entry unmarked))
