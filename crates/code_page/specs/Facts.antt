-- The facts about code page 1252: which bytes are undefined, computed over the whole table, and the test of which bytes are their own units. That the table
-- passes it, and that no two bytes share a unit, is proved in proofs/Facts.antt, so that another table fails there. Assumes nothing.
use Rattle.std.specs.Prelude.{◌≡◌, refl, Bool, true, not, cond, ◌||◌, Option, Some, None, is_some, List, [], ◌∷◌, ℕ, zero, suc, ◌<◌, ◌≤◌, eqb, length, get_or}
use Rattle.std.proofs.Common.{sym, ap, ◌∙◌, le_of_suc-le-suc, not-suc-le-zero, arith}
use Rattle.std.proofs.Math.Bool.{false}
use Rattle.std.proofs.Math.Dec.{ltb, leb}
use Rattle.std.proofs.Math.ListN.{get_or-eq_default}
use borrow.Author.Tests.{ltb-true, ltb-false, eq-eqb, ne_eqb}
use Rattle.code_page.specs.Cp1252.{cp1252}
use Rattle.code_page.specs.Mapping.{mark, unmarked, unit_of}
use Rattle.code_page.specs.Everywhere.{unlike}

pub entries_256 : length cp1252 ≡ 256
unfolding cp1252
entries_256 = refl

-- ---- what an entry says of its byte
pub unmarked_entry : (x : ℕ) → (x ≡ mark → ⊥) → unmarked x ≡ Some x
unmarked_entry x n = rw (ne_eqb x mark n)

pub entry_defined : (x u : ℕ) → unmarked x ≡ Some u → (x ≡ u) × (x ≡ mark → ⊥)
entry_defined x u e = go (eqb x mark) refl
  where
    go : (t : Bool) → eqb x mark ≡ t → (x ≡ u) × (x ≡ mark → ⊥)
    go true f = let z : None ≡ Some u = rw f at e in cc
    go false f = let z : Some x ≡ Some u = rw f at e in (cc, λ m. unlike (sym (eq-eqb x mark m) ∙ f))

module _ (b u : ℕ) (e : unit_of b ≡ Some u) where
  pub unit_entry : get_or cp1252 b mark ≡ u
  unfolding unit_of
  unit_entry = (entry_defined (get_or cp1252 b mark) u e).0

  pub unit_unmarked : u ≡ mark → ⊥
  unfolding unit_of
  unit_unmarked m = (entry_defined (get_or cp1252 b mark) u e).1 (unit_entry ∙ m)

  -- what has a unit is a byte
  pub unit_of_byte : b < 256
  unit_of_byte = go (ltb b 256) refl
    where
      go : (t : Bool) → ltb b 256 ≡ t → b < 256
      go true f = omega (arith, ltb-true b 256 f)
      go false f =
          let past : length cp1252 ≤ b = omega (arith, ltb-false b 256 f, entries_256) in
          absurd (unit_unmarked (sym unit_entry ∙ get_or-eq_default cp1252 mark past))

-- ---- the undefined bytes, all of them
abbrev only_undefined : ℕ → Option ℕ → List ℕ → List ℕ
only_undefined b None bs = b ∷ bs
only_undefined b (Some u) bs = bs

-- of n bytes from b on
abbrev pub undefined_from : ℕ → ℕ → List ℕ
undefined_from b zero = []
undefined_from b (suc n) = only_undefined b (unit_of b) (undefined_from (suc b) n)

pub undefined_bytes : undefined_from 0 256 ≡ 0x81 ∷ 0x8D ∷ 0x8F ∷ 0x90 ∷ 0x9D ∷ []
unfolding unit_of cp1252
undefined_bytes = refl

-- ---- bytes below 80 and from A0 up are their own units; between them every unit is from 100 up
unfoldable pub placed : ℕ → ℕ → Bool
placed k x = cond (ltb k 0x80 || leb 0xA0 k) (eqb x k) (leb 0x100 x)

-- ---- what a look at the table says, whatever stands for a place past its end
same_entry : (d e : ℕ) (xs : List ℕ) (k : ℕ) → k < length xs → get_or xs k d ≡ get_or xs k e
same_entry d e [] k h = absurd (not-suc-le-zero h)
same_entry d e (x ∷ xs) zero h = refl
same_entry d e (x ∷ xs) (suc k) h = same_entry d e xs k (le_of_suc-le-suc h)

pub looked_up : (b : ℕ) → b < 256 → get_or cp1252 b mark ≡ get_or cp1252 b 0
looked_up b h = same_entry mark 0 cp1252 b (omega (arith, entries_256))

pub found_marked : (b : ℕ) → b < 256 → get_or cp1252 b 0 ≡ mark → unit_of b ≡ None
unfolding unit_of
found_marked b h e = rw (looked_up b h ∙ e)

pub found_unit : (b u : ℕ) → b < 256 → get_or cp1252 b 0 ≡ u → (u ≡ mark → ⊥) → unit_of b ≡ Some u
unfolding unit_of
found_unit b u h e n = rw (looked_up b h ∙ e) (unmarked_entry u n)

pub defined_entry : (b : ℕ) → b < 256 → is_some (unit_of b) ≡ not (eqb (get_or cp1252 b 0) mark)
unfolding unit_of
defined_entry b h = rw (looked_up b h) (go (eqb (get_or cp1252 b 0) mark))
  where
    go : (t : Bool) → is_some (cond t None (Some (get_or cp1252 b 0))) ≡ not t
    go true = refl
    go false = refl

pub known_unit : (b : ℕ) → b < 256 → is_some (unit_of b) ≡ true → unit_of b ≡ Some (get_or cp1252 b 0)
known_unit b h e = go (unit_of b) refl e
  where
    go : (m : Option ℕ) → unit_of b ≡ m → is_some m ≡ true → unit_of b ≡ Some (get_or cp1252 b 0)
    go (Some u) p e = p ∙ ap Some (sym (unit_entry b u p) ∙ looked_up b h)
    go None p e = cc
