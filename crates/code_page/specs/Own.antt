-- Entries that are mapped to themselves, either way: below 80 and from A0 to FF (hexadecimal). That they are, by the table, is proved in
-- proofs/OwnEntries.antt. Assumes nothing.
use Rattle.std.specs.Prelude.{◌≡◌, refl, Bool, true, false, ◌&&◌, ◌||◌, Option, Some, List, [], ◌∷◌, ℕ, ◌<◌, ◌≤◌, ltb, leb}
use Rattle.std.proofs.Common.{sym, ◌∙◌, arith, ltb-true, ltb-false, leb-false, lt-ltb}
use Rattle.std.proofs.Math.Bool.{or-true}
use Rattle.std.specs.List.{list_all}
use Rattle.code_page.specs.Conversion.{mapped_all}
use Rattle.code_page.specs.Everywhere.{unlike}

abbrev pub is_own : ℕ → Bool
is_own x = ltb x 0x80 || (leb 0xA0 x && ltb x 0x100)

pub both : (a b : Bool) → a && b ≡ true → (a ≡ true) × (b ≡ true)
both true b e = (refl, e)
both false b e = absurd (unlike (sym e))

-- a list of such entries is mapped to itself
pub own_mapped : (f : ℕ → Option ℕ) → ((x : ℕ) → is_own x ≡ true → f x ≡ Some x) → (xs : List ℕ) → list_all is_own xs ≡ true → mapped_all f xs ≡ Some xs
own_mapped f own [] e = refl
own_mapped f own (x ∷ xs) e =
    let parts = both (is_own x) (list_all is_own xs) e in
    rw (own x parts.0, own_mapped f own xs parts.1)

pub own_small : (x : ℕ) → is_own x ≡ true → x < 0x100
own_small x e = go (ltb x 0x80) refl
  where
    go : (t : Bool) → ltb x 0x80 ≡ t → x < 0x100
    go true f = let l = ltb-true x 0x80 f in omega arith
    go false f =
        let rest : leb 0xA0 x && ltb x 0x100 ≡ true = rw f at e in
        ltb-true x 0x100 (both (leb 0xA0 x) (ltb x 0x100) rest).1

-- ---- a unit that is not own and below 100 is from 80 to 9F
pub not_own_between : (x : ℕ) → is_own x ≡ false → x < 0x100 → (0x80 ≤ x) × (x < 0xA0)
not_own_between x n h = (low (ltb x 0x80) refl, high (leb 0xA0 x) refl)
  where
    low : (t : Bool) → ltb x 0x80 ≡ t → 0x80 ≤ x
    low true f = absurd (unlike (rw f at n))
    low false f = ltb-false x 0x80 f

    high : (t : Bool) → leb 0xA0 x ≡ t → x < 0xA0
    high true f = absurd (unlike (sym (or-true (ltb x 0x80)) ∙ (rw (f, lt-ltb x 0x100 h) at n)))
    high false f = leb-false 0xA0 x f
