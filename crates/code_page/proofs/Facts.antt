-- What tests that are computed over the whole table say of code page 1252: which bytes are their own units, that no two bytes share a unit, and in which bytes
-- a unit is to be looked for. Assumes nothing.
use Rattle.std.specs.Prelude.{◌≡◌, refl, Some, Bool, true, ◌||◌, ℕ, ◌<◌, ◌≤◌, T, get_or}
use Rattle.std.proofs.Common.{sym, ap, ◌∙◌, arith}
use Rattle.std.proofs.Math.Bool.{false, or-true}
use Rattle.std.proofs.Math.Dec.{ltb, leb, eqb→eq, leb→le}
use borrow.Author.Tests.{lt-ltb, le-leb, le-ltb, lt-leb, ltb-true, ltb-false, leb-false}
use Rattle.code_page.specs.Cp1252.{cp1252}
use Rattle.code_page.specs.Mapping.{mark, unit_of}
use Rattle.code_page.specs.Everywhere.{unlike, every, everywhere, distinct, not_twice}
use Rattle.code_page.specs.Facts.{entries_256, unmarked_entry, unit_entry, unit_unmarked, unit_of_byte, placed}

-- ---- bytes below 80 and from A0 up are their own units; between them every unit is from 100 up
all_placed : T (every placed 0 cp1252)
unfolding cp1252 placed
all_placed = tt

module _ (b : ℕ) (h : b < 256) where
  test : T (placed b (get_or cp1252 b mark))
  test = everywhere placed mark cp1252 all_placed b (omega (arith, entries_256))

  own_entry : ltb b 0x80 || leb 0xA0 b ≡ true → get_or cp1252 b mark ≡ b
  unfolding placed
  own_entry f = eqb→eq (get_or cp1252 b mark) b (rw f at test)

  own_unit : ltb b 0x80 || leb 0xA0 b ≡ true → unit_of b ≡ Some b
  unfolding unit_of
  own_unit f = rw (own_entry f) (unmarked_entry b (λ m. omega arith))

  pub low_own : b < 0x80 → unit_of b ≡ Some b
  low_own l = own_unit (ap (λ (w : Bool). w || leb 0xA0 b) (lt-ltb b 0x80 l))

  pub high_own : 0xA0 ≤ b → unit_of b ≡ Some b
  high_own l = own_unit (ap (λ (w : Bool). ltb b 0x80 || w) (le-leb 0xA0 b l) ∙ or-true (ltb b 0x80))

  pub between_above : 0x80 ≤ b → b < 0xA0 → 0x100 ≤ get_or cp1252 b mark
  unfolding placed
  between_above l g =
      let f : ltb b 0x80 || leb 0xA0 b ≡ false = rw (le-ltb b 0x80 l, lt-leb 0xA0 b g) in
      leb→le 0x100 (get_or cp1252 b mark) (rw f at test)

-- ---- no two bytes share a unit
all_distinct : T (distinct mark cp1252)
unfolding cp1252
all_distinct = tt

pub one_byte : (a b u : ℕ) → unit_of a ≡ Some u → unit_of b ≡ Some u → a ≡ b
one_byte a b u e f = go (ltb a b) (ltb b a) refl refl
  where
    apart : (i j : ℕ) → unit_of i ≡ Some u → unit_of j ≡ Some u → i < j → ⊥
    apart i j e f l =
        not_twice mark cp1252 all_distinct i j l (omega (arith, unit_of_byte j u f, entries_256))
        (λ m. unit_unmarked i u e (sym (unit_entry i u e) ∙ m)) (unit_entry i u e ∙ sym (unit_entry j u f))

    go : (s t : Bool) → ltb a b ≡ s → ltb b a ≡ t → a ≡ b
    go true t p q = absurd (apart a b e f (ltb-true a b p))
    go false true p q = absurd (apart b a f e (ltb-true b a q))
    go false false p q = omega (arith, ltb-false a b p, ltb-false b a q)

-- ---- in which bytes a unit is to be looked for
or_left : (a b : Bool) → a || b ≡ false → a ≡ false
or_left true b f = f
or_left false b f = refl

or_right : (a b : Bool) → a || b ≡ false → b ≡ false
or_right true b f = absurd (unlike f)
or_right false b f = f

pub below_own : (b u : ℕ) → unit_of b ≡ Some u → u < 0x100 → b ≡ u
below_own b u e l = go (ltb b 0x80 || leb 0xA0 b) refl
  where
    go : (t : Bool) → ltb b 0x80 || leb 0xA0 b ≡ t → b ≡ u
    go true f = sym (own_entry b (unit_of_byte b u e) f) ∙ unit_entry b u e
    go false f =
        let in_80 = ltb-false b 0x80 (or_left (ltb b 0x80) (leb 0xA0 b) f) in
        let in_9f = leb-false 0xA0 b (or_right (ltb b 0x80) (leb 0xA0 b) f) in
        absurd (omega (arith, between_above b (unit_of_byte b u e) in_80 in_9f, unit_entry b u e))

pub above_between : (b u : ℕ) → unit_of b ≡ Some u → 0x100 ≤ u → (0x80 ≤ b) × (b < 0xA0)
above_between b u e l = (go_low (ltb b 0x80) refl, go_high (leb 0xA0 b) refl)
  where
    own : ltb b 0x80 || leb 0xA0 b ≡ true → ⊥
    own f = omega (arith, own_entry b (unit_of_byte b u e) f, unit_entry b u e, unit_of_byte b u e)

    go_low : (t : Bool) → ltb b 0x80 ≡ t → 0x80 ≤ b
    go_low true f = absurd (own (ap (λ (w : Bool). w || leb 0xA0 b) f))
    go_low false f = ltb-false b 0x80 f

    go_high : (t : Bool) → leb 0xA0 b ≡ t → b < 0xA0
    go_high true f = absurd (own (ap (λ (w : Bool). ltb b 0x80 || w) f ∙ or-true (ltb b 0x80)))
    go_high false f = leb-false 0xA0 b f
