-- What is its own entry is mapped to itself, either way; and a unit that is not own can only be a byte's from 80 to 9F (hexadecimal). Assumes nothing.
use Rattle.std.specs.Prelude.{◌≡◌, refl, Some, is_some, Bool, true, false, ◌&&◌, ◌||◌, ℕ, ◌<◌, ◌≤◌, ltb, leb}
use Rattle.std.proofs.Common.{arith, ltb-true, ltb-false, leb-true, lt-ltb}
use Rattle.std.proofs.Math.Bool.{and-true}
use Rattle.code_page.specs.Mapping.{unit_of, byte_of}
use Rattle.code_page.specs.Own.{is_own, both, not_own_between}
use Rattle.code_page.proofs.Facts.{low_own, high_own, below_own, above_between}
use Rattle.code_page.proofs.Inverse.{back}

pub own_unit : (x : ℕ) → is_own x ≡ true → unit_of x ≡ Some x
own_unit x e = go (ltb x 0x80) refl
  where
    go : (t : Bool) → ltb x 0x80 ≡ t → unit_of x ≡ Some x
    go true f = let l = ltb-true x 0x80 f in low_own x (omega arith) l
    go false f =
        let rest : leb 0xA0 x && ltb x 0x100 ≡ true = rw f at e in
        let parts = both (leb 0xA0 x) (ltb x 0x100) rest in
        high_own x (ltb-true x 0x100 parts.1) (leb-true 0xA0 x parts.0)

pub own_byte : (x : ℕ) → is_own x ≡ true → byte_of x ≡ Some x
own_byte x e = back x x (own_unit x e)

-- so either is mapped to something
pub unit_there : (x : ℕ) → is_own x ≡ true → is_some (unit_of x) ≡ true
unit_there x e = rw (own_unit x e)

pub byte_there : (x : ℕ) → is_own x ≡ true → is_some (byte_of x) ≡ true
byte_there x e = rw (own_byte x e)

-- of a byte the second bound holds anyhow
pub own_of_byte : (b : ℕ) → b < 256 → is_own b ≡ ltb b 0x80 || leb 0xA0 b
own_of_byte b h = rw (lt-ltb b 0x100 h, and-true (leb 0xA0 b))

pub other_between : (b u : ℕ) → unit_of b ≡ Some u → is_own u ≡ false → (0x80 ≤ b) × (b < 0xA0)
other_between b u e n = go (ltb u 0x100) refl
  where
    go : (t : Bool) → ltb u 0x100 ≡ t → (0x80 ≤ b) × (b < 0xA0)
    go true f =
        let small = ltb-true u 0x100 f in
        let same : b ≡ u = below_own b u e small in
        rw same (not_own_between u n small)
    go false f = above_between b u e (ltb-false u 0x100 f)
