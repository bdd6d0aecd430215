-- A field's layout by its code, and that a code which is built by `>>=` stands from p to q exactly where its two parts stand one behind the other.
-- Assumes nothing.
use Rattle.std.specs.Prelude.{◌≡◌, List, [], ◌++◌, ℕ, ◌+◌}
use Rattle.std.proofs.Math.Path.{refl, ap, subst}
use native.Mathlib.Omega.{arith}
use Rattle.std.proofs.Math.ListN.{length, length-append}
use Rattle.loads.specs.Bits.{Stands}
use Rattle.loads.specs.BitLaws.{stands_none, stands_join, stands_left, stands_right}
use Rattle.bitcursor.specs.Code.{Code, Laid, give, ◌>>=◌}

-- from p to q the payload has a code of the value
abbrev pub Coded : {A : Type 0} → List ℕ → Code A → A → ℕ → ℕ → Type 0
Coded xs c a p q = Laid c.codes xs a p q

module _ {A B : Type 0} (c : Code A) (k : A → Code B) {xs : List ℕ} {b : B} {p q : ℕ} where
  -- what holds of the first part's value, the place in between and both parts, holds
  pub apart : {X : Type 0} → Laid (c >>= k).codes xs b p q
      → ((a : A) (r : ℕ) → Laid c.codes xs a p r → Laid (k a).codes xs b r q → X) → X
  unfolding ◌>>=◌
  apart l then =
      let ds = l.listed.1 in
      let es = l.listed.2 in
      let s = subst (Stands xs p) l.listed.5 l.stands in
      let e : q ≡ p + length ds + length es = omega (arith, l.ends, ap length l.listed.5, length-append ds es) in
      then l.listed.0 (p + length ds)
      (record { code = ds; listed = l.listed.3; stands = stands_left xs p ds es s; ends = refl })
      (record { code = es; listed = l.listed.4; stands = stands_right xs p ds es s; ends = e })

  pub joined : (a : A) {r : ℕ} → Laid c.codes xs a p r → Laid (k a).codes xs b r q → Laid (c >>= k).codes xs b p q
  unfolding ◌>>=◌
  joined a m n =
      record {
        code = m.code ++ n.code;
        listed = (a, m.code, n.code, m.listed, n.listed, refl);
        stands = stands_join xs p m.code n.code m.stands (subst (λ (x : ℕ). Stands xs x n.code) m.ends n.stands);
        ends = omega (arith, m.ends, n.ends, length-append m.code n.code);
      }

-- a value with no bits
module _ {A : Type 0} (a : A) {xs : List ℕ} {b : A} {p q : ℕ} where
  pub no_bits : Laid (give a).codes xs b p q → (b ≡ a) × (q ≡ p)
  unfolding give
  no_bits l = (l.listed.0, omega (arith, l.ends, ap length l.listed.1))

  pub of_no_bits : b ≡ a → q ≡ p → Laid (give a).codes xs b p q
  unfolding give
  of_no_bits e f = record { code = []; listed = (e, refl); stands = stands_none xs p; ends = omega arith }
