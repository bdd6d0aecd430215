-- Valid UTF-16: document 01's words as a relation, and the test that decides it in one pass. Assumes nothing.
use Rattle.std.specs.Prelude.{◌≡◌, refl, Bool, true, false, not, ◌&&◌, List, [], ◌∷◌, ◌↔◌, ℕ, zero, suc, leb, get_or}
use Rattle.std.proofs.Common.{sym, arith}
use Rattle.std.specs.Bool.{beq}
use Rattle.std.proofs.lemmas.Bool.{not-true}

-- D800 to DBFF, and DC00 to DFFF
abbrev pub high : ℕ → Bool
high u = leb 0xd800 u && leb u 0xdbff

abbrev pub low : ℕ → Bool
low u = leb 0xdc00 u && leb u 0xdfff

-- each of D800 to DBFF stands right before one of DC00 to DFFF, and neither kind stands otherwise (past the end stands no unit)
pub record Utf16 (us : List ℕ) : Type 0 where
  pub first : low (get_or us 0 0) ≡ false
  pub paired : (i : ℕ) → high (get_or us i 0) ≡ low (get_or us (suc i) 0)

-- the same in one pass: b says whether the unit before was of D800 to DBFF
abbrev pub paired_from : Bool → List ℕ → Bool
paired_from b [] = not b
paired_from b (u ∷ us) = beq (low u) b && paired_from (high u) us

-- ---- the test decides the relation
and_left : (a b : Bool) → (a && b) ≡ true → a ≡ true
and_left true b e = refl
and_left false b e = e

and_right : (a b : Bool) → (a && b) ≡ true → b ≡ true
and_right true b e = e
and_right false b e = let z : ◌≡◌ {A = ℕ} 0 1 = cc in absurd (omega arith)

pub same_to : (a b : Bool) → beq a b ≡ true → a ≡ b
same_to true true e = refl
same_to false false e = refl
same_to true false e = sym e
same_to false true e = e

pub same_from : (a b : Bool) → a ≡ b → beq a b ≡ true
same_from true b e = rw (← e)
same_from false b e = rw (← e)

abbrev pub Pairs : List ℕ → Type 0
Pairs us = (i : ℕ) → high (get_or us i 0) ≡ low (get_or us (suc i) 0)

one_more : (u : ℕ) (us : List ℕ) → high u ≡ low (get_or us 0 0) → Pairs us → Pairs (u ∷ us)
one_more u us h k zero = h
one_more u us h k (suc i) = k i

-- the first unit is of DC00 to DFFF just where one of D800 to DBFF stood before it, and the others are paired
to : (b : Bool) (us : List ℕ) → paired_from b us ≡ true → (low (get_or us 0 0) ≡ b) × Pairs us
to b [] e = (sym (not-true b e), λ i. refl)
to b (u ∷ us) e =
    let t = to (high u) us (and_right (beq (low u) b) (paired_from (high u) us) e) in
    (same_to (low u) b (and_left (beq (low u) b) (paired_from (high u) us) e), one_more u us (sym t.0) t.1)

from : (b : Bool) (us : List ℕ) → low (get_or us 0 0) ≡ b → Pairs us → paired_from b us ≡ true
from b [] e f = rw (← e)
from b (u ∷ us) e f = rw (same_from (low u) b e, from (high u) us (sym (f 0)) (λ i. f (suc i)))

pub utf16_test : (us : List ℕ) → paired_from false us ≡ true ↔ Utf16 us
utf16_test us = (
  λ e. let t = to false us e in record { first = t.0; paired = t.1 },
  λ v. from false us v.first v.paired,
)
