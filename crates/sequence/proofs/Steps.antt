-- Fields in a row: each step reads where the one before ended, and a refusal stays. How code that reads so follows a code that is
-- built by `>>=`, one law a field. Assumes nothing.
use Rattle.std.specs.Prelude.{◌≡◌, refl, List, ℕ, ◌<◌}
use Rattle.std.proofs.Common.{sym, ap, ◌∙◌}
use Rattle.bitcursor.specs.declared.Refusal.{Refusal}
use Rattle.bitcursor.specs.Reading.{Out, got, refused, and_then}
use Rattle.bitcursor.specs.Code.{Code, ◌>>=◌}
use Rattle.bitcursor.specs.Ranges.{Below, read_below}

-- ---- the steps of the code
-- the next answer, where the one before was a value
abbrev pub then_read : {A B : Type 0} → (ℕ → Out ℕ B) → Out ℕ A → Out ℕ B
then_read f o = and_then o (λ v p. f p)

-- the value of an answer, and of a refusal the one that is given for it
abbrev pub value_of : {A : Type 0} → A → Out ℕ A → A
value_of absent (got v p) = v
value_of absent (refused r p) = absent

-- what is still to be read after an answer
abbrev pub resume : {A B : Type 0} → List ℕ → (A → Code B) → Out ℕ A → Out ℕ B
resume xs k o = and_then o (λ v p. (k v).read xs p)

module _ {A B : Type 0} (xs : List ℕ) where
  pub read_on : (c : Code A) (k : A → Code B) (p : ℕ) → (c >>= k).read xs p ≡ resume xs k (c.read xs p)
  unfolding ◌>>=◌
  read_on c k p = refl

  -- the first field
  pub first : (c : Code A) (k : A → Code B) (p : ℕ) {o : Out ℕ A} → o ≡ c.read xs p → (c >>= k).read xs p ≡ resume xs k o
  unfolding ◌>>=◌
  first c k p e = ap (resume xs k) (sym e)

module _ {A B C : Type 0} (xs : List ℕ) where
  -- one field more, whose code may look at the value before
  pub next : (c : A → Code B) (k : A → B → Code C) (absent : A) (o : Out ℕ A) {y : Out ℕ B} → y ≡ then_read ((c (value_of absent o)).read xs) o
      → resume xs (λ v. c v >>= k v) o ≡ resume xs (k (value_of absent o)) y
  unfolding ◌>>=◌
  next c k absent (got v p) e = ap (resume xs (k v)) (sym e)
  next c k absent (refused r p) e = ap (resume xs (k absent)) (sym e)

-- ---- the range of a step's number
pub step_below : {A : Type 0} (n : ℕ) (c : Code ℕ) → 0 < n → Below n c → (xs : List ℕ) (o : Out ℕ A) {y : Out ℕ ℕ}
    → y ≡ then_read (c.read xs) o → value_of 0 y < n
step_below n c z b xs (got v p) e = rw e (go (c.read xs p) refl)
  where
    go : (o : Out ℕ ℕ) → c.read xs p ≡ o → value_of 0 o < n
    go (got a q) h = read_below c b xs p h
    go (refused r q) h = z
step_below n c z b xs (refused r p) e = rw e z

-- ---- a field that goes on from an answer, code after code: o is what its first code's step answered
module _ {A B C : Type 0} (f : Code B) (g : B → Code C) (xs : List ℕ) where
  pub then_on : (prior : Out ℕ A) {o : Out ℕ B} {v : B} {p : ℕ} → o ≡ then_read (f.read xs) prior → o ≡ got v p
      → then_read ((f >>= g).read xs) prior ≡ (g v).read xs p
  unfolding ◌>>=◌
  then_on (got u q) e h = let there : f.read xs q ≡ got _ _ = sym e ∙ h in ap (resume xs g) there
  then_on (refused r q) e h = cc

  pub then_off : (prior : Out ℕ A) {o : Out ℕ B} {r : Refusal} {p : ℕ} → o ≡ then_read (f.read xs) prior → o ≡ refused r p
      → then_read ((f >>= g).read xs) prior ≡ refused r p
  unfolding ◌>>=◌
  then_off (got u q) e h = ap (resume xs g) (sym e ∙ h)
  then_off (refused n q) e h = cc
