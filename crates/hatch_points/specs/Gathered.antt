-- What a walk gathers for the lent lists, in reading order, and whether a path came from a boundary object; and what is gathered by reading
-- a format: its values are forgotten, their entries kept. Assumes nothing.
use Rattle.std.specs.Prelude.{◌≡◌, Bool, false, ◌||◌, List, [], ◌∷◌, ◌++◌}
use Rattle.std.proofs.Math.Path.{refl, ap}
use Rattle.std.proofs.Common.{◌∙◌}
use Prim.Native.Nat.{ℕ, zero, suc, ◌/◌}
use Rattle.loads.specs.Bits.{odd}
use Rattle.bitcursor.specs.Reading.{Out, got, refused, and_then}
use Rattle.bitcursor.specs.Format.{Format, pure, ◌>>=◌}
use Rattle.bitcursor.specs.Inputs.{one}

pub record Entries : Type 0 where
  pub words : List ℕ
  pub numbers : List ℕ
  pub derived : Bool

abbrev pub none : Entries
none = record { words = []; numbers = []; derived = false }

abbrev pub words : List ℕ → Entries
words ws = record { words = ws; numbers = []; derived = false }

abbrev pub word : ℕ → Entries
word w = words (w ∷ [])

abbrev pub numbers : List ℕ → Entries
numbers ns = record { words = []; numbers = ns; derived = false }

-- a path's flags, as a word, and whether they say that it came from a boundary object
abbrev pub flag_entries : ℕ → Entries
flag_entries flags = record { words = flags ∷ []; numbers = []; derived = odd (flags / 4) }

-- one behind the other
abbrev pub plus : Entries → Entries → Entries
plus a b = record { words = a.words ++ b.words; numbers = a.numbers ++ b.numbers; derived = a.derived || b.derived }

abbrev pub all : {A : Type 0} → (A → Entries) → List A → Entries
all f [] = none
all f (a ∷ items) = plus (f a) (all f items)

-- what a reading gathers
abbrev pub gathered : {A : Type 0} → (A → Entries) → Out ℕ A → Out ℕ Entries
gathered f o = and_then o (λ a q. got (f a) q)

-- ---- a format that gathers, beside one that reads values
module _ {A B : Type 0} (f : B → Entries) (xs : List ℕ) (p : ℕ) where
  -- both read the same first
  pub same_first : (c : Format one A) (g : A → Format one B) (h : A → Format one Entries)
      → ((a : A) (q : ℕ) → c.read xs p ≡ got a q → gathered f ((g a).read xs q) ≡ (h a).read xs q)
      → gathered f ((c >>= g).read xs p) ≡ (c >>= h).read xs p
  unfolding ◌>>=◌
  same_first c g h k = go (c.read xs p) refl
    where
      go : (o : Out ℕ A) → c.read xs p ≡ o → gathered f (and_then o (λ a r. (g a).read xs r)) ≡ and_then o (λ a r. (h a).read xs r)
      go (got a q) e = k a q e
      go (refused n q) e = refl

  -- the first of the one gathers what the first of the other reads
  pub first_gathers : (e : A → Entries) (c : Format one A) (d : Format one Entries) (g : A → Format one B) (h : Entries → Format one Entries)
      → gathered e (c.read xs p) ≡ d.read xs p
      → ((a : A) (q : ℕ) → c.read xs p ≡ got a q → gathered f ((g a).read xs q) ≡ (h (e a)).read xs q)
      → gathered f ((c >>= g).read xs p) ≡ (d >>= h).read xs p
  unfolding ◌>>=◌
  first_gathers e c d g h i k = go (c.read xs p) refl ∙ ap (λ (o : Out ℕ Entries). and_then o (λ a r. (h a).read xs r)) i
    where
      go : (o : Out ℕ A) → c.read xs p ≡ o → gathered f (and_then o (λ a r. (g a).read xs r)) ≡ and_then (gathered e o) (λ a r. (h a).read xs r)
      go (got a q) j = k a q j
      go (refused n q) j = refl

-- and the last
pub last_gathers : {B : Type 0} (f : B → Entries) (xs : List ℕ) (p : ℕ) (b : B) {e : Entries} → f b ≡ e
    → gathered f ((pure {M = one} b).read xs p) ≡ (pure {M = one} e).read xs p
unfolding pure
last_gathers f xs p b i = ap (λ (e : Entries). got e p) i

-- entries that stand before what a walk gathers
pub more_gathers : {A : Type 0} (f e : A → Entries) (w : Entries) (c : Format one A) (d : Format one Entries) (xs : List ℕ) (p : ℕ)
    → gathered e (c.read xs p) ≡ d.read xs p → ((a : A) (q : ℕ) → c.read xs p ≡ got a q → f a ≡ plus w (e a))
    → gathered f (c.read xs p) ≡ (d >>= λ x. pure {M = one} (plus w x)).read xs p
unfolding ◌>>=◌ pure
more_gathers {A} f e w c d xs p i k = go (c.read xs p) refl ∙ ap (λ (o : Out ℕ Entries). and_then o (λ x q. got (plus w x) q)) i
  where
    go : (o : Out ℕ A) → c.read xs p ≡ o → gathered f o ≡ and_then (gathered e o) (λ x q. got (plus w x) q)
    go (got a q) j = ap (λ (x : Entries). got x q) (k a q j)
    go (refused n q) j = refl

-- n walks
unfoldable pub repeated : ℕ → Format one Entries → Format one Entries
repeated zero d = pure none
repeated (suc n) d = d >>= λ e. repeated n d >>= λ es. pure (plus e es)
