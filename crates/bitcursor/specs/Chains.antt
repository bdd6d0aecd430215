-- How the layouts of fields are put together into those of what they make: one behind the other, at some place in between. A place is P here: a bit
-- number in one payload, or one in each of two. Assumes nothing.
use Rattle.std.specs.Prelude.{◌≡◌, List, [], ◌∷◌}

infixr 5 ◌⨾◌
-- one behind the other
abbrev pub ◌⨾◌ : {P : Type 0} → (P → P → Type 0) → (P → P → Type 0) → P → P → Type 0
◌⨾◌ {P} L M p q = (r : P) × L p r × M r q

-- no bits
abbrev pub Nothing : {P : Type 0} → P → P → Type 0
Nothing p q = q ≡ p

-- the items of a list one behind the other, each by a running sum of those before it
abbrev pub EachBy : {A S P : Type 0} → (S → A → P → P → Type 0) → (S → A → S) → S → List A → P → P → Type 0
EachBy L add s [] = Nothing
EachBy L add s (a ∷ items) = L s a ⨾ EachBy L add (add s a) items

-- the items of a list one behind the other
abbrev pub Each : {A P : Type 0} → (A → P → P → Type 0) → List A → P → P → Type 0
Each L = EachBy (λ (s : Unit {0}). L) (λ s a. s) tt
