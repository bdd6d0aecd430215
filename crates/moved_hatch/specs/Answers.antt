-- Which answer a call gives, and why: 11 exactly if record and lists are not whole; then 12 exactly if the extrusion is not (0, 0, 1); then 13 exactly if the
-- origin or a coordinate is not a number within ±2 ^ 40; else the coordinates are moved. Assumes nothing.
use Rattle.std.proofs.Math.Path.{◌≡◌}
use Rattle.std.specs.Prelude.{Bool, List, [], ◌∷◌, ℕ, Float}
use Rattle.std.proofs.Math.Bool.{true, false}
use Rattle.differences.specs.Rational.{Within}
use Rattle.hatch_lists.specs.declared.HatchCounts.{HatchCounts}
use Rattle.hatch_lists.specs.Holding.{Holding}
use Rattle.hatch_lists.specs.Whole.{Whole}
use Rattle.hatch_lists.specs.Coordinates.{Role, x, y, other, held_roles}
use Rattle.moved_hatch.specs.declared.MoveRefusal.TheVariants.{ListsNotWhole, OtherPlane, CoordinateOutOfRange}
use Rattle.moved_hatch.specs.Moving.{Outcome, moves, refuses, Arithmetic, patterns}

-- a coordinate is a number within ±2 ^ 40; `value` is the double that an entry is
abbrev pub EntryWithin : {A : Type 0} → (A → Float) → Role → A → Type 0
EntryWithin value x a = Within 40 (value a)
EntryWithin value y a = Within 40 (value a)
EntryWithin value other a = Unit {0}

abbrev pub EachWithin : {A : Type 0} → (A → Float) → List Role → List A → Type 0
EachWithin value [] l = Unit {0}
EachWithin value (r ∷ rs) [] = Unit {0}
EachWithin value (r ∷ rs) (a ∷ l) = EntryWithin value r a × EachWithin value rs l

module _ {A : Type 0} (m : Arithmetic A) (value : A → Float) (c : HatchCounts) (upright : Bool) (ws : List ℕ) (ns : List A) (x₀ y₀ : A) where
  abbrev pub Holds : Holding → Type 0
  Holds a = Whole c ws (patterns m.pattern ns) a

  -- the origin, and each coordinate of this hatch
  abbrev pub AllWithin : Holding → Type 0
  AllWithin a = Within 40 (value x₀) × Within 40 (value y₀) × EachWithin value (held_roles a) ns

  -- each answer and what it stands for; proofs/Answers: the outcome is one of these, and no other
  pub data Answers : Outcome → Type 0 where
    none_held : ((a : Holding) → Holds a → ⊥) → Answers (refuses ListsNotWhole)
    tilted : (a : Holding) → Holds a → upright ≡ false → Answers (refuses OtherPlane)
    beyond : (a : Holding) → Holds a → upright ≡ true → (AllWithin a → ⊥) → Answers (refuses CoordinateOutOfRange)
    all_moved : (a : Holding) → Holds a → upright ≡ true → AllWithin a → Answers (moves (held_roles a))
