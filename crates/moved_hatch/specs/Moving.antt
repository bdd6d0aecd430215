-- A hatch's points relative to an origin: what a call answers, and every entry of the list of numbers afterwards. One definition for doubles and
-- for their 64 bits: `A` is what an entry is. Assumes nothing.
use Rattle.std.specs.Prelude.{◌≡◌, Bool, true, false, ◌&&◌, List, [], ◌∷◌, ℕ, Result, Ok, Err}
use Rattle.hatch_lists.specs.declared.HatchCounts.{HatchCounts}
use Rattle.hatch_lists.specs.Whole.{Held, whole, not_whole, held}
use Rattle.hatch_lists.specs.Coordinates.{Role, x, y, other, held_roles}
use Rattle.moved_hatch.specs.declared.MoveRefusal.{MoveRefusal}
use Rattle.moved_hatch.specs.declared.MoveRefusal.TheVariants.{ListsNotWhole, OtherPlane, CoordinateOutOfRange}

-- the numbers of document 02's table
abbrev pub move_refusal_number : MoveRefusal → ℕ
move_refusal_number ListsNotWhole = 11
move_refusal_number OtherPlane = 12
move_refusal_number CoordinateOutOfRange = 13

module _ {A : Type 0} where
  -- ---- each coordinate less the origin's, x by x and y by y; all else stays
  module _ (difference : A → A → A) (x₀ y₀ : A) where
    abbrev pub moved_one : Role → A → A
    moved_one x a = difference a x₀
    moved_one y a = difference a y₀
    moved_one other a = a

    -- entries past those that have a role stay
    abbrev pub moved : List Role → List A → List A
    moved [] l = l
    moved (r ∷ rs) [] = []
    moved (r ∷ rs) (a ∷ l) = moved_one r a ∷ moved rs l

  -- ---- every coordinate is in range
  module _ (in_range : A → Bool) where
    abbrev pub one_in_range : Role → A → Bool
    one_in_range x a = in_range a
    one_in_range y a = in_range a
    one_in_range other a = true

    abbrev pub all_in_range : List Role → List A → Bool
    all_in_range [] l = true
    all_in_range (r ∷ rs) [] = true
    all_in_range (r ∷ rs) (a ∷ l) = one_in_range r a && all_in_range rs l

-- ---- a call's outcome: the coordinates moved, by which numbers they are, or a refusal
pub data Outcome : Type 0 where
  moves : List Role → Outcome
  refuses : MoveRefusal → Outcome

-- an entry's 64 bits, its difference to the origin's, and whether it is in range: of a trait Coordinate's members in crate differences
pub record Arithmetic (A : Type 0) : Type 0 where
  pub pattern : A → ℕ
  pub difference : A → A → A
  pub in_range : A → Bool

abbrev pub arithmetic : {A : Type 0} → (A → ℕ) → (A → A → A) → (A → Bool) → Arithmetic A
arithmetic pattern minus within = record { pattern = pattern; difference = minus; in_range = within }

abbrev pub patterns : {A : Type 0} → (A → ℕ) → List A → List ℕ
patterns f [] = []
patterns f (a ∷ l) = f a ∷ patterns f l

-- 11, then 12, then 13
abbrev pub judged : List Role → Bool → Bool → Outcome
judged rs false in_range = refuses OtherPlane
judged rs true false = refuses CoordinateOutOfRange
judged rs true true = moves rs

module _ {A : Type 0} (m : Arithmetic A) where
  abbrev pub outcome_of : Held → Bool → List A → A → A → Outcome
  outcome_of not_whole upright ns x₀ y₀ = refuses ListsNotWhole
  outcome_of (whole h) upright ns x₀ y₀ =
      judged (held_roles h) upright (m.in_range x₀ && (m.in_range y₀ && all_in_range m.in_range (held_roles h) ns))

  -- by the record's counts, whether its extrusion is upright, both lists and the origin
  unfoldable pub outcome : HatchCounts → Bool → List ℕ → List A → A → A → Outcome
  outcome c upright ws ns x₀ y₀ = outcome_of (held c ws (patterns m.pattern ns)) upright ns x₀ y₀

  -- the list afterwards; unchanged on a refusal
  abbrev pub after : Outcome → A → A → List A → List A
  after (moves rs) x₀ y₀ ns = moved m.difference x₀ y₀ rs ns
  after (refuses k) x₀ y₀ ns = ns

-- ---- what a call ensures: its answer, and every entry of the list of numbers before and after it
abbrev pub answer_of : Outcome → Result (Unit {0}) MoveRefusal
answer_of (moves rs) = Ok tt
answer_of (refuses k) = Err k

abbrev pub MovesOrigin : {A : Type 0} → Arithmetic A → Outcome → A → A → Result (Unit {0}) MoveRefusal → (numbers numbers' : List A) → Type 0
MovesOrigin m o x₀ y₀ r numbers numbers' = (r ≡ answer_of o) × (numbers' ≡ after m o x₀ y₀ numbers)
