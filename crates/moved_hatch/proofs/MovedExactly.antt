-- Where a call moves, every entry of the list afterwards is as specs/MovedExactly says of it. Assumes nothing.
use Rattle.std.specs.Prelude.{◌≡◌, refl, Bool, true, List, [], ◌∷◌, ℕ, ◌≤◌, length, Float}
use Rattle.std.proofs.Common.{sym, ◌∙◌, subst, arith}
use Rattle.std.proofs.Math.Bool.{and-eq-true_iff}
use Rattle.differences.specs.Rational.{Within}
use Rattle.differences.specs.Difference.{difference_exact, difference_near}
use Rattle.differences.specs.Limits.{is_within_sound}
use Rattle.hatch_lists.specs.declared.HatchCounts.{HatchCounts}
use Rattle.hatch_lists.specs.Coordinates.{Role, x, y, other}
use Rattle.moved_hatch.specs.Moving.{moved_one, moved, one_in_range, all_in_range, moves, Arithmetic, outcome, after}
use Rattle.moved_hatch.specs.Doubles.{of_doubles, of_bits}
use Rattle.moved_hatch.specs.MovedDoubles.{double_of}
use Rattle.moved_hatch.specs.Moves.{roles_fit}
use Rattle.moved_hatch.proofs.Moves.{moves_only}
use Rattle.moved_hatch.specs.MovedExactly.{CoordinateMoved, EntryMoved, EachMoved, OfValues, of_doubles_lem, of_bits_lem}

module _ {A : Type 0} (m : Arithmetic A) (value : A → Float) (v : OfValues m value) where
  within : (a : A) → m.in_range a ≡ true → Within 40 (value a)
  within a e = is_within_sound (value a) (sym (v.tests a) ∙ e)

  coordinate_moved : (o a : A) → m.in_range o ≡ true → m.in_range a ≡ true → CoordinateMoved (value o) (value a) (value (m.difference a o))
  coordinate_moved o a i j =
      subst (CoordinateMoved (value o) (value a)) (sym (v.subtracts a o))
      (record {
        subtracted = refl;
        before_in_range = within a j;
        origin_in_range = within o i;
        near = difference_near (value a) (value o) (within a j) (within o i);
        exact = λ z z₀. difference_exact (value a) (value o) z z₀;
      })

  module _ (x₀ y₀ : A) (i : m.in_range x₀ ≡ true) (j : m.in_range y₀ ≡ true) where
    entry_moved : (r : Role) (a : A) → one_in_range m.in_range r a ≡ true → EntryMoved value x₀ y₀ r a (moved_one m.difference x₀ y₀ r a)
    entry_moved x a h = coordinate_moved x₀ a i h
    entry_moved y a h = coordinate_moved y₀ a j h
    entry_moved other a h = refl

    each_moved : (rs : List Role) (ns : List A) → length rs ≤ length ns → all_in_range m.in_range rs ns ≡ true
        → EachMoved value x₀ y₀ rs ns (moved m.difference x₀ y₀ rs ns)
    each_moved [] ns l h = refl
    each_moved (r ∷ rs) [] l h = absurd (omega arith)
    each_moved (r ∷ rs) (a ∷ ns) l h =
        let k = (and-eq-true_iff (one_in_range m.in_range r a) (all_in_range m.in_range rs ns)).0 h in
        (entry_moved r a k.0, each_moved rs ns (omega arith) k.1)

  -- where a call moves, the list afterwards is this
  pub moved_exactly : (c : HatchCounts) (upright : Bool) (ws : List ℕ) (ns : List A) (x₀ y₀ : A) (rs : List Role)
      → outcome m c upright ws ns x₀ y₀ ≡ moves rs → EachMoved value x₀ y₀ rs ns (after m (moves rs) x₀ y₀ ns)
  moved_exactly c upright ws ns x₀ y₀ rs e =
      let h = moves_only m c upright ws ns x₀ y₀ rs e in
      each_moved x₀ y₀ h.x_in_range h.y_in_range rs ns (roles_fit m c upright ws ns x₀ y₀ rs h) h.all_are_in_range

-- ---- the call over doubles, and that over their 64 bits
pub doubles_moved_exactly : (c : HatchCounts) (upright : Bool) (ws : List ℕ) (ns : List Float) (x₀ y₀ : Float) (rs : List Role)
    → outcome of_doubles c upright ws ns x₀ y₀ ≡ moves rs → EachMoved (λ a. a) x₀ y₀ rs ns (after of_doubles (moves rs) x₀ y₀ ns)
doubles_moved_exactly = moved_exactly of_doubles (λ a. a) of_doubles_lem

pub bits_moved_exactly : (c : HatchCounts) (upright : Bool) (ws ns : List ℕ) (x₀ y₀ : ℕ) (rs : List Role)
    → outcome of_bits c upright ws ns x₀ y₀ ≡ moves rs → EachMoved double_of x₀ y₀ rs ns (after of_bits (moves rs) x₀ y₀ ns)
bits_moved_exactly = moved_exactly of_bits double_of of_bits_lem
