-- The answer of a call is one of specs/Answers, and no other. Assumes nothing.
use Rattle.std.proofs.Math.Path.{◌≡◌, refl}
use Rattle.std.proofs.Common.{sym, ◌∙◌}
use Rattle.std.specs.Prelude.{Bool, ◌&&◌, List, [], ◌∷◌, ℕ, Float}
use Rattle.std.proofs.Math.Bool.{true, false, and-eq-true_iff}
use native.Mathlib.Omega.{arith}
use Rattle.differences.specs.Rational.{Within}
use Rattle.differences.specs.Limits.{is_within_sound, is_within_complete}
use Rattle.hatch_lists.specs.declared.HatchCounts.{HatchCounts}
use Rattle.hatch_lists.specs.Holding.{Holding}
use Rattle.hatch_lists.specs.Whole.{Held, whole, not_whole, held}
use Rattle.hatch_lists.specs.Coordinates.{Role, x, y, other, held_roles}
use Rattle.hatch_lists.specs.WholeLaws.{held_whole, whole_held}
use Rattle.moved_hatch.specs.declared.MoveRefusal.TheVariants.{ListsNotWhole, OtherPlane, CoordinateOutOfRange}
use Rattle.moved_hatch.specs.Moving.{one_in_range, all_in_range, Outcome, moves, refuses, Arithmetic, patterns, judged, outcome_of, outcome}
use Rattle.moved_hatch.specs.MovedExactly.{OfValues}
use Rattle.moved_hatch.specs.Answers.{EntryWithin, EachWithin, Holds, AllWithin, Answers, none_held, tilted, beyond, all_moved}

module _ {A : Type 0} (m : Arithmetic A) (value : A → Float) (c : HatchCounts) (upright : Bool) (ws : List ℕ) (ns : List A) (x₀ y₀ : A) where
  module _ (v : OfValues m value) where
    within_of : (a : A) → m.in_range a ≡ true → Within 40 (value a)
    within_of a e = is_within_sound (value a) (sym (v.tests a) ∙ e)

    of_within : (a : A) → Within 40 (value a) → m.in_range a ≡ true
    of_within a w = v.tests a ∙ is_within_complete (value a) w

    each_within : (rs : List Role) (l : List A) → all_in_range m.in_range rs l ≡ true → EachWithin value rs l
    each_within [] l e = tt
    each_within (r ∷ rs) [] e = tt
    each_within (r ∷ rs) (a ∷ l) e = let k = (and-eq-true_iff _ _).0 e in (one r k.0, each_within rs l k.1)
      where
        one : (r : Role) → one_in_range m.in_range r a ≡ true → EntryWithin value r a
        one x e = within_of a e
        one y e = within_of a e
        one other e = tt

    of_each : (rs : List Role) (l : List A) → EachWithin value rs l → all_in_range m.in_range rs l ≡ true
    of_each [] l w = refl
    of_each (r ∷ rs) [] w = refl
    of_each (r ∷ rs) (a ∷ l) w = (and-eq-true_iff _ _).1 (one r w.0, of_each rs l w.1)
      where
        one : (r : Role) → EntryWithin value r a → one_in_range m.in_range r a ≡ true
        one x w = of_within a w
        one y w = of_within a w
        one other w = refl

    abbrev tests : Holding → Bool
    tests a = m.in_range x₀ && (m.in_range y₀ && all_in_range m.in_range (held_roles a) ns)

    tests_sound : (a : Holding) → tests a ≡ true → AllWithin m value c upright ws ns x₀ y₀ a
    tests_sound a e =
        let i = (and-eq-true_iff (m.in_range x₀) _).0 e in
        let j = (and-eq-true_iff (m.in_range y₀) _).0 i.1 in
        (within_of x₀ i.0, within_of y₀ j.0, each_within (held_roles a) ns j.1)

    tests_complete : (a : Holding) → AllWithin m value c upright ws ns x₀ y₀ a → tests a ≡ true
    tests_complete a w = rw (of_within x₀ w.0, of_within y₀ w.1) (of_each (held_roles a) ns w.2)

    -- the outcome is one of these
    pub answers : Answers m value c upright ws ns x₀ y₀ (outcome m c upright ws ns x₀ y₀)
    unfolding outcome
    answers = go (held c ws (patterns m.pattern ns)) refl
      where
        differ : {a : Holding} → not_whole ≡ whole a → ⊥
        differ e = let z : ◌≡◌ {A = ℕ} 0 1 = cc in omega arith

        unlike : false ≡ true → ⊥
        unlike e = let z : ◌≡◌ {A = ℕ} 0 1 = cc in omega arith

        tested : (a : Holding) → Holds m value c upright ws ns x₀ y₀ a → (u t : Bool) → upright ≡ u → tests a ≡ t
            → Answers m value c upright ws ns x₀ y₀ (judged (held_roles a) u t)
        tested a h false t e f = tilted a h e
        tested a h true false e f = beyond a h e (λ w. unlike (sym f ∙ tests_complete a w))
        tested a h true true e f = all_moved a h e (tests_sound a f)

        go : (o : Held) → held c ws (patterns m.pattern ns) ≡ o → Answers m value c upright ws ns x₀ y₀ (outcome_of m o upright ns x₀ y₀)
        go not_whole e = none_held (λ a h. differ (sym e ∙ whole_held c ws (patterns m.pattern ns) a h))
        go (whole a) e = tested a (held_whole c ws (patterns m.pattern ns) a e) upright (tests a) refl refl

    -- and no other
    pub answers_only : (o : Outcome) → Answers m value c upright ws ns x₀ y₀ o → outcome m c upright ws ns x₀ y₀ ≡ o
    unfolding outcome
    answers_only (refuses ListsNotWhole) (none_held none) = go (held c ws (patterns m.pattern ns)) refl
      where
        go : (o : Held) → held c ws (patterns m.pattern ns) ≡ o → outcome_of m o upright ns x₀ y₀ ≡ refuses ListsNotWhole
        go not_whole e = refl
        go (whole a) e = absurd (none a (held_whole c ws (patterns m.pattern ns) a e))
    answers_only (refuses OtherPlane) (tilted a h e) = rw (whole_held c ws (patterns m.pattern ns) a h, e)
    answers_only (refuses CoordinateOutOfRange) (beyond a h e none) = rw (whole_held c ws (patterns m.pattern ns) a h, e) (go (tests a) refl)
      where
        go : (t : Bool) → tests a ≡ t → judged (held_roles a) true t ≡ refuses CoordinateOutOfRange
        go true f = absurd (none (tests_sound a f))
        go false f = refl
    answers_only (moves rs) (all_moved a h e w) = rw (whole_held c ws (patterns m.pattern ns) a h, e, tests_complete a w)
