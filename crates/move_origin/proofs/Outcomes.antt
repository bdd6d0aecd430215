-- From what the tests say to the definition's outcome: whole lists hold a hatch, whose roles the walk finds; then extrusion, origin and coordinates decide.
-- Assumes nothing.
use Rattle.std.specs.Prelude.{Result, Ok, Err}
use mathlib.Core.Path.{◌≡◌, refl, sym, ap, ap₂, subst, ◌∙◌}
use mathlib.Core.Bool.{Bool, true, false, ◌&&◌, and_assoc}
use mathlib.Core.List.{List, [], ◌++◌}
use Prim.Native.Nat.{ℕ, ◌≤◌}
use native.Mathlib.Omega.{arith}
use lib.ListN.{length, take}
use Rattle.hatch_format.specs.Caps.{document_caps}
use Rattle.hatch_lists.specs.declared.HatchCounts.{HatchCounts}
use Rattle.hatch_lists.specs.Items.{gathered, points_item, held_items}
use Rattle.hatch_lists.specs.Holding.{Holding}
use Rattle.hatch_lists.specs.Whole.{Held, whole, not_whole, held_if, held}
use Rattle.hatch_lists.specs.WholeLaws.{fits_fitting, held_whole}
use Rattle.hatch_lists.specs.Coordinates.{Role, item_roles, held_roles}
use Rattle.hatch_lists.proofs.CoordinateLaws.{roles_of_items}
use Rattle.hatch_lists.specs.Walks.{left_of}
use Rattle.hatch_lists.specs.FollowsWhole.{items_held}
use Rattle.whole_lists.specs.Ended.{is_held, Judges}
use Rattle.whole_lists.proofs.Judged.{items_walk}
use Rattle.moved_hatch.specs.declared.MoveRefusal.{MoveRefusal}
use Rattle.moved_hatch.specs.declared.MoveRefusal.TheVariants.{ListsNotWhole, OtherPlane, CoordinateOutOfRange}
use Rattle.moved_hatch.specs.Moving.{Arithmetic, patterns, Outcome, moves, refuses, judged, outcome_of, outcome, all_in_range, moved, after}
use Rattle.moved_hatch.specs.Moving.{answer_of, MovesOrigin}
use Rattle.moved_hatch.specs.MovedLists.{patterns_length}
use Rattle.moved_hatch.specs.Parts.{moved_from, in_range_from, Movable}
use Rattle.move_origin.specs.Walked.{Walks, roles_in, roles_of, may_move}

module _ {A : Type 0} (m : Arithmetic A) (c : HatchCounts) (ws : List ℕ) (ns : List A) where
  abbrev here : Held
  here = held c ws (patterns m.pattern ns)

  -- the words that were used
  abbrev pub used_of : List ℕ
  used_of = take c.words_used ws

  -- ---- whole lists: the hatch that they hold, and the walk over it
  pub record Holds : Type 0 where
    pub hatch : Holding
    pub is_held_here : here ≡ whole hatch
    pub walks : Walks c used_of (length ns)
    pub roles : roles_of c used_of ≡ held_roles hatch

  holds_of : (h : Holding) → here ≡ whole h → Holds
  unfolding held
  holds_of h e =
      let w = held_whole c ws (patterns m.pattern ns) h e in
      let f = w.fits in
      let yes = fits_fitting c (length ws) (length (patterns m.pattern ns)) f in
      let walk = sym (items_walk c ws (patterns m.pattern ns) f) ∙ ap items_held (sym (ap (λ (b : Bool). held_if b c ws (patterns m.pattern ns)) yes)
      ∙ e) in
      record {
        hatch = h;
        is_held_here = e;
        walks =
            record {
              room = omega (arith, f.numbers_long, patterns_length m.pattern ns);
              few = f.seeds;
              items = held_items h;
              left = left_of [] 0;
              ends = walk;
            };
        roles =
            ap (roles_in c.num_seed_points) walk
            ∙ ap (λ (n : ℕ). gathered item_roles (held_items h) ++ item_roles (points_item n)) (sym w.numbered.seeds_are)
            ∙ sym (roles_of_items document_caps h w.within);
      }

  pub holds : Judges c ws (length ns) true → Holds
  holds j = go here refl (j (patterns m.pattern ns) (patterns_length m.pattern ns))
    where
      go : (h : Held) → here ≡ h → true ≡ is_held h → Holds
      go (whole a) e k = holds_of a e
      go not_whole e k = let z : ◌≡◌ {A = ℕ} 0 1 = cc in absurd (omega arith)

  -- the same of an answer that was found to be so
  pub holds_where : {b : Bool} → Judges c ws (length ns) b → b ≡ true → Holds
  holds_where j e = holds (subst (Judges c ws (length ns)) e j)

  pub words_long : Holds → c.words_used ≤ length ws
  words_long h = (held_whole c ws (patterns m.pattern ns) h.hatch h.is_held_here).fits.words_long

  -- ---- the outcome
  module _ (upright : Bool) (x₀ y₀ : A) where
    abbrev here_outcome : Outcome
    here_outcome = outcome m c upright ws ns x₀ y₀

    -- a refusal, and the list as it was
    refuses_so : {k : MoveRefusal} → here_outcome ≡ refuses k → MovesOrigin m here_outcome x₀ y₀ (Err k) ns ns
    refuses_so e = (sym (ap answer_of e), sym (ap (λ (o : Outcome). after m o x₀ y₀ ns) e))

    pub outcome_11 : Judges c ws (length ns) false → here_outcome ≡ refuses ListsNotWhole
    unfolding outcome
    outcome_11 j = go here (j (patterns m.pattern ns) (patterns_length m.pattern ns))
      where
        go : (h : Held) → false ≡ is_held h → outcome_of m h upright ns x₀ y₀ ≡ refuses ListsNotWhole
        go (whole a) k = let z : ◌≡◌ {A = ℕ} 0 1 = cc in absurd (omega arith)
        go not_whole k = refl

    pub refused_11 : {b : Bool} → Judges c ws (length ns) b → b ≡ false → MovesOrigin m here_outcome x₀ y₀ (Err ListsNotWhole) ns ns
    refused_11 j e = refuses_so (outcome_11 (subst (Judges c ws (length ns)) e j))

    module _ (h : Holds) where
      abbrev range : Bool
      range = m.in_range x₀ && (m.in_range y₀ && all_in_range m.in_range (held_roles h.hatch) ns)

      outcome_is : here_outcome ≡ judged (held_roles h.hatch) upright range
      unfolding outcome
      outcome_is = ap (λ (k : Held). outcome_of m k upright ns x₀ y₀) h.is_held_here

      pub refused_12 : upright ≡ false → here_outcome ≡ refuses OtherPlane
      refused_12 e = outcome_is ∙ ap (λ (u : Bool). judged (held_roles h.hatch) u range) e

      pub refused_origin : upright ≡ true → m.in_range x₀ && m.in_range y₀ ≡ false → here_outcome ≡ refuses CoordinateOutOfRange
      refused_origin e f =
          outcome_is
          ∙ ap₂ (λ (u b : Bool). judged (held_roles h.hatch) u b) e
          (sym (and_assoc (m.in_range x₀) (m.in_range y₀) (all_in_range m.in_range (held_roles h.hatch) ns))
          ∙ ap (λ (b : Bool). b && all_in_range m.in_range (held_roles h.hatch) ns) f)

      -- the list afterwards, by the roles that the walk finds
      pub after_all : {o : Outcome} → o ≡ moves (held_roles h.hatch) → moved_from m.difference x₀ y₀ 0 (roles_of c used_of) ns ≡ after m o x₀ y₀ ns
      after_all {o} e =
          ap (λ (rs : List Role). moved m.difference x₀ y₀ rs ns) h.roles ∙ sym (ap (λ (k : Outcome). after m k x₀ y₀ ns) e)

      -- by the plane, or the origin
      pub refused_before : {r : Result (Unit {0}) MoveRefusal} {k : MoveRefusal} → r ≡ may_move upright (m.in_range x₀ && m.in_range y₀) → r ≡ Err k
          → MovesOrigin m here_outcome x₀ y₀ (Err k) ns ns
      refused_before {r} {k} e f =
          refuses_so
          (outcome_is ∙ by (m.in_range x₀) (m.in_range y₀) upright (all_in_range m.in_range (held_roles h.hatch) ns) (sym e ∙ f))
        where
          by : (x y u a : Bool) → may_move u (x && y) ≡ Err k → judged (held_roles h.hatch) u (x && (y && a)) ≡ refuses k
          by x y false a g = cc
          by true true true a g = let z : ◌≡◌ {A = ℕ} 0 1 = cc in absurd (omega arith)
          by true false true a g = cc
          by false y true a g = cc

      module _ {r : Result (Unit {0}) MoveRefusal} (may : r ≡ may_move upright (m.in_range x₀ && m.in_range y₀)) (yes : r ≡ Ok tt) where
        both : (upright ≡ true) × (m.in_range x₀ && m.in_range y₀ ≡ true)
        both = by upright (m.in_range x₀ && m.in_range y₀) (sym may ∙ yes)
          where
            by : (u o : Bool) → may_move u o ≡ Ok tt → (u ≡ true) × (o ≡ true)
            by true true e = (refl, refl)
            by true false e = let z : ◌≡◌ {A = ℕ} 0 1 = cc in absurd (omega arith)
            by false o e = let z : ◌≡◌ {A = ℕ} 0 1 = cc in absurd (omega arith)

        judged_is : {a : Bool} → all_in_range m.in_range (roles_of c used_of) ns ≡ a → here_outcome ≡ judged (held_roles h.hatch) true a
        judged_is {a} f =
            outcome_is ∙ ap₂ (λ (t b : Bool). judged (held_roles h.hatch) t b) both.0
            (ap (λ (rs : List Role). m.in_range x₀ && (m.in_range y₀ && all_in_range m.in_range rs ns)) (sym h.roles)
            ∙ ap (λ (b : Bool). m.in_range x₀ && (m.in_range y₀ && b)) f ∙ sym (and_assoc (m.in_range x₀) (m.in_range y₀) a)
            ∙ ap (λ (b : Bool). b && a) both.1)

        pub refused_13 : all_in_range m.in_range (roles_of c used_of) ns ≡ false → MovesOrigin m here_outcome x₀ y₀ (Err CoordinateOutOfRange) ns ns
        refused_13 f = refuses_so (judged_is f)

        pub movable : all_in_range m.in_range (roles_of c used_of) ns ≡ true → Movable m.in_range x₀ y₀ 0 (roles_of c used_of) ns
        movable f = record { origin = both.1; coordinates = f }

        -- the list afterwards, by the roles that the walk finds
        pub moves_all : {l : List A} → all_in_range m.in_range (roles_of c used_of) ns ≡ true → l ≡ moved m.difference x₀ y₀ (roles_of c used_of) ns
            → MovesOrigin m here_outcome x₀ y₀ (Ok tt) ns l
        moves_all {l} f g =
            let e = judged_is f in (
              sym (ap answer_of e),
              g ∙ ap (λ (rs : List Role). moved m.difference x₀ y₀ rs ns) h.roles ∙ sym (ap (λ (k : Outcome). after m k x₀ y₀ ns) e),
            )

      -- by the coordinates: the outcome itself
      pub outcome_13 : upright ≡ true → m.in_range x₀ && m.in_range y₀ ≡ true → in_range_from m.in_range 0 (roles_of c used_of) ns ≡ false
          → here_outcome ≡ refuses CoordinateOutOfRange
      outcome_13 e f g = judged_is {r = may_move upright (m.in_range x₀ && m.in_range y₀)} refl (ap₂ may_move e f) g

      pub outcome_moves : upright ≡ true → m.in_range x₀ && m.in_range y₀ ≡ true → in_range_from m.in_range 0 (roles_of c used_of) ns ≡ true
          → here_outcome ≡ moves (held_roles h.hatch)
      outcome_moves e f g = judged_is {r = may_move upright (m.in_range x₀ && m.in_range y₀)} refl (ap₂ may_move e f) g
