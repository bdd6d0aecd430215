-- A loop over items: how far the walk has gone from where it began, whatever comes behind it. Assumes nothing.
use mathlib.Core.Path.{◌≡◌, refl, ap, ◌∙◌}
use mathlib.Core.Bool.{true, ◌&&◌, and-eq-true_iff}
use mathlib.Core.List.{List, [], ◌∷◌, ◌++◌}
use Prim.Native.Nat.{ℕ, ◌+◌}
use native.Mathlib.Omega.{arith}
use Rattle.std.specs.Prelude.{Some, None}
use lib.Dec.{eqb}
use borrow.Author.Tests.{eqb-true}
use Rattle.hatch_lists.specs.declared.Item.{Item}
use Rattle.hatch_lists.specs.Items.{item_size}
use Rattle.hatch_lists.specs.Steps.{Step, next, broken}
use Rattle.hatch_lists.specs.Walks.{Left, prepend, Walk}
use Rattle.hatch_lists.specs.Within.{All}
use Rattle.hatch_lists.specs.Follows.{prepend_both}
use Rattle.whole_lists.specs.declared.Place.{Place}
use Rattle.list_items.specs.Found.{Small}
use Rattle.whole_lists.specs.Stepped.{Within, finished, left_at, walk_at, Steps}

-- how many numbers the items have
abbrev pub sizes : List Item → ℕ
sizes [] = 0
sizes (i ∷ is) = item_size i + sizes is

pub sizes_one : (is : List Item) (i : Item) → sizes (is ++ (i ∷ [])) ≡ sizes is + item_size i
sizes_one [] i = omega arith
sizes_one (j ∷ is) i = let h = sizes_one is i in omega arith

pub all_one : (P : Item → Type 0) (is : List Item) (i : Item) → All P is → P i → All P (is ++ (i ∷ []))
all_one P [] i h k = (k, tt)
all_one P (j ∷ is) i h k = (h.0, all_one P is i h.1 k)

-- from p the walk has come to q, behind these items
pub record Along (ws : List ℕ) (n : ℕ) (p q : Place) : Type 0 where
  pub items : List Item
  pub same : (rest : Walk) → walk_at rest ws n p ≡ prepend items (walk_at rest ws n q)
  pub within : Within ws n q
  pub passed : q.number ≡ p.number + sizes items
  pub small : All Small items

pub prepend_none : (s : Step Left (List Item)) → s ≡ prepend [] s
prepend_none (next is l) = refl
prepend_none broken = refl

module _ (ws : List ℕ) (n : ℕ) where
  abbrev pub along_start : (p : Place) → Within ws n p → Along ws n p p
  along_start p w = record { items = []; same = λ rest. prepend_none (walk_at rest ws n p); within = w; passed = omega arith; small = tt }

  abbrev pub along_next : {p q r : Place} {i : Item} → Along ws n p q → Steps ws n q (Some (i, r)) → Along ws n p r
  along_next {p} {q} {r} {i} a s =
      record {
        items = a.items ++ (i ∷ []);
        same = λ rest. a.same rest ∙ ap (prepend a.items) (s.same rest) ∙ prepend_both a.items (i ∷ []) (walk_at rest ws n r);
        within = s.onward.1;
        passed = omega (arith, a.passed, s.onward.2, sizes_one a.items i);
        small = all_one Small a.items i a.small s.onward.3;
      }

  pub along_broken : {p q : Place} → Along ws n p q → Steps ws n q None → (rest : Walk) → walk_at rest ws n p ≡ broken
  along_broken a s rest = a.same rest ∙ ap (prepend a.items) (s.same rest)

  pub along_end : {p q : Place} (a : Along ws n p q) → finished q ≡ true → (rest : Walk) → walk_at rest ws n p ≡ prepend a.items (rest (left_at ws n q))
  along_end {p} {q} a h rest = a.same rest ∙ ap (prepend a.items) (go q h)
    where
      go : (q : Place) → finished q ≡ true → walk_at rest ws n q ≡ rest (left_at ws n q)
      go q h =
          let parts = (and-eq-true_iff (eqb q.parts 0) (eqb q.paths 0 && eqb q.lines 0)).0 h in
          let others = (and-eq-true_iff (eqb q.paths 0) (eqb q.lines 0)).0 parts.1 in
          let e = eqb-true q.parts 0 parts.0 in
          let f = eqb-true q.paths 0 others.0 in
          let g = eqb-true q.lines 0 others.1 in
          rw (e, f, g) refl
