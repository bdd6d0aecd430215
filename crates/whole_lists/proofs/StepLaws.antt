-- A step of the walk, from what was found at its word: the item's numbers are there and the walk goes on behind them, or it breaks off. Assumes nothing.
use mathlib.Core.Path.{◌≡◌, refl, sym, ap, subst, ◌∙◌}
use mathlib.Core.Bool.{Bool, true, false}
use mathlib.Core.List.{List, [], ◌∷◌}
use Prim.Native.Nat.{ℕ, suc, ◌+◌, ◌-◌, ◌≤◌, ◌<◌}
use native.Mathlib.Omega.{arith}
use Rattle.std.specs.Prelude.{Option, None}
use lib.Dec.{leb}
use lib.ListN.{length, drop, length-drop}
use borrow.Author.Tests.{leb-true}
use Rattle.hatch_format.specs.Caps.{document_caps}
use Rattle.hatch_lists.specs.declared.Head.{Head}
use Rattle.hatch_lists.specs.declared.Item.{Item}
use Rattle.hatch_lists.specs.Items.{item_size}
use Rattle.hatch_lists.specs.Steps.{Step, next, broken, and_next, handles_step, edge_step, head_step, line_step}
use Rattle.hatch_lists.specs.Walks.{Left, left_of, pass_if as pass_left, passing, stepping, prepend, Walk, walk}
use Rattle.whole_lists.specs.declared.Place.{Place}
use Rattle.list_items.specs.Found.{Small, Behind}
use Rattle.whole_lists.specs.Stepped.{Within, left_at, walk_at, pass_if, passed_to, step_on, step_by, step_at, resumed, Onward, Steps}

-- what walk and step begin with at a place: a value that has an item and says how many parts follow it; so many paths and lines are left behind it
pub record Begins {A : Type 0} (item_of : A → Item) (parts_of : A → ℕ) (step : List ℕ → Step (List ℕ) A) (ws : List ℕ) (n : ℕ) (p : Place)
    (paths lines : ℕ) : Type 0 where
  pub walks : (rest : Walk) → walk_at rest ws n p
      ≡ and_next (stepping item_of step (left_at ws n p)) (λ a r. prepend (item_of a ∷ []) (walk document_caps rest (parts_of a) paths lines r))
  pub steps : step_at ws n p ≡ step_on ws n p.number item_of parts_of (step (drop p.word ws)) paths lines

-- ---- a step of any kind, from what the words say
module _ {A : Type 0} (item_of : A → Item) (parts_of : A → ℕ) {step : List ℕ → Step (List ℕ) A} {ws : List ℕ} {n : ℕ} {p : Place} {paths lines : ℕ}
    (begins : Begins item_of parts_of step ws n p paths lines) where
  -- the walk goes on
  abbrev goes_on : Walk → A → Left → Step Left (List Item)
  goes_on rest a r = prepend (item_of a ∷ []) (walk document_caps rest (parts_of a) paths lines r)

  walk_said : {said : Step (List ℕ) A} → step (drop p.word ws) ≡ said → (rest : Walk)
      → walk_at rest ws n p ≡ and_next (passing item_of (n - p.number) said) (goes_on rest)
  walk_said e rest = begins.walks rest ∙ ap (λ (o : Step (List ℕ) A). and_next (passing item_of (n - p.number) o) (goes_on rest)) e

  step_said : {said : Step (List ℕ) A} → step (drop p.word ws) ≡ said → step_on ws n p.number item_of parts_of said paths lines ≡ step_at ws n p
  step_said e = sym (begins.steps ∙ ap (λ (o : Step (List ℕ) A). step_on ws n p.number item_of parts_of o paths lines) e)

  pub steps_broken : {r : Option (Item × Place)} → step (drop p.word ws) ≡ broken → r ≡ None → Steps ws n p r
  steps_broken e f = subst (Steps ws n p) (sym f) (record { is = step_said e; same = walk_said e; onward = tt })

  module _ (w : Within ws n p) {a : A} {to : ℕ} (said : step (drop p.word ws) ≡ next a (drop to ws)) (behind : Behind ws p.word to)
      (small : Small (item_of a)) (few : parts_of a ≤ 100_001) where
    abbrev behind_it : ℕ → Place
    behind_it word = record { word = word; number = p.number; parts = parts_of a; paths = paths; lines = lines }

    is_from : passed_to n (item_of a) (behind_it to) ≡ step_at ws n p
    is_from =
        let left = length-drop to ws in
        let first : to ≡ length ws - length (drop to ws) = omega (arith, left, behind.within) in
        ap (λ (k : ℕ). passed_to n (item_of a) (behind_it k)) first ∙ step_said said

    -- its numbers are there, or not
    same_if : (b : Bool) → leb (item_size (item_of a)) (n - p.number) ≡ b → (rest : Walk)
        → walk_at rest ws n p ≡ resumed rest ws n (pass_if b (item_of a) (behind_it to))
    same_if true e rest =
        let m : n - p.number - item_size (item_of a) ≡ n - (p.number + item_size (item_of a)) = omega arith in
        walk_said said rest
        ∙ ap (λ (t : Bool). and_next (pass_left t a (item_size (item_of a)) (drop to ws) (n - p.number)) (goes_on rest)) e
        ∙ ap (λ (k : ℕ). goes_on rest a (left_of (drop to ws) k)) m
    same_if false e rest =
        walk_said said rest ∙ ap (λ (t : Bool). and_next (pass_left t a (item_size (item_of a)) (drop to ws) (n - p.number)) (goes_on rest)) e

    onward_if : (b : Bool) → leb (item_size (item_of a)) (n - p.number) ≡ b → Onward ws n p (pass_if b (item_of a) (behind_it to))
    onward_if true e =
        let h = leb-true (item_size (item_of a)) (n - p.number) e in
        let k = w.number in
        (behind.further, record { word = behind.within; number = omega (arith, h, k); parts = few }, refl, small)
    onward_if false e = tt

    pub steps_found : {r : Option (Item × Place)} → r ≡ passed_to n (item_of a) (behind_it to) → Steps ws n p r
    steps_found e =
        let b = leb (item_size (item_of a)) (n - p.number) in
        subst (Steps ws n p) (sym e) (record { is = is_from; same = same_if b refl; onward = onward_if b refl })

-- ---- which it is, by what is left
module _ (ws : List ℕ) (n : ℕ) (p : Place) where
  module _ (parts paths lines : ℕ) (e : p.parts ≡ parts) (f : p.paths ≡ paths) (g : p.lines ≡ lines) where
    walk_is : (rest : Walk) → walk_at rest ws n p ≡ walk document_caps rest parts paths lines (left_at ws n p)
    walk_is rest = rw (e, f, g) refl

    step_is : step_at ws n p ≡ step_by ws n p.word p.number parts paths lines
    step_is = rw (e, f, g) refl

  pub begins_path : p.parts ≡ 0 → 0 < p.paths → Begins (λ (h : Head). h.item) (λ h. h.parts) (head_step document_caps) ws n p (p.paths - 1) p.lines
  begins_path e h =
      let f : p.paths ≡ suc (p.paths - 1) = omega (arith, h) in
      record { walks = walk_is 0 (suc (p.paths - 1)) p.lines e f refl; steps = step_is 0 (suc (p.paths - 1)) p.lines e f refl }

  pub begins_edge : 1 < p.parts → Begins (λ i. i) (λ i. p.parts - 1) (edge_step document_caps) ws n p p.paths p.lines
  begins_edge h =
      let k = p.parts - 2 in
      let e : p.parts ≡ suc (suc k) = omega (arith, h) in
      let f : suc k ≡ p.parts - 1 = omega (arith, h) in
      subst (λ (m : ℕ). Begins (λ i. i) (λ i. m) (edge_step document_caps) ws n p p.paths p.lines) f
      (record { walks = walk_is (suc (suc k)) p.paths p.lines e refl refl; steps = step_is (suc (suc k)) p.paths p.lines e refl refl })

  pub begins_handles : p.parts ≡ 1 → Begins (λ i. i) (λ i. p.parts - 1) (handles_step document_caps) ws n p p.paths p.lines
  begins_handles e =
      record {
        walks = λ rest. walk_is 1 p.paths p.lines e refl refl rest ∙ rw e refl;
        steps = step_is 1 p.paths p.lines e refl refl ∙ rw e refl;
      }

  pub begins_line : p.parts ≡ 0 → p.paths ≡ 0 → 0 < p.lines → Begins (λ i. i) (λ i. p.parts) (line_step document_caps) ws n p p.paths (p.lines - 1)
  begins_line e f h =
      let g : p.lines ≡ suc (p.lines - 1) = omega (arith, h) in
      record {
        walks = λ rest. walk_is 0 0 (suc (p.lines - 1)) e f g rest ∙ rw (e, f) refl;
        steps = step_is 0 0 (suc (p.lines - 1)) e f g ∙ rw (e, f) refl;
      }
