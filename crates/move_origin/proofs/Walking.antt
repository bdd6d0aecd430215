-- The walk over whole lists item by item: the coordinates so far are in range, or are moved; at its end all are. One law for doubles and for their 64
-- bits. Assumes nothing.
use Rattle.std.specs.Prelude.{Some, None}
use mathlib.Core.Path.{◌≡◌, refl, sym, ap, subst, ◌∙◌}
use mathlib.Core.Bool.{Bool, true, false, ◌&&◌, and-eq-true_iff}
use mathlib.Core.List.{List, [], ◌∷◌, ◌++◌, append_assoc, append-nil}
use Prim.Native.Nat.{ℕ, ◌+◌, ◌-◌, ◌*◌, ◌≤◌}
use native.Mathlib.Omega.{arith}
use lib.Dec.{eqb}
use borrow.Author.Tests.{eqb-true}
use lib.ListN.{length, drop, length-append}
use Rattle.hatch_lists.specs.declared.HatchCounts.{HatchCounts}
use Rattle.hatch_lists.specs.declared.Item.{Item}
use Rattle.hatch_lists.specs.Items.{gathered, item_size, points_item}
use Rattle.hatch_lists.specs.Within.{All}
use Rattle.hatch_lists.specs.Coordinates.{Role, item_roles}
use Rattle.hatch_lists.proofs.CoordinateLaws.{item_size_lem, gathered_append}
use Rattle.hatch_lists.specs.Steps.{Step as Walked, next, broken}
use Rattle.hatch_lists.specs.Walks.{Left, prepend, end_if, finish}
use Rattle.list_items.specs.Found.{Small}
use Rattle.whole_lists.specs.declared.Place.{Place}
use Rattle.whole_lists.specs.Stepped.{Within, finished, left_at, walk_at, Steps}
use Rattle.whole_lists.specs.Ended.{start_of}
use Rattle.whole_lists.proofs.Loops.{sizes, Along, along_start, along_next, along_broken, along_end}
use Rattle.moved_hatch.specs.Moving.{all_in_range}
use Rattle.moved_hatch.specs.Parts.{moved_from, in_range_from, Movable}
use Rattle.point_runs.proofs.PartLaws.{in_range_behind, moved_behind, moved_from_length, stays_behind}
use Rattle.move_origin.specs.Walked.{roles_in, roles_at}

-- ---- the roles of the items so far are as many as their numbers
pub roles_long : (items : List Item) → All Small items → length (gathered item_roles items) ≡ sizes items
roles_long [] s = refl
roles_long (i ∷ items) s =
    let e = item_size_lem i s.0.from_two in
    let f = roles_long items s.1 in
    omega (arith, length-append (item_roles i) (gathered item_roles items), e, f)

roles_one : (items : List Item) (i : Item) → gathered item_roles (items ++ (i ∷ [])) ≡ gathered item_roles items ++ item_roles i
roles_one items i = gathered_append item_roles items (i ∷ []) ∙ ap (λ (r : List Role). gathered item_roles items ++ r) (append-nil (item_roles i))

-- ---- what a whole walk has behind the items so far
pub roles_behind : (seeds : ℕ) (items : List Item) (s : Walked Left (List Item)) {js : List Item} {l : Left} → prepend items s ≡ next js l
    → roles_in seeds (prepend items s) ≡ gathered item_roles items ++ roles_in seeds s
roles_behind seeds items (next ks l) e =
    ap (λ (r : List Role). r ++ item_roles (points_item seeds)) (gathered_append item_roles items ks)
    ∙ append_assoc (gathered item_roles items) (gathered item_roles ks) (item_roles (points_item seeds))
roles_behind seeds items broken e = absurd (differ e)
  where
    differ : {js : List Item} {l : Left} → broken ≡ next js l → ⊥
    differ e = let z : ◌≡◌ {A = ℕ} 0 1 = cc in absurd (omega arith)

-- the end of whole lists has the seed points alone
roles_end : (seeds : ℕ) (l : Left) (items : List Item) {js : List Item} {m : Left} → prepend items (finish seeds l) ≡ next js m
    → roles_in seeds (prepend items (finish seeds l)) ≡ gathered item_roles items ++ item_roles (points_item seeds)
roles_end seeds l items {js} {m} e = go l.words (eqb l.numbers (seeds * 2)) e
  where
    go : (ws : List ℕ) (b : Bool) → prepend items (end_if ws b) ≡ next js m
        → roles_in seeds (prepend items (end_if ws b)) ≡ gathered item_roles items ++ item_roles (points_item seeds)
    go [] true e = ap (λ (is : List Item). gathered item_roles is ++ item_roles (points_item seeds)) (append-nil items)
    go [] false e = let z : ◌≡◌ {A = ℕ} 0 1 = cc in absurd (omega arith)
    go (w ∷ ws) b e = let z : ◌≡◌ {A = ℕ} 0 1 = cc in absurd (omega arith)

module _ (ws : List ℕ) (used seeds : ℕ) (p : Place) {q : Place} (a : Along ws used p q) {js : List Item} {l : Left}
    (whole : walk_at (finish seeds) ws used p ≡ next js l) where
  -- behind the items so far comes what is left
  pub roles_left : roles_at ws used p seeds ≡ gathered item_roles a.items ++ roles_at ws used q seeds
  roles_left =
      ap (roles_in seeds) (a.same (finish seeds)) ∙ roles_behind seeds a.items (walk_at (finish seeds) ws used q) (sym (a.same (finish seeds)) ∙ whole)

  pub roles_all : finished q ≡ true → roles_at ws used p seeds ≡ gathered item_roles a.items ++ item_roles (points_item seeds)
  roles_all h =
      let e = along_end ws used a h (finish seeds) in
      ap (roles_in seeds) e ∙ roles_end seeds (left_at ws used q) a.items (sym e ∙ whole)

  -- the numbers of the seed points are there
  pub seeds_room : finished q ≡ true → q.number + item_size (points_item seeds) ≤ used
  seeds_room h =
      let e = along_end ws used a h (finish seeds) in
      let f = go (left_at ws used q).words (eqb (used - q.number) (seeds * 2)) (sym e ∙ whole) in
      omega (arith, eqb-true (used - q.number) (seeds * 2) f, a.within.number)
    where
      go : (vs : List ℕ) (b : Bool) → prepend a.items (end_if vs b) ≡ next js l → b ≡ true
      go [] true e = refl
      go [] false e = let z : ◌≡◌ {A = ℕ} 0 1 = cc in absurd (omega arith)
      go (w ∷ vs) b e = let z : ◌≡◌ {A = ℕ} 0 1 = cc in absurd (omega arith)

  -- a whole walk does not break off
  pub never_broken : {X : Type 0} → Steps ws used q None → X
  never_broken s = let e = sym (along_broken ws used a s (finish seeds)) ∙ whole in let z : ◌≡◌ {A = ℕ} 0 1 = cc in absurd (omega arith)

  -- an item is followed by what is left behind it
  pub roles_item : {i : Item} {r : Place} → Steps ws used q (Some (i, r)) → roles_at ws used q seeds ≡ item_roles i ++ roles_at ws used r seeds
  roles_item {i} {r} s =
      let begins = s.same (finish seeds) in
      let e = ap (prepend a.items) (sym begins) ∙ sym (a.same (finish seeds)) ∙ whole in
      ap (roles_in seeds) begins ∙ go (walk_at (finish seeds) ws used r) a.items e
    where
      go : (t : Walked Left (List Item)) (is : List Item) {js : List Item} {l : Left} → prepend is (prepend (i ∷ []) t) ≡ next js l
          → roles_in seeds (prepend (i ∷ []) t) ≡ item_roles i ++ roles_in seeds t
      go (next ks n) is e = append_assoc (item_roles i) (gathered item_roles ks) (item_roles (points_item seeds))
      go broken is e = let z : ◌≡◌ {A = ℕ} 0 1 = cc in absurd (omega arith)

start_within : (c : HatchCounts) (ws : List ℕ) (used : ℕ) → Within ws used (start_of c)
start_within c ws used = record { word = omega arith; number = omega arith; parts = omega arith }

-- ---- judged: the coordinates so far are in range
module _ {A : Type 0} (in_range : A → Bool) (ws : List ℕ) (used : ℕ) (l : List A) where
  pub record InRange (p q : Place) : Type 0 where
    pub along : Along ws used p q
    pub so_far : in_range_from in_range p.number (gathered item_roles along.items) l ≡ true

  pub in_range_start : (c : HatchCounts) → InRange (start_of c) (start_of c)
  in_range_start c = record { along = along_start ws used (start_of c) (start_within c ws used); so_far = refl }

  -- the index behind the items so far
  behind : {p q : Place} (a : Along ws used p q) → p.number + length (gathered item_roles a.items) ≡ q.number
  behind a = omega (arith, roles_long a.items a.small, a.passed)

  after : {p q : Place} (h : InRange p q) (rs : List Role)
      → in_range_from in_range p.number (gathered item_roles h.along.items ++ rs) l ≡ in_range_from in_range q.number rs l
  after {p} {q} h rs =
      in_range_behind in_range p.number (gathered item_roles h.along.items) rs l
      ∙ ap (λ (b : Bool). b && in_range_from in_range (p.number + length (gathered item_roles h.along.items)) rs l) h.so_far
      ∙ ap (λ (n : ℕ). in_range_from in_range n rs l) (behind h.along)

  pub in_range_next : {p q r : Place} {i : Item} → InRange p q → Steps ws used q (Some (i, r)) → in_range_from in_range q.number (item_roles i) l ≡ true
      → InRange p r
  in_range_next {p} {q} {r} {i} h s e =
      record {
        along = along_next ws used h.along s;
        so_far = ap (λ (rs : List Role). in_range_from in_range p.number rs l) (roles_one h.along.items i) ∙ after h (item_roles i) ∙ e;
      }

  module _ (seeds : ℕ) {js : List Item} {m : Left} where
    pub in_range_no : {p q r : Place} {i : Item} → walk_at (finish seeds) ws used p ≡ next js m → InRange p q → Steps ws used q (Some (i, r))
        → in_range_from in_range q.number (item_roles i) l ≡ false → in_range_from in_range p.number (roles_at ws used p seeds) l ≡ false
    in_range_no {p} {q} {r} {i} whole h s e =
        let all = roles_left ws used seeds p h.along whole ∙ ap (λ (rs : List Role). gathered item_roles h.along.items ++ rs)
        (roles_item ws used seeds p h.along whole s) in
        ap (λ (rs : List Role). in_range_from in_range p.number rs l) all ∙ after h (item_roles i ++ roles_at ws used r seeds)
        ∙ in_range_behind in_range q.number (item_roles i) (roles_at ws used r seeds) l
        ∙ ap (λ (b : Bool). b && in_range_from in_range (q.number + length (item_roles i)) (roles_at ws used r seeds) l) e

    pub in_range_end : {p q : Place} → walk_at (finish seeds) ws used p ≡ next js m → InRange p q → finished q ≡ true
        → in_range_from in_range p.number (roles_at ws used p seeds) l ≡ in_range_from in_range q.number (item_roles (points_item seeds)) l
    in_range_end {p} {q} whole h f =
        ap (λ (rs : List Role). in_range_from in_range p.number rs l) (roles_all ws used seeds p h.along whole f) ∙ after h (item_roles (points_item seeds))

-- ---- moved: the coordinates so far are moved
module _ {A : Type 0} (difference : A → A → A) (x₀ y₀ : A) (ws : List ℕ) (used : ℕ) (l : List A) where
  pub record MovedSoFar (p q : Place) (m : List A) : Type 0 where
    pub along : Along ws used p q
    pub so_far : m ≡ moved_from difference x₀ y₀ p.number (gathered item_roles along.items) l

  pub moved_start : (c : HatchCounts) → MovedSoFar (start_of c) (start_of c) l
  moved_start c = record { along = along_start ws used (start_of c) (start_within c ws used); so_far = refl }

  on : {p q : Place} {m n : List A} (h : MovedSoFar p q m) (rs : List Role) → p.number ≤ length l → n ≡ moved_from difference x₀ y₀ q.number rs m
      → n ≡ moved_from difference x₀ y₀ p.number (gathered item_roles h.along.items ++ rs) l
  on {p} {q} {m} h rs room e =
      let so = gathered item_roles h.along.items in
      let at : q.number ≡ p.number + length so = omega (arith, roles_long h.along.items h.along.small, h.along.passed) in
      e ∙ ap (λ (k : List A). moved_from difference x₀ y₀ q.number rs k) h.so_far
      ∙ ap (λ (k : ℕ). moved_from difference x₀ y₀ k rs (moved_from difference x₀ y₀ p.number so l)) at
      ∙ sym (moved_behind difference x₀ y₀ p.number so rs l room)

  pub moved_next : {p q r : Place} {i : Item} {m n : List A} → p.number ≤ length l → MovedSoFar p q m → Steps ws used q (Some (i, r))
      → n ≡ moved_from difference x₀ y₀ q.number (item_roles i) m → MovedSoFar p r n
  moved_next {p} {q} {r} {i} room h s e =
      record {
        along = along_next ws used h.along s;
        so_far = on h (item_roles i) room e ∙ ap (λ (rs : List Role). moved_from difference x₀ y₀ p.number rs l) (sym (roles_one h.along.items i));
      }

  pub moved_end : (seeds : ℕ) {js : List Item} {k : Left} {p q : Place} {m n : List A} → p.number ≤ length l → walk_at (finish seeds) ws used p ≡ next js k
      → MovedSoFar p q m → finished q ≡ true → n ≡ moved_from difference x₀ y₀ q.number (item_roles (points_item seeds)) m
      → n ≡ moved_from difference x₀ y₀ p.number (roles_at ws used p seeds) l
  moved_end seeds {js} {k} {p} room whole h f e =
      on h (item_roles (points_item seeds)) room e
      ∙ ap (λ (rs : List Role). moved_from difference x₀ y₀ p.number rs l) (sym (roles_all ws used seeds p h.along whole f))

-- ---- what is left to move is in range as it was, since all behind the items so far has stayed
module _ {A : Type 0} (in_range : A → Bool) (difference : A → A → A) (x₀ y₀ : A) (ws : List ℕ) (used : ℕ) (l : List A) where
  movable_left : {p q : Place} {m : List A} (h : MovedSoFar difference x₀ y₀ ws used l p q m) (rs : List Role) → p.number ≤ length l
      → Movable in_range x₀ y₀ p.number (gathered item_roles h.along.items ++ rs) l → Movable in_range x₀ y₀ q.number rs m
  movable_left {p} {q} {m} h rs room may =
      let so = gathered item_roles h.along.items in
      let at : p.number + length so ≡ q.number = omega (arith, roles_long h.along.items h.along.small, h.along.passed) in
      let stays = ap (drop (p.number + length so)) h.so_far ∙ stays_behind difference x₀ y₀ p.number so l room in
      let left = ((and-eq-true_iff (in_range_from in_range p.number so l) (in_range_from in_range (p.number + length so) rs l)).0
      (sym (in_range_behind in_range p.number so rs l) ∙ may.coordinates)).1 in
      record { origin = may.origin; coordinates = ap (λ (k : ℕ). in_range_from in_range k rs m) (sym at) ∙ ap (all_in_range in_range rs) stays ∙ left }

  module _ (seeds : ℕ) {js : List Item} {k : Left} {p q : Place} {m : List A} (room : p.number ≤ length l)
      (whole : walk_at (finish seeds) ws used p ≡ next js k) (h : MovedSoFar difference x₀ y₀ ws used l p q m)
      (may : Movable in_range x₀ y₀ p.number (roles_at ws used p seeds) l) where
    pub movable_next : {i : Item} {r : Place} → Steps ws used q (Some (i, r)) → Movable in_range x₀ y₀ q.number (item_roles i) m
    movable_next {i} {r} s =
        let all = roles_left ws used seeds p h.along whole ∙ ap (λ (rs : List Role). gathered item_roles h.along.items ++ rs)
        (roles_item ws used seeds p h.along whole s) in
        let left = movable_left h (item_roles i ++ roles_at ws used r seeds) room
        (subst (λ (rs : List Role). Movable in_range x₀ y₀ p.number rs l) all may) in
        record {
          origin = left.origin;
          coordinates =
              ((and-eq-true_iff (in_range_from in_range q.number (item_roles i) m)
              (in_range_from in_range (q.number + length (item_roles i)) (roles_at ws used r seeds) m)).0
              (sym (in_range_behind in_range q.number (item_roles i) (roles_at ws used r seeds) m) ∙ left.coordinates)).0;
        }

    pub movable_end : finished q ≡ true → Movable in_range x₀ y₀ q.number (item_roles (points_item seeds)) m
    movable_end f =
        movable_left h (item_roles (points_item seeds)) room
        (subst (λ (rs : List Role). Movable in_range x₀ y₀ p.number rs l) (roles_all ws used seeds p h.along whole f) may)

pub seeds_small : (seeds : ℕ) → seeds ≤ 1_024 → Small (points_item seeds)
seeds_small seeds h =
    record { before = omega arith; points = omega arith; from_two = omega arith; to_three = omega arith; fits = omega arith; behind = omega arith }

pub moved_long : {A : Type 0} (difference : A → A → A) (x₀ y₀ : A) (ws : List ℕ) (used : ℕ) (l : List A) {p q : Place} {m : List A}
    → MovedSoFar difference x₀ y₀ ws used l p q m → length m ≡ length l
moved_long difference x₀ y₀ ws used l {p} h = ap length h.so_far ∙ moved_from_length difference x₀ y₀ p.number (gathered item_roles h.along.items) l
