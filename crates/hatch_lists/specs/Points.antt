-- Points and vertices read back from the lists, and items of any kind one behind the other. Assumes nothing.
use Rattle.std.specs.Prelude.{◌≡◌, refl, Bool, true, false, List, [], ◌∷◌, ℕ}
use Rattle.std.proofs.Common.{sym, ap, subst}
use Rattle.bitcursor.specs.Chains.{Each}
use Rattle.bitcursor.specs.Format.{Format, pure, ◌>>=◌, relay}
use Rattle.hatch_format.specs.Values.{Point, Vertex}
use Rattle.hatch_format.specs.Entries.{every, point_numbers, vertex_numbers}
use Rattle.hatch_lists.specs.Lists.{Lists, lists, Stands, stands_none, stands_then, stands_first, stands_second, stands_nothing, between}
use Rattle.hatch_lists.specs.Lists.{number, Entry, entry}
use Rattle.hatch_lists.specs.Within.{All, VertexWithin}

-- ---- the items of a list: what each has stands one behind the other. `L` is an item's layout, `P` what is asked of it, and `ws` and `ns` its entries
module _ {A : Type 0} (L : A → Lists → Lists → Type 0) (P : A → Type 0) (ws ns : A → List ℕ) where
  abbrev pub Gives : Type 0
  Gives = (a : A) (p q : Lists) → L a p q → P a × Stands (ws a) (ns a) p q

  abbrev pub Takes : Type 0
  Takes = (a : A) (p q : Lists) → P a → Stands (ws a) (ns a) p q → L a p q

  pub each_to : Gives → (items : List A) (p q : Lists) → Each L items p q → All P items × Stands (every ws items) (every ns items) p q
  each_to gives [] p q l = (tt, subst (Stands [] [] p) (sym l) (stands_none p))
  each_to gives (a ∷ items) p q l =
      let h = gives a p l.0 l.1 in
      let t = each_to gives items l.0 q l.2 in
      ((h.0, t.0), stands_then h.1 t.1)

  pub each_from : Takes → (items : List A) (p q : Lists) → All P items → Stands (every ws items) (every ns items) p q → Each L items p q
  each_from takes [] p q h s = sym (stands_nothing s)
  each_from takes (a ∷ items) p q h s =
      let r = between (every ws items) (every ns items) q in
      let s₁ = stands_first (ws a) (ns a) (every ws items) (every ns items) s in
      (r, takes a p r h.0 s₁, each_from takes items r q h.1 (stands_second (every ws items) (every ns items) q))

-- items that have no words
pub no_words : {A : Type 0} (items : List A) → every (λ (a : A). []) items ≡ []
no_words [] = refl
no_words (a ∷ items) = no_words items

module _ {A : Type 0} (L : A → Lists → Lists → Type 0) (P : A → Type 0) (ns : A → List ℕ) where
  pub run_to : Gives L P (λ a. []) ns → (items : List A) (p q : Lists) → Each L items p q → All P items × Stands [] (every ns items) p q
  run_to gives items p q l =
      let h = each_to L P (λ a. []) ns gives items p q l in
      (h.0, subst (λ (ws : List ℕ). Stands ws (every ns items) p q) (no_words items) h.1)

  pub run_from : Takes L P (λ a. []) ns → (items : List A) (p q : Lists) → All P items → Stands [] (every ns items) p q → Each L items p q
  run_from takes items p q h s =
      each_from L P (λ a. []) ns takes items p q h (subst (λ (ws : List ℕ). Stands ws (every ns items) p q) (sym (no_words items)) s)

-- numbers as they are
pub every_number : (ns : List ℕ) → every (λ (n : ℕ). n ∷ []) ns ≡ ns
every_number [] = refl
every_number (n ∷ ns) = ap (λ (l : List ℕ). n ∷ l) (every_number ns)

pub all_any : {A : Type 0} (items : List A) → All (λ (a : A). Unit {0}) items
all_any [] = tt
all_any (a ∷ items) = (tt, all_any items)

pub numbers_to : (ns : List ℕ) (p q : Lists) → Each (Entry number) ns p q → Stands [] ns p q
numbers_to ns p q l =
    subst (λ (l : List ℕ). Stands [] l p q) (every_number ns)
    (run_to (Entry number) (λ n. Unit {0}) (λ n. n ∷ []) (λ n r t m. (tt, m)) ns p q l).1

pub numbers_from : (ns : List ℕ) (p q : Lists) → Stands [] ns p q → Each (Entry number) ns p q
numbers_from ns p q s =
    run_from (Entry number) (λ n. Unit {0}) (λ n. n ∷ []) (λ n r t h m. m) ns p q (all_any ns)
    (subst (λ (l : List ℕ). Stands [] l p q) (sym (every_number ns)) s)

-- ---- x, y
unfoldable pub point_read : Format lists Point
point_read = do
  x ← entry number
  y ← entry number
  pure (record { x = x; y = y })

abbrev pub PointHeld : Point → Lists → Lists → Type 0
PointHeld a = Stands [] (point_numbers a)

pub point_to : (γ : Unit {0}) (a : Point) (p q : Lists) → point_read.lays γ a p q → PointHeld a p q
unfolding point_read entry ◌>>=◌ pure
point_to γ a p q l = rw (l.3.3.0, l.3.3.1) (stands_then l.2 l.3.2)

pub point_from : (γ : Unit {0}) (a : Point) (p q : Lists) → PointHeld a p q → point_read.lays γ a p q
unfolding point_read entry ◌>>=◌ pure
point_from γ a p q l =
    (a.x, between [] (a.y ∷ []) q, stands_first [] (a.x ∷ []) [] (a.y ∷ []) l, (a.y, q, stands_second [] (a.y ∷ []) q, (refl, refl)))

unfoldable pub point : Format lists Point
point = relay point_read (λ γ. PointHeld) point_to point_from

pub points_to : (points : List Point) (p q : Lists) → Each PointHeld points p q → Stands [] (every point_numbers points) p q
points_to points p q l = (run_to PointHeld (λ a. Unit {0}) point_numbers (λ a r t m. (tt, m)) points p q l).1

pub points_from : (points : List Point) (p q : Lists) → Stands [] (every point_numbers points) p q → Each PointHeld points p q
points_from points p q s = run_from PointHeld (λ a. Unit {0}) point_numbers (λ a r t h m. m) points p q (all_any points) s

-- ---- a point and, where there is more, a number behind it
unfoldable pub more_read : Bool → Format lists ℕ
more_read true = entry number
more_read false = pure 0

unfoldable pub vertex_read : Bool → Format lists Vertex
vertex_read more = do
  a ← point
  extra ← more_read more
  pure (record { point = a; extra = extra })

abbrev pub VertexHeld : Bool → Vertex → Lists → Lists → Type 0
VertexHeld more a p q = VertexWithin more a × Stands [] (vertex_numbers more a) p q

pub vertex_to : (more : Bool) (γ : Unit {0}) (a : Vertex) (p q : Lists) → (vertex_read more).lays γ a p q → VertexHeld more a p q
unfolding vertex_read more_read point relay entry ◌>>=◌ pure
vertex_to true γ a p q l = rw (l.3.3.0, l.3.3.1) (tt, stands_then l.2 l.3.2)
vertex_to false γ a p q l = rw (l.3.3.0, l.3.3.1, l.3.2.0, l.3.2.1) (refl, l.2)

pub vertex_from : (more : Bool) (γ : Unit {0}) (a : Vertex) (p q : Lists) → VertexHeld more a p q → (vertex_read more).lays γ a p q
unfolding vertex_read more_read point relay entry ◌>>=◌ pure
vertex_from true γ a p q l =
    let r = between [] (a.extra ∷ []) q in
    (a.point, r, stands_first [] (point_numbers a.point) [] (a.extra ∷ []) l.1, (a.extra, q, stands_second [] (a.extra ∷ []) q, (refl, refl)))
vertex_from false γ a p q l = (a.point, q, l.1, (a.extra, q, (l.0, refl), (refl, refl)))

unfoldable pub vertex : Bool → Format lists Vertex
vertex more = relay (vertex_read more) (λ γ. VertexHeld more) (vertex_to more) (vertex_from more)

pub vertices_to : (more : Bool) (items : List Vertex) (p q : Lists) → Each (VertexHeld more) items p q
    → All (VertexWithin more) items × Stands [] (every (vertex_numbers more) items) p q
vertices_to more items p q l = run_to (VertexHeld more) (VertexWithin more) (vertex_numbers more) (λ a r t m. m) items p q l

pub vertices_from : (more : Bool) (items : List Vertex) (p q : Lists) → All (VertexWithin more) items
    → Stands [] (every (vertex_numbers more) items) p q → Each (VertexHeld more) items p q
vertices_from more items p q h s = run_from (VertexHeld more) (VertexWithin more) (vertex_numbers more) (λ a r t i m. (i, m)) items p q h s
