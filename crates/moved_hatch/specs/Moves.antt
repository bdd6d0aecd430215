-- Where a call moves, record and lists are whole, and origin and coordinates are in range. The list afterwards is whole too: it holds the moved
-- hatch, with the same words and items, and the same numbers are coordinates. Assumes nothing.
use Rattle.std.proofs.Math.Path.{◌≡◌, ap}
use Rattle.std.proofs.Common.{sym, ap₂, subst, ◌∙◌, arith, length-take}
use Rattle.std.specs.Prelude.{Bool, List, ◌++◌, ℕ, ◌≤◌, length, take, Float}
use Rattle.std.proofs.Math.Bool.{true}
use Rattle.differences.specs.Difference.{difference_bits}
use Rattle.hatch_format.specs.Caps.{document_caps}
use Rattle.hatch_lists.specs.declared.HatchCounts.{HatchCounts}
use Rattle.hatch_lists.specs.declared.Item.{Item}
use Rattle.hatch_lists.specs.Within.{All}
use Rattle.hatch_lists.specs.Holding.{Holding, held_words}
use Rattle.hatch_lists.specs.Whole.{Whole}
use Rattle.hatch_lists.specs.Items.{points_item, gathered, held_items}
use Rattle.hatch_lists.specs.Coordinates.{Role, item_roles, held_roles}
use Rattle.hatch_lists.proofs.CoordinateLaws.{roles_of_items, roles_long}
use Rattle.hatch_lists.specs.WholeLaws.{numbers_altered, same_words}
use Rattle.moved_hatch.specs.Moving.{moved, all_in_range, moves, Arithmetic, patterns, after}
use Rattle.moved_hatch.specs.Doubles.{of_doubles, of_bits}
use Rattle.moved_hatch.specs.MovedLists.{moved_length, patterns_length, same_patterns}
use Rattle.moved_hatch.specs.MovedHatch.{moved_holding, moved_whole}
use Rattle.moved_hatch.specs.MovedDoubles.{IsDouble, bits_of, moved_doubles_whole}

module _ {A : Type 0} (m : Arithmetic A) (c : HatchCounts) (upright : Bool) (ws : List ℕ) (ns : List A) (x₀ y₀ : A) where
  -- the hatch that is moved, and what was tested; proofs/Moves: where a call moves, these are there
  pub record Moves (rs : List Role) : Type 0 where
    pub hatch : Holding
    pub is_whole : Whole c ws (patterns m.pattern ns) hatch
    pub roles : rs ≡ held_roles hatch
    pub is_upright : upright ≡ true
    pub x_in_range : m.in_range x₀ ≡ true
    pub y_in_range : m.in_range y₀ ≡ true
    pub all_are_in_range : all_in_range m.in_range rs ns ≡ true

  -- each role has a number
  pub roles_fit : (rs : List Role) → Moves rs → length rs ≤ length ns
  roles_fit rs h =
      let used = c.numbers_used in
      let all = patterns m.pattern ns in
      let long : length rs ≡ length (take used all) = ap length h.roles ∙ roles_long h.hatch ∙ ap length (sym h.is_whole.numbers) in
      omega (arith, length-take used all, patterns_length m.pattern ns)

-- ---- a moved hatch
-- it is whole with the same words: the same paths, edges, lines and seeds by number and kind, and the same numbers are coordinates
pub record StillWhole (c : HatchCounts) (ws ms : List ℕ) (a : Holding) : Type 0 where
  pub hatch : Holding
  pub is_whole : Whole c ws ms hatch
  pub words : held_words hatch ≡ held_words a
  pub items : held_items hatch ≡ held_items a
  pub roles : held_roles hatch ≡ held_roles a

module _ {A : Type 0} (m : Arithmetic A) (c : HatchCounts) (ws : List ℕ) (ns : List A) (x₀ y₀ : A) where
  pub moved_still_whole : (a : Holding) → Whole c ws (patterns m.pattern ns) a
      → StillWhole c ws (patterns m.pattern (moved m.difference x₀ y₀ (held_roles a) ns)) a
  moved_still_whole a h =
      let ms = moved m.difference x₀ y₀ (held_roles a) ns in
      let before = patterns m.pattern ns in
      let afterwards = patterns m.pattern ms in
      let long : length afterwards ≡ length before =
      patterns_length m.pattern ms ∙ moved_length m.difference x₀ y₀ (held_roles a) ns ∙ sym (patterns_length m.pattern ns) in
      let k = numbers_altered c ws before afterwards a h long in
      let b = k.0 in
      let seeds : length b.seeds ≡ length a.seeds = k.1.numbered.seeds_are ∙ sym h.numbered.seeds_are in
      record {
        hatch = b;
        is_whole = k.1;
        words = same_words c ws before afterwards a b h k.1;
        items = k.2;
        roles =
            roles_of_items document_caps b k.1.within
            ∙ ap₂ (λ (is : List Item) (n : ℕ). gathered item_roles is ++ item_roles (points_item n)) k.2 seeds
            ∙ sym (roles_of_items document_caps a h.within);
      }

  -- where a call moves, the list afterwards is whole
  pub after_still_whole : (upright : Bool) (rs : List Role) (h : Moves m c upright ws ns x₀ y₀ rs)
      → StillWhole c ws (patterns m.pattern (after m (moves rs) x₀ y₀ ns)) h.hatch
  after_still_whole upright rs h =
      subst (λ l. StillWhole c ws (patterns m.pattern (moved m.difference x₀ y₀ l ns)) h.hatch) (sym h.roles)
      (moved_still_whole h.hatch h.is_whole)

-- and holds the hatch with each coordinate moved: over 64 bits, and over doubles
pub bits_hold_moved : (c : HatchCounts) (upright : Bool) (ws ns : List ℕ) (x₀ y₀ : ℕ) (rs : List Role) (h : Moves of_bits c upright ws ns x₀ y₀ rs)
    → Whole c ws (after of_bits (moves rs) x₀ y₀ ns) (moved_holding difference_bits x₀ y₀ h.hatch)
bits_hold_moved c upright ws ns x₀ y₀ rs h =
    rw h.roles
    (moved_whole difference_bits x₀ y₀ c ws ns h.hatch (subst (λ l. Whole c ws l h.hatch) (same_patterns ns) h.is_whole))

pub doubles_hold_moved : (c : HatchCounts) (upright : Bool) (ws : List ℕ) (ns : List Float) (x₀ y₀ : Float) (rs : List Role)
    → IsDouble x₀ → IsDouble y₀ → All IsDouble ns → (h : Moves of_doubles c upright ws ns x₀ y₀ rs)
    → Whole c ws (patterns bits_of (after of_doubles (moves rs) x₀ y₀ ns)) (moved_holding difference_bits (bits_of x₀) (bits_of y₀) h.hatch)
doubles_hold_moved c upright ws ns x₀ y₀ rs p q d h = rw h.roles (moved_doubles_whole x₀ y₀ p q c ws ns h.hatch d h.is_whole)
