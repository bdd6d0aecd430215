-- A step of the walk from a place in the lists, and where it leads. Assumes nothing.
use Rattle.std.specs.Prelude.{◌≡◌, refl, Bool, true, false, ◌&&◌, Option, Some, None, List, [], ◌∷◌, ℕ, zero, suc, ◌+◌, ◌-◌, ◌≤◌, ◌<◌, leb, eqb, length, drop}
use Rattle.hatch_format.specs.Caps.{document_caps}
use Rattle.hatch_lists.specs.declared.Item.{Item}
use Rattle.hatch_lists.specs.Items.{item_size, points_item}
use Rattle.hatch_lists.specs.Steps.{Step, next, broken, edge_step, handles_step, head_step, line_step}
use Rattle.hatch_lists.specs.Walks.{Left, left_of, prepend, Walk, walk}
use Rattle.whole_lists.specs.declared.Place.{Place}
use Rattle.list_items.specs.Found.{Small}

-- ---- a place in lists of words and of so many numbers
pub record Within (ws : List ℕ) (numbers : ℕ) (p : Place) : Type 0 where
  pub word : p.word ≤ length ws
  pub number : p.number ≤ numbers
  pub parts : p.parts ≤ 100_001

-- all is passed
abbrev pub finished : Place → Bool
finished p = eqb p.parts 0 && (eqb p.paths 0 && eqb p.lines 0)

-- what is left there
abbrev pub left_at : List ℕ → ℕ → Place → Left
left_at ws numbers p = left_of (drop p.word ws) (numbers - p.number)

-- the walk from there on, and what comes behind it
abbrev pub walk_at : Walk → List ℕ → ℕ → Place → Step Left (List Item)
walk_at rest ws numbers p = walk document_caps rest p.parts p.paths p.lines (left_at ws numbers p)

-- ---- an item's numbers passed, before a place behind its words
abbrev pub pass_if : Bool → Item → Place → Option (Item × Place)
pass_if true i to =
    Some (i, record { word = to.word; number = to.number + item_size i; parts = to.parts; paths = to.paths; lines = to.lines })
pass_if false i to = None

abbrev pub passed_to : ℕ → Item → Place → Option (Item × Place)
passed_to numbers i to = pass_if (leb (item_size i) (numbers - to.number)) i to

-- ---- what the words from a place's on say, with its item's numbers passed: the next word is the first of those left
module _ (ws : List ℕ) (numbers number : ℕ) where
  abbrev pub step_on : {A : Type 0} → (A → Item) → (A → ℕ) → Step (List ℕ) A → ℕ → ℕ → Option (Item × Place)
  step_on item_of parts_of (next a left) paths lines =
      passed_to numbers (item_of a) (record { word = length ws - length left; number = number; parts = parts_of a; paths = paths; lines = lines })
  step_on item_of parts_of broken paths lines = None

  abbrev pub item_step : Step (List ℕ) Item → ℕ → ℕ → ℕ → Option (Item × Place)
  item_step said parts paths lines = step_on (λ i. i) (λ i. parts) said paths lines

-- the step from there, by what is left: a path's head, which says how many parts follow; an edge; the handle count, which is the last part; a pattern
-- line. Where all is passed there is none.
abbrev pub step_by : List ℕ → ℕ → ℕ → ℕ → ℕ → ℕ → ℕ → Option (Item × Place)
step_by ws numbers word number zero (suc paths) lines =
    step_on ws numbers number (λ h. h.item) (λ h. h.parts) (head_step document_caps (drop word ws)) paths lines
step_by ws numbers word number (suc (suc parts)) paths lines = item_step ws numbers number (edge_step document_caps (drop word ws)) (suc parts) paths lines
step_by ws numbers word number (suc zero) paths lines = item_step ws numbers number (handles_step document_caps (drop word ws)) 0 paths lines
step_by ws numbers word number zero zero (suc lines) = item_step ws numbers number (line_step document_caps (drop word ws)) 0 0 lines
step_by ws numbers word number zero zero zero = None

abbrev pub step_at : List ℕ → ℕ → Place → Option (Item × Place)
step_at ws numbers p = step_by ws numbers p.word p.number p.parts p.paths p.lines

-- a line edge and the handle count are left: the step is the edge, with its four numbers, and what follows is not looked at, here a handle count above the cap
an_edge : step_at (1 ∷ (1_025 ∷ [])) 4 (record { word = 0; number = 0; parts = 2; paths = 0; lines = 0 })
    ≡ Some (points_item 2, record { word = 1; number = 4; parts = 1; paths = 0; lines = 0 })
an_edge = refl

-- and then the lists are not whole
no_handles : step_at (1 ∷ (1_025 ∷ [])) 4 (record { word = 1; number = 4; parts = 1; paths = 0; lines = 0 }) ≡ None
no_handles = refl

-- ---- the walk goes on behind the step's item, whatever comes behind the walk; or it is not whole
abbrev pub resumed : Walk → List ℕ → ℕ → Option (Item × Place) → Step Left (List Item)
resumed rest ws numbers (Some f) = prepend (f.0 ∷ []) (walk_at rest ws numbers f.1)
resumed rest ws numbers None = broken

-- and it has gone on: a word at least is passed, and just the item's numbers are
abbrev pub Onward : List ℕ → ℕ → Place → Option (Item × Place) → Type 0
Onward ws numbers p (Some f) = (p.word < f.1.word) × Within ws numbers f.1 × (f.1.number ≡ p.number + item_size f.0) × Small f.0
Onward ws numbers p None = Unit {0}

-- a step is the one from its place, and with it the walk goes on
pub record Steps (ws : List ℕ) (numbers : ℕ) (p : Place) (r : Option (Item × Place)) : Type 0 where
  pub is : r ≡ step_at ws numbers p
  pub same : (rest : Walk) → walk_at rest ws numbers p ≡ resumed rest ws numbers r
  pub onward : Onward ws numbers p r
