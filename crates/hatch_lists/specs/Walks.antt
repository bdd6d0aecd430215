-- The items of the lists one behind the other, by the words and by how many numbers are left: what is left of a path, then the paths, then
-- the pattern lines. Assumes nothing.
use Rattle.std.specs.Prelude.{Bool, true, false, List, [], ◌∷◌, ◌++◌, ℕ, zero, suc, ◌-◌, ◌*◌, leb, eqb}
use Rattle.hatch_format.specs.declared.Caps.{Caps}
use Rattle.hatch_lists.specs.declared.Item.{Item}
use Rattle.hatch_lists.specs.Items.{item_size}
use Rattle.hatch_lists.specs.Steps.{Step, next, broken, and_next, edge_step, handles_step, head_step, line_step}

-- what is left: words, and how many numbers
pub record Left : Type 0 where
  pub words : List ℕ
  pub numbers : ℕ

abbrev pub left_of : List ℕ → ℕ → Left
left_of ws n = record { words = ws; numbers = n }

-- an item's numbers are there, and passed
abbrev pub pass_if : {A : Type 0} → Bool → A → ℕ → List ℕ → ℕ → Step Left A
pass_if true a size ws n = next a (left_of ws (n - size))
pass_if false a size ws n = broken

abbrev pub passing : {A : Type 0} → (A → Item) → ℕ → Step (List ℕ) A → Step Left A
passing size_of n (next a ws) = pass_if (leb (item_size (size_of a)) n) a (item_size (size_of a)) ws n
passing size_of n broken = broken

abbrev pub stepping : {A : Type 0} → (A → Item) → (List ℕ → Step (List ℕ) A) → Left → Step Left A
stepping size_of step l = passing size_of l.numbers (step l.words)

-- items before those of another walk
abbrev pub prepend : List Item → Step Left (List Item) → Step Left (List Item)
prepend is (next js l) = next (is ++ js) l
prepend is broken = broken

-- a walk over items: all of them, and what is left behind them
abbrev pub Walk : Type 0
Walk = Left → Step Left (List Item)

abbrev pub here : Walk
here l = next [] l

abbrev pub item_then : (List ℕ → Step (List ℕ) Item) → Walk → Walk
item_then step rest l = and_next (stepping (λ i. i) step l) (λ i r. prepend (i ∷ []) (rest r))

-- n walks of one kind before another
abbrev pub times_then : ℕ → (Walk → Walk) → Walk → Walk
times_then zero before rest = rest
times_then (suc n) before rest = before (times_then n before rest)

module _ (caps : Caps) where
  -- the parts of a path under way: so many edges and a handle count, one more than the edges; or none
  abbrev pub parts_then : ℕ → Walk → Walk
  parts_then zero rest = rest
  parts_then (suc n) rest = times_then n (item_then (edge_step caps)) (item_then (handles_step caps) rest)

  abbrev pub path_then : Walk → Walk
  path_then rest l = and_next (stepping (λ h. h.item) (head_step caps) l) (λ h r. prepend (h.item ∷ []) (parts_then h.parts rest r))

  -- parts of a path under way, paths, pattern lines, and what comes behind them
  abbrev pub walk : Walk → ℕ → ℕ → ℕ → Walk
  walk rest parts paths lines = parts_then parts (times_then paths path_then (times_then lines (item_then (line_step caps)) rest))

-- ---- the end of whole lists: no word is left, and the numbers of so many seed points
abbrev pub end_if : List ℕ → Bool → Step Left (List Item)
end_if [] true = next [] (left_of [] 0)
end_if [] false = broken
end_if (w ∷ ws) b = broken

abbrev pub finish : ℕ → Walk
finish seeds l = end_if l.words (eqb l.numbers (seeds * 2))
