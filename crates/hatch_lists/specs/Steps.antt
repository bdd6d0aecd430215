-- The words of one item, without the numbers: what they say of its numbers, and the words left. Assumes nothing.
use Rattle.std.specs.Prelude.{Bool, true, false, List, [], ◌∷◌, ℕ, zero, suc, leb}
use Rattle.hatch_format.specs.declared.Caps.{Caps}
use Rattle.hatch_format.specs.Values.{polylined}
use Rattle.hatch_lists.specs.declared.Head.{Head}
use Rattle.hatch_lists.specs.declared.Item.{Item}
use Rattle.hatch_lists.specs.Items.{item, no_item, points_item, polyline_item, spline_item, dashed_item}

-- a value and what is left, or not whole
pub data Step (S A : Type 0) : Type 0 where
  next : A → S → Step S A
  broken : Step S A

abbrev pub and_next : {S A B : Type 0} → Step S A → (A → S → Step S B) → Step S B
and_next (next a s) k = k a s
and_next broken k = broken

-- ---- a word, a switch, a count
abbrev pub a_word : List ℕ → Step (List ℕ) ℕ
a_word [] = broken
a_word (w ∷ ws) = next w ws

abbrev pub switch_by : ℕ → List ℕ → Step (List ℕ) Bool
switch_by zero ws = next false ws
switch_by (suc zero) ws = next true ws
switch_by (suc (suc n)) ws = broken

abbrev pub a_switch : List ℕ → Step (List ℕ) Bool
a_switch ws = and_next (a_word ws) switch_by

abbrev pub count_if : Bool → ℕ → List ℕ → Step (List ℕ) ℕ
count_if true n ws = next n ws
count_if false n ws = broken

abbrev pub a_count : ℕ → List ℕ → Step (List ℕ) ℕ
a_count cap ws = and_next (a_word ws) (λ n. count_if (leb n cap) n)

-- ---- an edge: with a switch, so many points before so many other numbers
abbrev pub turned_step : ℕ → ℕ → List ℕ → Step (List ℕ) Item
turned_step points behind ws = and_next (a_switch ws) (λ ccw. next (item 0 points 2 0 behind))

module _ (caps : Caps) where
  abbrev pub spline_step : List ℕ → Step (List ℕ) Item
  spline_step ws =
      and_next (a_word ws) (λ degree vs.
      and_next (a_switch vs) (λ rational us.
      and_next (a_switch us) (λ periodic ts.
      and_next (a_count caps.knots ts) (λ knots rs.
      and_next (a_count caps.control_points rs) (λ controls qs.
      and_next (a_count caps.fit_points qs) (λ fits.
      next (spline_item rational knots controls fits)))))))

  abbrev pub edge_by : ℕ → List ℕ → Step (List ℕ) Item
  edge_by zero ws = broken
  edge_by (suc zero) ws = next (points_item 2) ws
  edge_by (suc (suc zero)) ws = turned_step 1 3 ws
  edge_by (suc (suc (suc zero))) ws = turned_step 1 5 ws
  edge_by (suc (suc (suc (suc zero)))) ws = spline_step ws
  edge_by (suc (suc (suc (suc (suc n))))) ws = broken

  abbrev pub edge_step : List ℕ → Step (List ℕ) Item
  edge_step ws = and_next (a_word ws) edge_by

  -- ---- a path's head: a polyline has its handle count too; a path of edges goes on with so many edges and a handle count
  abbrev pub handles_step : List ℕ → Step (List ℕ) Item
  handles_step ws = and_next (a_count caps.boundary_handles ws) (λ n. next no_item)

  abbrev pub vertices_step : List ℕ → Step (List ℕ) Item
  vertices_step ws =
      and_next (a_switch ws) (λ bulge vs.
      and_next (a_switch vs) (λ closed us.
      and_next (a_count caps.vertices us) (λ n.
      next (polyline_item bulge n))))

  abbrev pub polyline_step : List ℕ → Step (List ℕ) Head
  polyline_step ws =
      and_next (vertices_step ws) (λ i vs.
      and_next (a_count caps.boundary_handles vs) (λ handles.
      next (record { item = i; parts = 0 })))

  abbrev pub edges_step : List ℕ → Step (List ℕ) Head
  edges_step ws = and_next (a_count caps.edges ws) (λ n. next (record { item = no_item; parts = suc n }))

  abbrev pub head_by : Bool → List ℕ → Step (List ℕ) Head
  head_by true ws = polyline_step ws
  head_by false ws = edges_step ws

  abbrev pub head_step : List ℕ → Step (List ℕ) Head
  head_step ws = and_next (a_word ws) (λ flags. head_by (polylined flags))

  -- ---- a pattern line
  abbrev pub line_step : List ℕ → Step (List ℕ) Item
  line_step ws = and_next (a_count caps.dashes ws) (λ n. next (dashed_item n))
