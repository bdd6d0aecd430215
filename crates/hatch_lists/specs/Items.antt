-- The items of paths and pattern lines: how many numbers each has, and where its coordinates stand. Assumes nothing.
use Rattle.std.specs.Prelude.{Bool, true, false, List, [], ◌∷◌, ◌++◌, ℕ, zero, suc, ◌+◌, ◌*◌, length}
use Rattle.std.specs.List.{flat_map}
use Rattle.hatch_format.specs.Values.{Edge, line, arc, ellipse, spline, Segments, polyline, edges, Path, PatternLine}
use Rattle.hatch_format.specs.Entries.{fit_count}
use Rattle.hatch_lists.specs.declared.Item.{Item}
use Rattle.hatch_lists.specs.Holding.{Holding}

abbrev pub item : ℕ → ℕ → ℕ → ℕ → ℕ → Item
item before points stride fits behind =
    record { before = before; points = points; stride = stride; fit_points = fits; behind = behind }

-- an item without numbers
abbrev pub no_item : Item
no_item = item 0 0 2 0 0

-- points alone
abbrev pub points_item : ℕ → Item
points_item n = item 0 n 2 0 0

abbrev pub item_size : Item → ℕ
item_size i = i.before + (i.points * i.stride + (i.fit_points * 2 + i.behind))

-- from a vertex to the next, or from a control point to the next
abbrev pub stride_of : Bool → ℕ
stride_of true = 3
stride_of false = 2

-- two tangents behind fit points
abbrev pub tangent_numbers : ℕ → ℕ
tangent_numbers zero = 0
tangent_numbers (suc n) = 4

abbrev pub polyline_item : Bool → ℕ → Item
polyline_item bulge n = item 0 n (stride_of bulge) 0 0

abbrev pub spline_item : Bool → ℕ → ℕ → ℕ → Item
spline_item rational knots controls fits = item knots controls (stride_of rational) fits (tangent_numbers fits)

-- a line's ends; a centre before radius and angles; a centre before endpoint, ratio and angles; control points behind knots, then fit points
abbrev pub edge_item : Edge → Item
edge_item (line start end) = points_item 2
edge_item (arc a) = item 0 1 2 0 3
edge_item (ellipse a) = item 0 1 2 0 5
edge_item (spline a) = spline_item a.rational (length a.knots) (length a.control_points) (fit_count a.fits)

-- the origin behind the angle, before offset and dashes
abbrev pub dashed_item : ℕ → Item
dashed_item n = item 1 1 2 0 (2 + n)

abbrev pub line_item : PatternLine → Item
line_item a = dashed_item (length a.dashes)

-- what each of the list has, one behind the other
abbrev pub gathered : {A B : Type 0} → (A → List B) → List A → List B
gathered = flat_map

abbrev pub edge_items : List Edge → List Item
edge_items [] = no_item ∷ []
edge_items (a ∷ es) = edge_item a ∷ edge_items es

-- a polyline is one item; of a path of edges, the count of edges and the count of handles have no numbers
abbrev pub segment_items : Segments → List Item
segment_items (polyline bulge closed vertices) = polyline_item bulge (length vertices) ∷ []
segment_items (edges es) = no_item ∷ edge_items es

abbrev pub path_items : Path → List Item
path_items a = segment_items a.segments

abbrev pub held_items : Holding → List Item
held_items a = gathered path_items a.paths ++ gathered (λ b. line_item b ∷ []) a.lines
