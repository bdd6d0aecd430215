-- What is found at an index: the definition's step from there on, and the index behind it. Assumes nothing.
use Rattle.std.specs.Prelude.{◌≡◌, Bool, ◌&&◌, leb, List, ℕ, ◌+◌, ◌≤◌, ◌<◌, ◌^◌, Option, Some, None, length, drop}
use Rattle.hatch_format.specs.Caps.{document_caps}
use Rattle.hatch_lists.specs.declared.Head.{Head}
use Rattle.hatch_lists.specs.declared.Item.{Item}
use Rattle.hatch_lists.specs.Steps.{Step, next, broken}

-- the index behind is further on, and within the list
pub record Behind (ws : List ℕ) (at to : ℕ) : Type 0 where
  pub further : at < to
  pub within : to ≤ length ws

-- the value is the step's, and has a property; behind it stand the words that the step leaves; or the step breaks off
abbrev pub Finds : {A : Type 0} → (A → Type 0) → List ℕ → ℕ → Option (A × ℕ) → (List ℕ → Step (List ℕ) A) → Type 0
Finds P ws at (Some f) step = (step (drop at ws) ≡ next f.0 (drop f.1 ws)) × Behind ws at f.1 × P f.0
Finds P ws at None step = step (drop at ws) ≡ broken

-- the same of one word: behind it stand the words after the index
abbrev pub Reads : {A : Type 0} → (A → Type 0) → List ℕ → ℕ → Option A → (List ℕ → Step (List ℕ) A) → Type 0
Reads P ws at (Some a) step = (step (drop at ws) ≡ next a (drop (at + 1) ws)) × P a
Reads P ws at None step = step (drop at ws) ≡ broken

abbrev pub IsWord : ℕ → Type 0
IsWord n = n < 2 ^ 32

abbrev pub IsCount : ℕ → ℕ → Type 0
IsCount most n = n ≤ most

abbrev pub IsSwitch : Bool → Type 0
IsSwitch b = Unit {0}

-- within document 01's caps, so that an item's numbers are few enough to be counted
pub record Small (i : Item) : Type 0 where
  pub before : i.before ≤ 100_000
  pub points : i.points ≤ 100_000
  pub from_two : 2 ≤ i.stride
  pub to_three : i.stride ≤ 3
  pub fits : i.fit_points ≤ 100_000
  pub behind : i.behind ≤ 100

-- and a head's parts too
abbrev pub SmallHead : Head → Type 0
SmallHead h = Small h.item × (h.parts ≤ 100_001)

-- the words of a polyline behind its flags are those of a hatch
abbrev pub polyline_words : ℕ → ℕ → ℕ → ℕ → Bool
polyline_words bulge closed vertices handles =
    leb bulge 1 && (leb closed 1 && (leb vertices document_caps.vertices && leb handles document_caps.boundary_handles))

-- and so are those of a spline behind its degree
abbrev pub spline_words : ℕ → ℕ → ℕ → ℕ → ℕ → Bool
spline_words rational periodic knots controls fits =
    leb rational 1 && (leb periodic 1 && (leb knots document_caps.knots && (leb controls document_caps.control_points && leb fits document_caps.fit_points)))
