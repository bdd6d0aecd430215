-- The words from an index on, as one slice has them: a polyline's and a spline's are found there by one test. Assumes nothing.
use mathlib.Core.Path.{◌≡◌, ap, ◌∙◌}
use mathlib.Core.Bool.{true, false}
use mathlib.Core.List.{List}
use Prim.Native.Nat.{ℕ, ◌+◌, ◌-◌, ◌≤◌, ◌<◌}
use native.Mathlib.Omega.{arith}
use lib.ListN.{length, get_or, take, drop, length-drop}
use Rattle.std.proofs.lemmas.List.{take_all, get_or-drop}
use Rattle.hatch_format.specs.Caps.{document_caps}
use Rattle.hatch_lists.specs.Items.{item, tangent_numbers}
use Rattle.hatch_lists.specs.Steps.{next, broken, spline_step, polyline_step}
use Rattle.list_items.specs.Found.{polyline_words, spline_words}
use Rattle.list_items.proofs.Short.{spline_short, polyline_short}
use Rattle.list_items.proofs.Words.{spline_yes, spline_no}
use Rattle.list_items.proofs.Heads.{head_of, polyline_yes, polyline_no}

module _ (ws : List ℕ) (at : ℕ) where
  abbrev pub ahead : List ℕ
  ahead = take (length ws - at) (drop at ws)

  all_ahead : ahead ≡ drop at ws
  all_ahead = take_all (length ws - at) (drop at ws) (omega (arith, length-drop at ws))

  pub long_ahead : length ahead ≡ length ws - at
  long_ahead = ap length all_ahead ∙ length-drop at ws

  first_ahead : get_or ahead 0 0 ≡ get_or ws at 0
  first_ahead =
      let e : at + 0 ≡ at = omega arith in
      ap (λ (l : List ℕ). get_or l 0 0) all_ahead ∙ get_or-drop at ws 0 0 ∙ ap (λ (n : ℕ). get_or ws n 0) e

  word_ahead : (i : ℕ) → get_or ahead i 0 ≡ get_or ws (at + i) 0
  word_ahead i = ap (λ (l : List ℕ). get_or l i 0) all_ahead ∙ get_or-drop at ws i 0

  -- ---- a polyline
  pub polyline_few : length ahead < 4 → polyline_step document_caps (drop at ws) ≡ broken
  polyline_few h = polyline_short ws at (omega (arith, h, long_ahead))

  module _ (h : 4 ≤ length ahead) where
    pub polyline_ahead : polyline_words (get_or ahead 0 0) (get_or ahead 1 0) (get_or ahead 2 0) (get_or ahead 3 0) ≡ true
        → polyline_step document_caps (drop at ws) ≡ next (head_of (item 0 (get_or ahead 2 0) (2 + get_or ahead 0 0) 0 0) 0) (drop (at + 4) ws)
    polyline_ahead = polyline_yes ws at (omega (arith, h, long_ahead)) first_ahead (word_ahead 1) (word_ahead 2) (word_ahead 3)

    pub polyline_other : polyline_words (get_or ahead 0 0) (get_or ahead 1 0) (get_or ahead 2 0) (get_or ahead 3 0) ≡ false
        → polyline_step document_caps (drop at ws) ≡ broken
    polyline_other = polyline_no ws at (omega (arith, h, long_ahead)) first_ahead (word_ahead 1) (word_ahead 2) (word_ahead 3)

  -- ---- a spline
  pub spline_few : length ahead < 6 → spline_step document_caps (drop at ws) ≡ broken
  spline_few h = spline_short ws at (omega (arith, h, long_ahead))

  module _ (h : 6 ≤ length ahead) where
    pub spline_ahead : spline_words (get_or ahead 1 0) (get_or ahead 2 0) (get_or ahead 3 0) (get_or ahead 4 0) (get_or ahead 5 0) ≡ true
        → spline_step document_caps (drop at ws)
        ≡ next (item (get_or ahead 3 0) (get_or ahead 4 0) (2 + get_or ahead 1 0) (get_or ahead 5 0) (tangent_numbers (get_or ahead 5 0))) (drop (at + 6) ws)
    spline_ahead = spline_yes ws at (omega (arith, h, long_ahead)) (word_ahead 1) (word_ahead 2) (word_ahead 3) (word_ahead 4) (word_ahead 5)

    pub spline_other : spline_words (get_or ahead 1 0) (get_or ahead 2 0) (get_or ahead 3 0) (get_or ahead 4 0) (get_or ahead 5 0) ≡ false
        → spline_step document_caps (drop at ws) ≡ broken
    spline_other = spline_no ws at (omega (arith, h, long_ahead)) (word_ahead 1) (word_ahead 2) (word_ahead 3) (word_ahead 4) (word_ahead 5)
