-- What the words of a path's head say: the four words of a polyline behind its flags, and flags by their value 2. Assumes nothing.
use mathlib.Core.Path.{◌≡◌, refl, sym, ap, ◌∙◌}
use mathlib.Core.Bool.{Bool, true, false, ◌&&◌}
use mathlib.Core.List.{List, ◌∷◌}
use Prim.Native.Nat.{ℕ, zero, suc, ◌+◌, ◌-◌, ◌≤◌, ◌<◌}
use native.Mathlib.Omega.{arith}
use lib.Dec.{leb}
use lib.ListN.{length, get_or, drop}
use borrow.Author.Tests.{lt-leb}
use Rattle.std.specs.Prelude.{Option}
use Rattle.hatch_format.specs.Caps.{document_caps}
use Rattle.hatch_format.specs.Values.{polylined}
use Rattle.hatch_lists.specs.declared.Head.{Head}
use Rattle.hatch_lists.specs.declared.Item.{Item}
use Rattle.hatch_lists.specs.Items.{item, polyline_item}
use Rattle.hatch_lists.specs.Steps.{Step, next, broken, and_next, a_count, polyline_step, edges_step, head_by, head_step}
use Rattle.list_items.specs.Found.{SmallHead, Finds, polyline_words}
use Rattle.list_items.proofs.Words.{first_word, next_word}
use Rattle.list_items.proofs.Finds.{found_behind}

abbrev pub head_of : Item → ℕ → Head
head_of i n = record { item = i; parts = n }

abbrev pub head_if : Bool → Item → List ℕ → Step (List ℕ) Head
head_if true i ws = next (head_of i 0) ws
head_if false i ws = broken

-- two counts behind two switches
counts_by : (bulge : Bool) (n h : ℕ) (ws : List ℕ)
    → and_next (and_next (a_count 100_000 (n ∷ (h ∷ ws))) (λ m. next (polyline_item bulge m))) (λ i vs. and_next (a_count 1_024 vs) (λ handles. next
    (head_of i 0)))
    ≡ head_if (leb n 100_000 && leb h 1_024) (polyline_item bulge n) ws
counts_by bulge n h ws = go (leb n 100_000) refl (leb h 1_024) refl
  where
    go : (x : Bool) → leb n 100_000 ≡ x → (y : Bool) → leb h 1_024 ≡ y
        → and_next (and_next (a_count 100_000 (n ∷ (h ∷ ws))) (λ m. next (polyline_item bulge m)))
        (λ i vs. and_next (a_count 1_024 vs) (λ handles. next (head_of i 0)))
        ≡ head_if (leb n 100_000 && leb h 1_024) (polyline_item bulge n) ws
    go false e y f = rw e
    go true e false f = rw (e, f)
    go true e true f = rw (e, f)

pub polyline_by : (b c n h : ℕ) (ws : List ℕ) → polyline_step document_caps (b ∷ (c ∷ (n ∷ (h ∷ ws))))
    ≡ head_if (polyline_words b c n h) (item 0 n (2 + b) 0 0) ws
polyline_by (suc (suc b)) c n h ws = rw (lt-leb (suc (suc b)) 1 (omega arith))
polyline_by zero zero n h ws = counts_by false n h ws
polyline_by zero (suc zero) n h ws = counts_by false n h ws
polyline_by zero (suc (suc c)) n h ws = rw (lt-leb (suc (suc c)) 1 (omega arith))
polyline_by (suc zero) zero n h ws = counts_by true n h ws
polyline_by (suc zero) (suc zero) n h ws = counts_by true n h ws
polyline_by (suc zero) (suc (suc c)) n h ws = rw (lt-leb (suc (suc c)) 1 (omega arith))

pub polyline_at : (ws : List ℕ) (at : ℕ) → 4 ≤ length ws - at → polyline_step document_caps (drop at ws)
    ≡ head_if (polyline_words (get_or ws at 0) (get_or ws (at + 1) 0) (get_or ws (at + 2) 0) (get_or ws (at + 3) 0))
    (item 0 (get_or ws (at + 2) 0) (2 + get_or ws at 0) 0 0) (drop (at + 4) ws)
polyline_at ws at h =
    let w₀ = first_word ws at (omega arith) in
    let w₁ = next_word ws at 1 2 refl (omega arith) in
    let w₂ = next_word ws at 2 3 refl (omega arith) in
    let w₃ = next_word ws at 3 4 refl (omega arith) in
    ap (polyline_step document_caps) (w₀ ∙ ap (λ (l : List ℕ). get_or ws at 0 ∷ l) (w₁ ∙ ap (λ (l : List ℕ). get_or ws (at + 1) 0 ∷ l) (w₂
    ∙ ap (λ (l : List ℕ). get_or ws (at + 2) 0 ∷ l) w₃)))
    ∙ polyline_by (get_or ws at 0) (get_or ws (at + 1) 0) (get_or ws (at + 2) 0) (get_or ws (at + 3) 0) (drop (at + 4) ws)

-- the same of numbers that were read there, by what the test says of them
module _ (ws : List ℕ) (at : ℕ) (k : 4 ≤ length ws - at) {b c n h : ℕ} (eb : b ≡ get_or ws at 0) (ec : c ≡ get_or ws (at + 1) 0) (en : n ≡ get_or ws (at + 2) 0)
    (eh : h ≡ get_or ws (at + 3) 0) where
  polyline_read : polyline_step document_caps (drop at ws) ≡ head_if (polyline_words b c n h) (item 0 n (2 + b) 0 0) (drop (at + 4) ws)
  polyline_read = rw (eb, ec, en, eh) (polyline_at ws at k)

  pub polyline_yes : polyline_words b c n h ≡ true → polyline_step document_caps (drop at ws) ≡ next (head_of (item 0 n (2 + b) 0 0) 0) (drop (at + 4) ws)
  polyline_yes e = polyline_read ∙ ap (λ (t : Bool). head_if t (item 0 n (2 + b) 0 0) (drop (at + 4) ws)) e

  pub polyline_no : polyline_words b c n h ≡ false → polyline_step document_caps (drop at ws) ≡ broken
  polyline_no e = polyline_read ∙ ap (λ (t : Bool). head_if t (item 0 n (2 + b) 0 0) (drop (at + 4) ws)) e

-- flags, by their value 2
module _ (ws : List ℕ) (at : ℕ) (h : at < length ws) {w : ℕ} (ew : w ≡ get_or ws at 0) where
  pub head_of_lem : head_step document_caps (drop at ws) ≡ head_by document_caps (polylined w) (drop (at + 1) ws)
  head_of_lem = ap (head_step document_caps) (first_word ws at h) ∙ ap (λ (n : ℕ). head_by document_caps (polylined n) (drop (at + 1) ws)) (sym ew)

  pub head_polyline : polylined w ≡ true → (r : Option (Head × ℕ)) → Finds SmallHead ws (at + 1) r (polyline_step document_caps)
      → Finds SmallHead ws at r (head_step document_caps)
  head_polyline e r k =
      found_behind SmallHead ws at (head_step document_caps) (polyline_step document_caps)
      (head_of_lem ∙ ap (λ (b : Bool). head_by document_caps b (drop (at + 1) ws)) e) r k

  pub head_edges : polylined w ≡ false → (r : Option (Head × ℕ)) → Finds SmallHead ws (at + 1) r (edges_step document_caps)
      → Finds SmallHead ws at r (head_step document_caps)
  head_edges e r k =
      found_behind SmallHead ws at (head_step document_caps) (edges_step document_caps)
      (head_of_lem ∙ ap (λ (b : Bool). head_by document_caps b (drop (at + 1) ws)) e) r k
