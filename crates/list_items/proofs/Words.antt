-- What the words at an index say: a missing word, a switch, a count, and the six words of a spline. Assumes nothing.
use mathlib.Core.Path.{◌≡◌, refl, ap, ◌∙◌}
use mathlib.Core.Bool.{Bool, true, false, ◌&&◌}
use mathlib.Core.List.{List, [], ◌∷◌}
use Prim.Native.Nat.{ℕ, zero, suc, ◌+◌, ◌-◌, ◌≤◌, ◌<◌}
use native.Mathlib.Omega.{arith}
use lib.Dec.{leb}
use lib.ListN.{length, get_or, drop}
use lib.Seq.{drop-cons, drop-length}
use borrow.Author.Tests.{le-leb, lt-leb}
use Rattle.hatch_format.specs.Caps.{document_caps}
use Rattle.hatch_lists.specs.declared.Item.{Item}
use Rattle.hatch_lists.specs.Items.{item, tangent_numbers, spline_item}
use Rattle.hatch_lists.specs.Steps.{Step, next, broken, and_next, a_word, switch_by, a_switch, count_if, a_count, spline_step}
use Rattle.list_items.specs.Found.{spline_words}

pub no_word : (ws : List ℕ) (at : ℕ) → at ≡ length ws → drop at ws ≡ []
no_word ws at e = ap (λ (n : ℕ). drop n ws) e ∙ drop-length ws

pub first_word : (ws : List ℕ) (at : ℕ) → at < length ws → drop at ws ≡ get_or ws at 0 ∷ drop (at + 1) ws
first_word ws at h = let e : suc at ≡ at + 1 = omega arith in drop-cons ws at 0 h ∙ ap (λ (n : ℕ). get_or ws at 0 ∷ drop n ws) e

pub next_word : (ws : List ℕ) (at i j : ℕ) → i + 1 ≡ j → at + i < length ws → drop (at + i) ws ≡ get_or ws (at + i) 0 ∷ drop (at + j) ws
next_word ws at i j e h =
    let f : at + i + 1 ≡ at + j = omega (arith, e) in
    first_word ws (at + i) h ∙ ap (λ (n : ℕ). get_or ws (at + i) 0 ∷ drop n ws) f

-- ---- a switch and a count
abbrev pub flagged : ℕ → Bool
flagged zero = false
flagged (suc n) = true

pub switch_good : (n : ℕ) (ws : List ℕ) → n ≤ 1 → switch_by n ws ≡ next (flagged n) ws
switch_good zero ws h = refl
switch_good (suc zero) ws h = refl
switch_good (suc (suc n)) ws h = absurd (omega arith)

pub switch_bad : (n : ℕ) (ws : List ℕ) → 1 < n → switch_by n ws ≡ broken
switch_bad zero ws h = absurd (omega arith)
switch_bad (suc zero) ws h = absurd (omega arith)
switch_bad (suc (suc n)) ws h = refl

module _ (ws : List ℕ) (at : ℕ) (h : at < length ws) where
  pub word_at : a_word (drop at ws) ≡ next (get_or ws at 0) (drop (at + 1) ws)
  word_at = ap a_word (first_word ws at h)

  pub switch_found : get_or ws at 0 ≤ 1 → a_switch (drop at ws) ≡ next (flagged (get_or ws at 0)) (drop (at + 1) ws)
  switch_found k = ap a_switch (first_word ws at h) ∙ switch_good (get_or ws at 0) (drop (at + 1) ws) k

  pub switch_broken : 1 < get_or ws at 0 → a_switch (drop at ws) ≡ broken
  switch_broken k = ap a_switch (first_word ws at h) ∙ switch_bad (get_or ws at 0) (drop (at + 1) ws) k

  pub count_found : (most : ℕ) → get_or ws at 0 ≤ most → a_count most (drop at ws) ≡ next (get_or ws at 0) (drop (at + 1) ws)
  count_found most k = ap (a_count most) (first_word ws at h)
      ∙ ap (λ (b : Bool). count_if b (get_or ws at 0) (drop (at + 1) ws)) (le-leb (get_or ws at 0) most k)

  pub count_broken : (most : ℕ) → most < get_or ws at 0 → a_count most (drop at ws) ≡ broken
  count_broken most k = ap (a_count most) (first_word ws at h)
      ∙ ap (λ (b : Bool). count_if b (get_or ws at 0) (drop (at + 1) ws)) (lt-leb (get_or ws at 0) most k)

-- ---- a spline: the words behind its degree are those of a hatch
abbrev pub found_if : Bool → Item → List ℕ → Step (List ℕ) Item
found_if true i ws = next i ws
found_if false i ws = broken

-- three counts behind two switches
counts_by : (rational : Bool) (k c f : ℕ) (ws : List ℕ)
    → and_next (a_count 100_000 (k ∷ (c ∷ (f ∷ ws)))) (λ knots vs. and_next (a_count 100_000 vs) (λ controls us.
    and_next (a_count 100_000 us) (λ fits. next (spline_item rational knots controls fits))))
    ≡ found_if (leb k 100_000 && (leb c 100_000 && leb f 100_000)) (spline_item rational k c f) ws
counts_by rational k c f ws = go (leb k 100_000) refl (leb c 100_000) refl (leb f 100_000) refl
  where
    go : (x : Bool) → leb k 100_000 ≡ x → (y : Bool) → leb c 100_000 ≡ y → (z : Bool) → leb f 100_000 ≡ z
        → and_next (a_count 100_000 (k ∷ (c ∷ (f ∷ ws)))) (λ knots vs. and_next (a_count 100_000 vs) (λ controls us.
        and_next (a_count 100_000 us) (λ fits. next (spline_item rational knots controls fits))))
        ≡ found_if (leb k 100_000 && (leb c 100_000 && leb f 100_000)) (spline_item rational k c f) ws
    go false e y f' z g = rw e
    go true e false f' z g = rw (e, f')
    go true e true f' false g = rw (e, f', g)
    go true e true f' true g = rw (e, f', g)

pub spline_by : (d r p k c f : ℕ) (ws : List ℕ) → spline_step document_caps (d ∷ (r ∷ (p ∷ (k ∷ (c ∷ (f ∷ ws))))))
    ≡ found_if (spline_words r p k c f) (item k c (2 + r) f (tangent_numbers f)) ws
spline_by d (suc (suc r)) p k c f ws = rw (lt-leb (suc (suc r)) 1 (omega arith))
spline_by d zero zero k c f ws = counts_by false k c f ws
spline_by d zero (suc zero) k c f ws = counts_by false k c f ws
spline_by d zero (suc (suc p)) k c f ws = rw (lt-leb (suc (suc p)) 1 (omega arith))
spline_by d (suc zero) zero k c f ws = counts_by true k c f ws
spline_by d (suc zero) (suc zero) k c f ws = counts_by true k c f ws
spline_by d (suc zero) (suc (suc p)) k c f ws = rw (lt-leb (suc (suc p)) 1 (omega arith))

-- the words from an index on, one by one
pub spline_at : (ws : List ℕ) (at : ℕ) → 6 ≤ length ws - at → spline_step document_caps (drop at ws)
    ≡ found_if (spline_words (get_or ws (at + 1) 0) (get_or ws (at + 2) 0) (get_or ws (at + 3) 0) (get_or ws (at + 4) 0) (get_or ws (at + 5) 0))
    (item (get_or ws (at + 3) 0) (get_or ws (at + 4) 0) (2 + get_or ws (at + 1) 0) (get_or ws (at + 5) 0) (tangent_numbers (get_or ws (at + 5) 0)))
    (drop (at + 6) ws)
spline_at ws at h =
    let w₀ = first_word ws at (omega arith) in
    let w₁ = next_word ws at 1 2 refl (omega arith) in
    let w₂ = next_word ws at 2 3 refl (omega arith) in
    let w₃ = next_word ws at 3 4 refl (omega arith) in
    let w₄ = next_word ws at 4 5 refl (omega arith) in
    let w₅ = next_word ws at 5 6 refl (omega arith) in
    ap (spline_step document_caps) (w₀ ∙ ap (λ (l : List ℕ). get_or ws at 0 ∷ l) (w₁ ∙ ap (λ (l : List ℕ). get_or ws (at + 1) 0 ∷ l) (w₂
    ∙ ap (λ (l : List ℕ). get_or ws (at + 2) 0 ∷ l) (w₃ ∙ ap (λ (l : List ℕ). get_or ws (at + 3) 0 ∷ l) (w₄
    ∙ ap (λ (l : List ℕ). get_or ws (at + 4) 0 ∷ l) w₅)))))
    ∙ spline_by (get_or ws at 0) (get_or ws (at + 1) 0) (get_or ws (at + 2) 0) (get_or ws (at + 3) 0) (get_or ws (at + 4) 0) (get_or ws (at + 5) 0)
    (drop (at + 6) ws)

-- the same of numbers that were read there, by what the test says of them
module _ (ws : List ℕ) (at : ℕ) (h : 6 ≤ length ws - at) {r p k c f : ℕ} (er : r ≡ get_or ws (at + 1) 0) (ep : p ≡ get_or ws (at + 2) 0)
    (ek : k ≡ get_or ws (at + 3) 0) (ec : c ≡ get_or ws (at + 4) 0) (ef : f ≡ get_or ws (at + 5) 0) where
  spline_read : spline_step document_caps (drop at ws) ≡ found_if (spline_words r p k c f) (item k c (2 + r) f (tangent_numbers f)) (drop (at + 6) ws)
  spline_read = rw (er, ep, ek, ec, ef) (spline_at ws at h)

  pub spline_yes : spline_words r p k c f ≡ true → spline_step document_caps (drop at ws) ≡ next (item k c (2 + r) f (tangent_numbers f)) (drop (at + 6) ws)
  spline_yes e = spline_read ∙ ap (λ (b : Bool). found_if b (item k c (2 + r) f (tangent_numbers f)) (drop (at + 6) ws)) e

  pub spline_no : spline_words r p k c f ≡ false → spline_step document_caps (drop at ws) ≡ broken
  spline_no e = spline_read ∙ ap (λ (b : Bool). found_if b (item k c (2 + r) f (tangent_numbers f)) (drop (at + 6) ws)) e
