-- The numbers of each part that is read are in their fields' ranges, and rgb and alpha are present by the colour. Assumes nothing.
use Rattle.std.specs.Prelude.{◌≡◌, refl, Bool, true, false, List, ℕ, ℤ, ◌*◌, ◌^◌, ◌<◌, ◌≤◌, Option, Some, None, is_some}
use Rattle.std.proofs.Common.{sym, subst, lt_of_lt_of_le, arith, pow_pos, pow_mono}
use Rattle.bitcursor.specs.Reading.{Out, got, refused, and_then}
use Rattle.bitcursor.specs.Code.{Code, raw, give, ◌>>=◌, mapped, tabled}
use Rattle.bitcursor.specs.Bytes.{low_first}
use Rattle.bitcursor.specs.Codes.{BB, RC, RL, BS, BL, signed, signed_BS}
use Rattle.bitcursor.specs.Ranges.{Below, read_below, bytes_pow, raw_below, low_below}
use Rattle.bitcursor.proofs.Longs.{BL_below}
use Rattle.bitcursor.proofs.Steps.{raw_small}
use Rattle.bitcursor.proofs.Smalls.{BS_small, BL_small as BLs}
use Rattle.bitcursor.specs.Held.{held, held_below, marked}
use Rattle.prefix_format.specs.declared.table.Row.{Row}
use Rattle.prefix_format.specs.Values.{has_rgb, has_alpha}
use Rattle.prefix_parts.specs.declared.Head.{Head}
use Rattle.prefix_parts.specs.declared.Modes.{Modes}
use Rattle.prefix_parts.specs.declared.Colours.{Colours}
use Rattle.prefix_parts.specs.declared.Styles.{Styles}
use Rattle.prefix_parts.specs.declared.Tail.{Tail}
use Rattle.prefix_parts.specs.Parts.{head, modes, colours, styles, tail}

-- the number, where there is one
abbrev pub Under : ℕ → Option ℕ → Type 0
Under n (Some v) = v < n
Under n None = Unit {0}

-- the parts' numbers are in their fields' ranges
pub record InRange (h : Head) (m : Modes) (c : Colours) (t : Styles) (e : Tail) : Type 0 where
  pub end : Under (2 ^ 32) h.data_end_bits
  pub mode : m.raw_mode < 2 ^ 8
  pub reactors : m.num_reactors < 2 ^ 32
  pub colour : c.color_raw < 2 ^ 16
  pub rgb : Under (2 ^ 32) c.color_rgb
  pub alpha : Under (2 ^ 32) c.color_alpha
  pub linetype : t.ltype_flags < 2 ^ 8
  pub plot : t.plotstyle_flag < 2 ^ 8
  pub material : t.material_flag < 2 ^ 8
  pub shadow : t.shadow_flags < 2 ^ 8
  pub invisible : (v : ℕ) × (v < 2 ^ 16) × (e.invisibility ≡ signed 16 v)
  pub weight : e.lineweight < 2 ^ 8

-- rgb and alpha are present exactly by the colour's bits
pub record PresentByColour (row : Row) (c : Colours) : Type 0 where
  pub rgb : is_some c.color_rgb ≡ has_rgb row c.color_raw
  pub alpha : is_some c.color_alpha ≡ has_alpha row c.color_raw

-- what holds of whatever is read
abbrev Each : {A : Type 0} → (A → Type 0) → Out ℕ A → Type 0
Each P (got a q) = P a
Each P (refused r q) = Unit {0}

each_got : {A : Type 0} (P : A → Type 0) {o : Out ℕ A} {a : A} {q : ℕ} → got a q ≡ o → Each P o → P a
each_got P e h = subst (Each P) (sym e) h

-- through a code that is built by `>>=`
module _ {A B : Type 0} (P : B → Type 0) (xs : List ℕ) where
  each_on : (c : Code A) (k : A → Code B) (p : ℕ) → ((a : A) (q : ℕ) → got a q ≡ c.read xs p → Each P ((k a).read xs q)) → Each P ((c >>= k).read xs p)
  unfolding ◌>>=◌
  each_on c k p next = go (c.read xs p) refl
    where
      go : (o : Out ℕ A) → o ≡ c.read xs p → Each P (and_then o (λ a q. (k a).read xs q))
      go (got a q) e = next a q e
      go (refused r q) e = tt

each_give : {A : Type 0} (P : A → Type 0) (a : A) (xs : List ℕ) (p : ℕ) → P a → Each P ((give a).read xs p)
unfolding give
each_give P a xs p h = h

each_mapped : {A B : Type 0} (P : B → Type 0) (f : A → B) (c : Code A) (xs : List ℕ) (p : ℕ) → ((a : A) (q : ℕ) → got a q ≡ c.read xs p → P (f a))
    → Each P ((mapped f c).read xs p)
unfolding mapped tabled give
each_mapped P f c xs p next = each_on P xs c _ p next

-- ---- the range of a field that a release may lack
module _ (xs : List ℕ) (p : ℕ) where
  pub bits_small : (b : Bool) (n absent : ℕ) → n ≤ 8 → absent < 2 ^ n → {v q : ℕ} → got v q ≡ (held b (raw n) absent).read xs p → v < 2 ^ 8
  bits_small b n absent h k e =
      lt_of_lt_of_le (read_below (held b (raw n) absent) (held_below (2 ^ n) b (raw n) absent k (raw_below n)) xs p (sym e)) (pow_mono {j = 8} h)

  pub low_small : (b : Bool) (n : ℕ) {v q : ℕ} → got v q ≡ (held b (low_first n) 0).read xs p → v < 256 ^ n
  low_small b n e = read_below (held b (low_first n) 0) (held_below (256 ^ n) b (low_first n) 0 (rw (bytes_pow n) (pow_pos (8 * n))) (low_below n)) xs p (sym e)

  pub BL_small : (b : Bool) {v q : ℕ} → got v q ≡ (held b BL 0).read xs p → v < 2 ^ 32
  BL_small b e = read_below (held b BL 0) (held_below (2 ^ 32) b BL 0 (omega arith) BL_below) xs p (sym e)

  pub marked_small : (b : Bool) (n : ℕ) (c : Code ℕ) → Below n c → {m : Option ℕ} {q : ℕ} → got m q ≡ (marked b c).read xs p → Under n m
  unfolding marked held give
  marked_small true n c below e = each_got (Under n) e (each_mapped (Under n) Some c xs p λ v q f. read_below c below xs p (sym f))
  marked_small false n c below e = each_got (Under n) e tt

  marked_is : (b : Bool) (c : Code ℕ) {m : Option ℕ} {q : ℕ} → got m q ≡ (marked b c).read xs p → is_some m ≡ b
  unfolding marked held give
  marked_is true c e = each_got (λ m. is_some m ≡ true) e (each_mapped (λ m. is_some m ≡ true) Some c xs p λ v q f. refl)
  marked_is false c e = each_got (λ m. is_some m ≡ false) e refl

-- ---- the numbers of each part
module _ (row : Row) (xs : List ℕ) (p : ℕ) {q : ℕ} where
  pub head_small : {h : Head} → got h q ≡ (head row).read xs p → Under (2 ^ 32) h.data_end_bits
  unfolding head RL
  head_small e =
      let P = λ (h : Head). Under (2 ^ 32) h.data_end_bits in
      each_got P e (each_on P xs _ _ _ λ a q₁ e₁. each_on P xs _ _ _ λ b q₂ e₂. each_on P xs _ _ _ λ c q₃ e₃.
      each_give P _ xs _ (marked_small xs q₂ row.data_end (2 ^ 32) (low_first 4) (low_below 4) e₃))

  pub modes_small : {m : Modes} → got m q ≡ (modes row).read xs p → (m.raw_mode < 2 ^ 8) × (m.num_reactors < 2 ^ 32)
  unfolding modes BB
  modes_small e =
      let P = λ (m : Modes). (m.raw_mode < 2 ^ 8) × (m.num_reactors < 2 ^ 32) in
      each_got P e
      (each_on P xs _ _ _ λ a q₁ e₁. each_on P xs _ _ _ λ b q₂ e₂. each_on P xs _ _ _ λ c q₃ e₃.
      each_on P xs _ _ _ λ d q₄ e₄. each_on P xs _ _ _ λ f q₅ e₅. each_on P xs _ _ _ λ g q₆ e₆.
      let few : a < 2 ^ 2 = raw_small 2 xs p e₁ in
      each_give P _ xs _ (omega arith, BLs xs q₁ e₂))

  pub colours_small : {c : Colours} → got c q ≡ (colours row).read xs p → (c.color_raw < 2 ^ 16) × Under (2 ^ 32) c.color_rgb × Under (2 ^ 32) c.color_alpha
  unfolding colours
  colours_small e =
      let P = λ (c : Colours). (c.color_raw < 2 ^ 16) × Under (2 ^ 32) c.color_rgb × Under (2 ^ 32) c.color_alpha in
      each_got P e
      (each_on P xs _ _ _ λ a q₁ e₁. each_on P xs _ _ _ λ b q₂ e₂. each_on P xs _ _ _ λ c q₃ e₃. each_on P xs _ _ _ λ d q₄ e₄. each_on P xs _ _ _ λ f q₅ e₅.
      each_give P _ xs _ (
        BS_small xs p e₁,
        marked_small xs q₁ (has_rgb row a) (2 ^ 32) BL BL_below e₂,
        marked_small xs q₂ (has_alpha row a) (2 ^ 32) BL BL_below e₃,
      ))

  pub colours_present : {c : Colours} → got c q ≡ (colours row).read xs p → PresentByColour row c
  unfolding colours
  colours_present e =
      each_got (PresentByColour row) e
      (each_on (PresentByColour row) xs _ _ _ λ a q₁ e₁. each_on (PresentByColour row) xs _ _ _ λ b q₂ e₂. each_on (PresentByColour row) xs _ _ _ λ c q₃ e₃.
      each_on (PresentByColour row) xs _ _ _ λ d q₄ e₄. each_on (PresentByColour row) xs _ _ _ λ f q₅ e₅.
      each_give (PresentByColour row) _ xs _ (record { rgb = marked_is xs q₁ (has_rgb row a) BL e₂; alpha = marked_is xs q₂ (has_alpha row a) BL e₃ }))

  pub styles_small : {t : Styles} → got t q ≡ (styles row).read xs p
      → (t.ltype_flags < 2 ^ 8) × (t.plotstyle_flag < 2 ^ 8) × (t.material_flag < 2 ^ 8) × (t.shadow_flags < 2 ^ 8)
  unfolding styles BB RC
  styles_small e =
      let P = λ (t : Styles). (t.ltype_flags < 2 ^ 8) × (t.plotstyle_flag < 2 ^ 8) × (t.material_flag < 2 ^ 8) × (t.shadow_flags < 2 ^ 8) in
      let two = row.ltype_and_plotstyle in
      let more = row.material_and_shadow in
      each_got P e
      (each_on P xs _ _ _ λ a q₁ e₁. each_on P xs _ _ _ λ b q₂ e₂. each_on P xs _ _ _ λ c q₃ e₃.
      each_on P xs _ _ _ λ d q₄ e₄. each_on P xs _ _ _ λ f q₅ e₅. each_give P _ xs _ (
        bits_small xs q₁ two 2 0 (omega arith) (omega arith) e₂,
        bits_small xs q₂ two 2 0 (omega arith) (omega arith) e₃,
        bits_small xs q₃ more 2 0 (omega arith) (omega arith) e₄,
        low_small xs q₄ more 1 e₅,
      ))

  pub tail_small : {e : Tail} → got e q ≡ (tail row).read xs p → ((v : ℕ) × (v < 2 ^ 16) × (e.invisibility ≡ signed 16 v)) × (e.lineweight < 2 ^ 8)
  unfolding tail RC signed_BS
  tail_small e =
      let P = λ (l : Tail). ((v : ℕ) × (v < 2 ^ 16) × (l.invisibility ≡ signed 16 v)) × (l.lineweight < 2 ^ 8) in
      let S = λ (z : ℤ). (v : ℕ) × (v < 2 ^ 16) × (z ≡ signed 16 v) in
      each_got P e
      (each_on P xs _ _ _ λ a q₁ e₁. each_on P xs _ _ _ λ b q₂ e₂. each_on P xs _ _ _ λ c q₃ e₃. each_on P xs _ _ _ λ d q₄ e₄. each_on P xs _ _ _ λ f q₅ e₅.
      each_give P _ xs _ (each_got S e₄ (each_mapped S (signed 16) BS xs q₃ λ v q₆ e₆. (v, BS_small xs q₃ e₆, refl)), low_small xs q₄ row.lineweight 1 e₅))
