-- The numbers of each part are in their fields' ranges after any answer before it, a refused one too, and where the part itself was refused halfway: a
-- number that was not read is 0, so one law over the width of a step's code serves all. Of a part that was read they are its own. Assumes nothing.
use Rattle.std.specs.Prelude.{◌≡◌, refl, Bool, true, false, List, [], ◌∷◌, ℕ, ◌*◌, ◌^◌, ◌<◌, ◌≤◌, Option, None}
use Rattle.std.proofs.Common.{sym, ◌∙◌, lt_of_lt_of_le, arith, pow_pos, pow_mono}
use Rattle.bitcursor.specs.Reading.{Out, got, refused, never}
use Rattle.bitcursor.specs.Code.{Code, raw, give, ◌>>=◌, mapped, tabled}
use Rattle.bitcursor.specs.Bytes.{low_first}
use Rattle.bitcursor.specs.Codes.{B, BB, RC, RL, BS, BL, signed, signed_BS}
use Rattle.bitcursor.specs.Doubles.{BD}
use Rattle.bitcursor.specs.Ranges.{Below, bytes_pow, raw_below, low_below, BS_below}
use Rattle.bitcursor.proofs.Longs.{BL_below}
use Rattle.bitcursor.specs.Held.{held, held_below, marked}
use Rattle.sequence.proofs.Steps.{then_read, value_of, resume, first, next, step_below}
use Rattle.prefix_format.specs.declared.table.Row.{Row}
use Rattle.prefix_format.specs.Values.{has_rgb, has_alpha, has_name, has_book_name}
use Rattle.prefix_format.specs.Prefix.{extended, graphics, name}
use Rattle.prefix_parts.specs.declared.Head.{Head}
use Rattle.prefix_parts.specs.declared.Modes.{Modes}
use Rattle.prefix_parts.specs.declared.Colours.{Colours}
use Rattle.prefix_parts.specs.declared.Styles.{Styles}
use Rattle.prefix_parts.specs.declared.Tail.{Tail}
use Rattle.prefix_parts.specs.Parts.{head, modes, colours, styles, tail}
use Rattle.common_entity.proofs.Numbers.{Under, InRange, marked_small}
use Rattle.common_entity.proofs.Whole.{of_next}

-- a step of a mapped code has the mapped value of the code's own step, of `absent` where nothing was read
mapped_of : {A B C : Type 0} (xs : List ℕ) (f : B → C) (c : Code B) (absent : B) (x : Out ℕ A)
    → value_of (f absent) (then_read ((mapped f c).read xs) x) ≡ f (value_of absent (then_read (c.read xs) x))
unfolding mapped tabled ◌>>=◌ give
mapped_of {B = B} {C} xs f c absent (got u p) = go (c.read xs p)
  where
    go : (o : Out ℕ B) → value_of (f absent) (resume xs (λ b. give (f b)) o) ≡ f (value_of absent o)
    go (got b q) = refl
    go (refused r q) = refl
mapped_of xs f c absent (refused r p) = refl

-- ---- the range of a field that a release may lack
module _ {A : Type 0} (xs : List ℕ) (x : Out ℕ A) where
  pub bits_small : (b : Bool) (n absent : ℕ) → n ≤ 8 → absent < 2 ^ n → value_of 0 (then_read ((held b (raw n) absent).read xs) x) < 2 ^ 8
  bits_small b n absent h k =
      let below = held_below (2 ^ n) b (raw n) absent k (raw_below n) in
      lt_of_lt_of_le (step_below (2 ^ n) (held b (raw n) absent) (pow_pos n) below xs x refl) (pow_mono {j = 8} h)

  pub low_small : (b : Bool) (n : ℕ) → value_of 0 (then_read ((held b (low_first n) 0).read xs) x) < 256 ^ n
  low_small b n =
      let some : 0 < 256 ^ n = rw (bytes_pow n) (pow_pos (8 * n)) in
      step_below (256 ^ n) (held b (low_first n) 0) some (held_below (256 ^ n) b (low_first n) 0 some (low_below n)) xs x refl

  pub BL_small : (b : Bool) → value_of 0 (then_read ((held b BL 0).read xs) x) < 2 ^ 32
  BL_small b = step_below (2 ^ 32) (held b BL 0) (omega arith) (held_below (2 ^ 32) b BL 0 (omega arith) BL_below) xs x refl

  pub BS_small : value_of 0 (then_read (BS.read xs) x) < 2 ^ 16
  BS_small = step_below (2 ^ 16) BS (omega arith) BS_below xs x refl

  -- the same of a number that may be absent
  marked_under : (b : Bool) (n : ℕ) (c : Code ℕ) → Below n c → Under n (value_of None (then_read ((marked b c).read xs) x))
  marked_under b n c below = of_next (Under n) None ((marked b c).read xs) x tt (λ p m q e. marked_small xs p b n c below e)

-- ---- a part as far as it was read, its fields one behind the other
module _ (row : Row) (xs : List ℕ) where
  unfoldable pub head_of : ℕ → Head
  head_of p =
      let x₁ = extended.read xs p in
      let x₂ = then_read ((graphics row.graphics_bll).read xs) x₁ in
      let x₃ = then_read ((marked row.data_end RL).read xs) x₂ in
      record { had_extended_data = value_of false x₁; had_graphics = value_of false x₂; data_end_bits = value_of None x₃ }

  unfoldable pub modes_of : {A : Type 0} → Out ℕ A → Modes
  modes_of x =
      let x₁ = then_read (BB.read xs) x in
      let x₂ = then_read (BL.read xs) x₁ in
      let x₃ = then_read ((held row.no_xdictionary B true).read xs) x₂ in
      let x₄ = then_read ((held row.binary_chain B false).read xs) x₃ in
      let x₅ = then_read ((held row.by_layer_ltype B true).read xs) x₄ in
      let x₆ = then_read ((held row.nolinks B true).read xs) x₅ in
      record {
        raw_mode = value_of 0 x₁;
        num_reactors = value_of 0 x₂;
        no_xdictionary = value_of false x₃;
        binary_chain = value_of false x₄;
        by_layer_ltype = value_of false x₅;
        nolinks = value_of false x₆;
      }

  unfoldable pub colours_of : {A : Type 0} → Out ℕ A → Colours
  colours_of x =
      let x₁ = then_read (BS.read xs) x in
      let c = value_of 0 x₁ in
      let x₂ = then_read ((marked (has_rgb row c) BL).read xs) x₁ in
      let x₃ = then_read ((marked (has_alpha row c) BL).read xs) x₂ in
      record { color_raw = c; color_rgb = value_of None x₂; color_alpha = value_of None x₃ }

  unfoldable pub styles_of : {A : Type 0} → Out ℕ A → Styles
  styles_of x =
      let x₁ = then_read (BD.read xs) x in
      let x₂ = then_read ((held row.ltype_and_plotstyle BB 0).read xs) x₁ in
      let x₃ = then_read ((held row.ltype_and_plotstyle BB 0).read xs) x₂ in
      let x₄ = then_read ((held row.material_and_shadow BB 0).read xs) x₃ in
      let x₅ = then_read ((held row.material_and_shadow RC 0).read xs) x₄ in
      record {
        ltype_scale = value_of 0 x₁;
        ltype_flags = value_of 0 x₂;
        plotstyle_flag = value_of 0 x₃;
        material_flag = value_of 0 x₄;
        shadow_flags = value_of 0 x₅;
      }

  unfoldable pub tail_of : {A : Type 0} → Out ℕ A → Tail
  tail_of x =
      let x₁ = then_read ((held row.visual_styles B false).read xs) x in
      let x₂ = then_read ((held row.visual_styles B false).read xs) x₁ in
      let x₃ = then_read ((held row.visual_styles B false).read xs) x₂ in
      let x₄ = then_read (signed_BS.read xs) x₃ in
      let x₅ = then_read ((held row.lineweight RC 0).read xs) x₄ in
      record {
        visual_style_flags = value_of false x₁ ∷ (value_of false x₂ ∷ (value_of false x₃ ∷ []));
        invisibility = value_of (signed 16 0) x₄;
        lineweight = value_of 0 x₅;
      }

  -- ---- its numbers are in their fields' ranges
  pub head_small : (p : ℕ) → Under (2 ^ 32) (head_of p).data_end_bits
  unfolding head_of RL
  head_small p = marked_under xs (then_read ((graphics row.graphics_bll).read xs) (extended.read xs p)) row.data_end (2 ^ 32) (low_first 4) (low_below 4)

  module _ {A : Type 0} (x : Out ℕ A) where
    pub modes_small : ((modes_of x).raw_mode < 2 ^ 8) × ((modes_of x).num_reactors < 2 ^ 32)
    unfolding modes_of BB held
    modes_small = (bits_small xs x true 2 0 (omega arith) (omega arith), BL_small xs (then_read (BB.read xs) x) true)

    pub colours_small : ((colours_of x).color_raw < 2 ^ 16) × Under (2 ^ 32) (colours_of x).color_rgb × Under (2 ^ 32) (colours_of x).color_alpha
    unfolding colours_of
    colours_small =
        let x₁ = then_read (BS.read xs) x in
        let k = value_of 0 x₁ in
        let x₂ = then_read ((marked (has_rgb row k) BL).read xs) x₁ in
        (BS_small xs x, marked_under xs x₁ (has_rgb row k) (2 ^ 32) BL BL_below, marked_under xs x₂ (has_alpha row k) (2 ^ 32) BL BL_below)

    pub styles_small : ((styles_of x).ltype_flags < 2 ^ 8) × ((styles_of x).plotstyle_flag < 2 ^ 8) × ((styles_of x).material_flag < 2 ^ 8)
        × ((styles_of x).shadow_flags < 2 ^ 8)
    unfolding styles_of BB RC
    styles_small =
        let two = row.ltype_and_plotstyle in
        let more = row.material_and_shadow in
        let x₁ = then_read (BD.read xs) x in
        let x₂ = then_read ((held two BB 0).read xs) x₁ in
        let x₃ = then_read ((held two BB 0).read xs) x₂ in
        let x₄ = then_read ((held more BB 0).read xs) x₃ in (
          bits_small xs x₁ two 2 0 (omega arith) (omega arith),
          bits_small xs x₂ two 2 0 (omega arith) (omega arith),
          bits_small xs x₃ more 2 0 (omega arith) (omega arith),
          low_small xs x₄ more 1,
        )

    pub tail_small : ((v : ℕ) × (v < 2 ^ 16) × ((tail_of x).invisibility ≡ signed 16 v)) × ((tail_of x).lineweight < 2 ^ 8)
    unfolding tail_of RC signed_BS
    tail_small =
        let x₁ = then_read ((held row.visual_styles B false).read xs) x in
        let x₂ = then_read ((held row.visual_styles B false).read xs) x₁ in
        let x₃ = then_read ((held row.visual_styles B false).read xs) x₂ in
        let x₄ = then_read (signed_BS.read xs) x₃ in (
          (value_of 0 (then_read (BS.read xs) x₃), BS_small xs x₃, mapped_of xs (signed 16) BS 0 x₃),
          low_small xs x₄ row.lineweight 1,
        )

  -- all five, whatever answer each stands behind
  pub in_range : (p : ℕ) {X Y Z W : Type 0} (x : Out ℕ X) (y : Out ℕ Y) (z : Out ℕ Z) (w : Out ℕ W)
      → InRange (head_of p) (modes_of x) (colours_of y) (styles_of z) (tail_of w)
  in_range p x y z w =
      let a = modes_small x in
      let b = colours_small y in
      let d = styles_small z in
      let f = tail_small w in
      record {
        end = head_small p;
        mode = a.0;
        reactors = a.1;
        colour = b.0;
        rgb = b.1;
        alpha = b.2;
        linetype = d.0;
        plot = d.1;
        material = d.2;
        shadow = d.3;
        invisible = f.0;
        weight = f.1;
      }

  -- ---- and of a part that was read it is that part
  given_of : {A B : Type 0} (f : A → B) (absent : A) (o : Out ℕ A) {b : B} {q : ℕ} → resume xs (λ v. give (f v)) o ≡ got b q → f (value_of absent o) ≡ b
  unfolding give
  given_of f absent (got v p) e = cc
  given_of f absent (refused r p) e = never e

  pub head_is : (p : ℕ) {h : Head} {q : ℕ} → (head row).read xs p ≡ got h q → head_of p ≡ h
  unfolding head head_of
  head_is p e =
      let x₁ = extended.read xs p in
      let x₂ = then_read ((graphics row.graphics_bll).read xs) x₁ in
      let x₃ = then_read ((marked row.data_end RL).read xs) x₂ in
      let made : Option ℕ → Head = λ c. record { had_extended_data = value_of false x₁; had_graphics = value_of false x₂; data_end_bits = c } in
      let reads : (head row).read xs p ≡ resume xs (λ c. give (made c)) x₃ =
      first xs extended _ p refl ∙ next xs (λ a. graphics row.graphics_bll) _ false x₁ refl ∙ next xs (λ b. marked row.data_end RL) _ false x₂ refl in
      given_of made None x₃ (sym reads ∙ e)

  module _ {A : Type 0} where
    pub modes_is : (x : Out ℕ A) {m : Modes} {q : ℕ} → then_read ((modes row).read xs) x ≡ got m q → modes_of x ≡ m
    unfolding modes modes_of
    modes_is (refused r p) e = never e
    modes_is (got u p) e =
        let x₁ = BB.read xs p in
        let x₂ = then_read (BL.read xs) x₁ in
        let x₃ = then_read ((held row.no_xdictionary B true).read xs) x₂ in
        let x₄ = then_read ((held row.binary_chain B false).read xs) x₃ in
        let x₅ = then_read ((held row.by_layer_ltype B true).read xs) x₄ in
        let x₆ = then_read ((held row.nolinks B true).read xs) x₅ in
        let made : Bool → Modes = λ g.
        record {
          raw_mode = value_of 0 x₁;
          num_reactors = value_of 0 x₂;
          no_xdictionary = value_of false x₃;
          binary_chain = value_of false x₄;
          by_layer_ltype = value_of false x₅;
          nolinks = g;
        } in
        let reads : (modes row).read xs p ≡ resume xs (λ g. give (made g)) x₆ =
        first xs BB _ p refl ∙ next xs (λ a. BL) _ 0 x₁ refl ∙ next xs (λ b. held row.no_xdictionary B true) _ 0 x₂ refl
        ∙ next xs (λ c. held row.binary_chain B false) _ false x₃ refl ∙ next xs (λ d. held row.by_layer_ltype B true) _ false x₄ refl
        ∙ next xs (λ f. held row.nolinks B true) _ false x₅ refl in
        given_of made false x₆ (sym reads ∙ e)

    pub colours_is : (x : Out ℕ A) {c : Colours} {q : ℕ} → then_read ((colours row).read xs) x ≡ got c q → colours_of x ≡ c
    unfolding colours colours_of
    colours_is (refused r p) e = never e
    colours_is (got u p) e =
        let x₁ = BS.read xs p in
        let k = value_of 0 x₁ in
        let x₂ = then_read ((marked (has_rgb row k) BL).read xs) x₁ in
        let x₃ = then_read ((marked (has_alpha row k) BL).read xs) x₂ in
        let x₄ = then_read ((held (has_name row k) (name row.wide_names) tt).read xs) x₃ in
        let x₅ = then_read ((held (has_book_name row k) (name row.wide_names) tt).read xs) x₄ in
        let made : Unit {0} → Colours = λ f. record { color_raw = k; color_rgb = value_of None x₂; color_alpha = value_of None x₃ } in
        let reads : (colours row).read xs p ≡ resume xs (λ f. give (made f)) x₅ =
        first xs BS _ p refl ∙ next xs (λ a. marked (has_rgb row a) BL) _ 0 x₁ refl ∙ next xs (λ b. marked (has_alpha row k) BL) _ None x₂ refl
        ∙ next xs (λ c. held (has_name row k) (name row.wide_names) tt) _ None x₃ refl
        ∙ next xs (λ d. held (has_book_name row k) (name row.wide_names) tt) _ tt x₄ refl in
        given_of made tt x₅ (sym reads ∙ e)

    pub styles_is : (x : Out ℕ A) {t : Styles} {q : ℕ} → then_read ((styles row).read xs) x ≡ got t q → styles_of x ≡ t
    unfolding styles styles_of
    styles_is (refused r p) e = never e
    styles_is (got u p) e =
        let two = row.ltype_and_plotstyle in
        let more = row.material_and_shadow in
        let x₁ = BD.read xs p in
        let x₂ = then_read ((held two BB 0).read xs) x₁ in
        let x₃ = then_read ((held two BB 0).read xs) x₂ in
        let x₄ = then_read ((held more BB 0).read xs) x₃ in
        let x₅ = then_read ((held more RC 0).read xs) x₄ in
        let made : ℕ → Styles = λ f.
        record {
          ltype_scale = value_of 0 x₁;
          ltype_flags = value_of 0 x₂;
          plotstyle_flag = value_of 0 x₃;
          material_flag = value_of 0 x₄;
          shadow_flags = f;
        } in
        let reads : (styles row).read xs p ≡ resume xs (λ f. give (made f)) x₅ =
        first xs BD _ p refl ∙ next xs (λ a. held two BB 0) _ 0 x₁ refl ∙ next xs (λ b. held two BB 0) _ 0 x₂ refl
        ∙ next xs (λ c. held more BB 0) _ 0 x₃ refl ∙ next xs (λ d. held more RC 0) _ 0 x₄ refl in
        given_of made 0 x₅ (sym reads ∙ e)

    pub tail_is : (x : Out ℕ A) {t : Tail} {q : ℕ} → then_read ((tail row).read xs) x ≡ got t q → tail_of x ≡ t
    unfolding tail tail_of
    tail_is (refused r p) e = never e
    tail_is (got u p) e =
        let seen = held row.visual_styles B false in
        let x₁ = seen.read xs p in
        let x₂ = then_read (seen.read xs) x₁ in
        let x₃ = then_read (seen.read xs) x₂ in
        let x₄ = then_read (signed_BS.read xs) x₃ in
        let x₅ = then_read ((held row.lineweight RC 0).read xs) x₄ in
        let made : ℕ → Tail = λ f.
        record {
          visual_style_flags = value_of false x₁ ∷ (value_of false x₂ ∷ (value_of false x₃ ∷ []));
          invisibility = value_of (signed 16 0) x₄;
          lineweight = f;
        } in
        let reads : (tail row).read xs p ≡ resume xs (λ f. give (made f)) x₅ =
        first xs seen _ p refl ∙ next xs (λ a. seen) _ false x₁ refl ∙ next xs (λ b. seen) _ false x₂ refl ∙ next xs (λ c. signed_BS) _ false x₃ refl
        ∙ next xs (λ d. held row.lineweight RC 0) _ (signed 16 0) x₄ refl in
        given_of made 0 x₅ (sym reads ∙ e)
