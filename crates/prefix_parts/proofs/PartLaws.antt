-- What follows a part in the definition is read behind it, whatever follows; and a plain colour behind any answer. Assumes nothing.
use Rattle.std.specs.Prelude.{◌≡◌, refl, Bool, true, false, List, [], ◌∷◌, ℕ, ℤ, ◌<◌, Option, None}
use Rattle.bitcursor.specs.Reading.{Out, got, refused, and_then, chained}
use Rattle.bitcursor.specs.Code.{Code, give, ◌>>=◌}
use Rattle.bitcursor.specs.Codes.{B, BB, RC, RL, BS, signed_BS, BL}
use Rattle.bitcursor.specs.Doubles.{BD}
use Rattle.bitcursor.specs.Held.{held, marked}
use Rattle.sequence.proofs.Steps.{then_read, value_of, resume, first}
use Rattle.prefix_format.specs.declared.table.Row.{Row}
use Rattle.prefix_format.specs.Values.{has_rgb, has_alpha, has_name, has_book_name}
use Rattle.prefix_format.specs.Prefix.{extended, graphics, name}
use Rattle.prefix_parts.specs.declared.Head.{Head}
use Rattle.prefix_parts.specs.declared.Modes.{Modes}
use Rattle.prefix_parts.specs.declared.Colours.{Colours}
use Rattle.prefix_parts.specs.declared.Styles.{Styles}
use Rattle.prefix_parts.specs.declared.Tail.{Tail}
use Rattle.prefix_parts.specs.Parts.{head, modes, colours, styles, tail}
use Rattle.prefix_parts.specs.PlainColours.{plain_colours}
use Rattle.std.proofs.Common.{sym, ap}

-- K is what follows, of the part's fields and, behind another part, of an answer o before it
module _ (row : Row) (xs : List ℕ) {C : Type 0} where
  pub head_reads : (K : Bool → Bool → Option ℕ → Code C) (p : ℕ)
      → (extended >>= λ a. graphics row.graphics_bll >>= λ b. marked row.data_end RL >>= λ c. K a b c).read xs p
      ≡ resume xs (λ (h : Head). K h.had_extended_data h.had_graphics h.data_end_bits) ((head row).read xs p)
  unfolding head ◌>>=◌ give
  head_reads K p = simp chained

  module _ {A : Type 0} where
    pub modes_read : (K : A → ℕ → ℕ → Bool → Bool → Bool → Bool → Code C) (o : Out ℕ A)
        → resume xs (λ e. BB >>= λ a. BL >>= λ b. held row.no_xdictionary B true >>= λ c. held row.binary_chain B false >>= λ d.
        held row.by_layer_ltype B true >>= λ f. held row.nolinks B true >>= λ g. K e a b c d f g) o
        ≡ resume xs (λ e. modes row >>= λ (m : Modes). K e m.raw_mode m.num_reactors m.no_xdictionary m.binary_chain m.by_layer_ltype m.nolinks) o
    unfolding modes ◌>>=◌ give
    modes_read K (got e p) = simp chained
    modes_read K (refused r p) = refl

    pub colours_read : (K : A → ℕ → Option ℕ → Option ℕ → Unit {0} → Unit {0} → Code C) (o : Out ℕ A)
        → resume xs (λ e. BS >>= λ a. marked (has_rgb row a) BL >>= λ b. marked (has_alpha row a) BL >>= λ c.
        held (has_name row a) (name row.wide_names) tt >>= λ d. held (has_book_name row a) (name row.wide_names) tt >>= λ f. K e a b c d f) o
        ≡ resume xs (λ e. colours row >>= λ (c : Colours). K e c.color_raw c.color_rgb c.color_alpha tt tt) o
    unfolding colours ◌>>=◌ give
    colours_read K (got e p) = simp chained
    colours_read K (refused r p) = refl

    pub styles_read : (K : A → ℕ → ℕ → ℕ → ℕ → ℕ → Code C) (o : Out ℕ A)
        → resume xs (λ e. BD >>= λ a. held row.ltype_and_plotstyle BB 0 >>= λ b. held row.ltype_and_plotstyle BB 0 >>= λ c.
        held row.material_and_shadow BB 0 >>= λ d. held row.material_and_shadow RC 0 >>= λ f. K e a b c d f) o
        ≡ resume xs (λ e. styles row >>= λ (t : Styles). K e t.ltype_scale t.ltype_flags t.plotstyle_flag t.material_flag t.shadow_flags) o
    unfolding styles ◌>>=◌ give
    styles_read K (got e p) = simp chained
    styles_read K (refused r p) = refl

    pub tail_reads : (K : A → List Bool → ℤ → ℕ → Code C) (o : Out ℕ A)
        → resume xs (λ e. held row.visual_styles B false >>= λ a. held row.visual_styles B false >>= λ b. held row.visual_styles B false >>= λ c.
        signed_BS >>= λ d. held row.lineweight RC 0 >>= λ f. K e (a ∷ (b ∷ (c ∷ []))) d f) o
        ≡ resume xs (λ e. tail row >>= λ (l : Tail). K e l.visual_style_flags l.invisibility l.lineweight) o
    unfolding tail ◌>>=◌ give
    tail_reads K (got e p) = simp chained
    tail_reads K (refused r p) = refl

-- the part of a colour with none of the fields behind it
abbrev plain : ℕ → Colours
plain colour = record { color_raw = colour; color_rgb = None; color_alpha = None }

module _ (row : Row) (xs : List ℕ) where
  plain_read : (p : ℕ) (y : Out ℕ ℕ) → y ≡ BS.read xs p → value_of 0 y < 0x2000 → (colours row).read xs p ≡ and_then y (λ c q. got (plain c) q)
  unfolding colours
  plain_read p (got c q) e h = plain_colours row xs p e h
  plain_read p (refused r q) e h = first xs BS _ p e

  pub plain_behind : {A : Type 0} (o : Out ℕ A) {y : Out ℕ ℕ} → y ≡ then_read (BS.read xs) o → value_of 0 y < 0x2000
      → then_read ((colours row).read xs) o ≡ and_then y (λ c q. got (plain c) q)
  plain_behind (got a p) {y} e h = plain_read p y e h
  plain_behind (refused r p) e h = ap (λ y. and_then y (λ c q. got (plain c) q)) (sym e)
