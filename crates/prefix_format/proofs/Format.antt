-- The prefix as a certified format: what `prefix_by` reads has exactly the layouts of specs/Layouts. Assumes nothing.
use Rattle.std.specs.Prelude.{◌≡◌, Bool, not, List, [], ◌∷◌, ℕ}
use Rattle.std.proofs.Math.Path.{refl}
use Rattle.std.proofs.Common.{sym}
use Rattle.std.proofs.Math.Bool.{true, false, not-not}
use Rattle.bitcursor.specs.Code.{Laid}
use Rattle.bitcursor.specs.Codes.{B, RC, RL, BB, BL}
use Rattle.bitcursor.specs.Format.{Format, relay}
use Rattle.bitcursor.specs.Inputs.{one}
use Rattle.bitcursor.specs.Fields.{coded}
use Rattle.text.specs.declared.version.Version.{Version}
use Rattle.prefix_format.specs.declared.CommonEntityData.{CommonEntityData}
use Rattle.prefix_format.specs.declared.table.Row.{Row}
use Rattle.prefix_format.specs.Rows.{row_of}
use Rattle.prefix_format.specs.Modes.{mode_of}
use Rattle.prefix_format.specs.Values.{has_rgb, has_alpha, has_name, has_book_name}
use Rattle.prefix_format.specs.Layouts.{ModesLaid, ColourLaid, VisualLaid, StylesLaid, FieldsLaid}
use Rattle.prefix_format.specs.Prefix.{prefix_by, fields_of}
use Rattle.bitcursor.specs.Joins.{apart, joined, no_bits, of_no_bits}
use Rattle.prefix_format.specs.FieldLaws.{held_to, held_from, marked_to, marked_from}
use Rattle.prefix_format.specs.FieldLaws.{name_to, name_from, graphics_to, graphics_from, xdata_to, xdata_from}

module _ (row : Row) (xs : List ℕ) (d : CommonEntityData ℕ) (p q : ℕ) where
  pub prefix_to : Laid (prefix_by row).codes xs d p q → FieldsLaid xs row d p q
  unfolding prefix_by
  prefix_to l =
      apart _ _ l λ xdata p₁ l₁ m₁.
      apart _ _ m₁ λ had_graphics p₂ l₂ m₂.
      apart _ _ m₂ λ end p₃ l₃ m₃.
      apart _ _ m₃ λ mode p₄ l₄ m₄.
      apart _ _ m₄ λ reactors p₅ l₅ m₅.
      apart _ _ m₅ λ no_dictionary p₆ l₆ m₆.
      apart _ _ m₆ λ binary p₇ l₇ m₇.
      apart _ _ m₇ λ by_layer p₈ l₈ m₈.
      apart _ _ m₈ λ links p₉ l₉ m₉.
      apart _ _ m₉ λ colour p₁₀ l₁₀ m₁₀.
      apart _ _ m₁₀ λ rgb p₁₁ l₁₁ m₁₁.
      apart _ _ m₁₁ λ alpha p₁₂ l₁₂ m₁₂.
      apart _ _ m₁₂ λ named p₁₃ l₁₃ m₁₃.
      apart _ _ m₁₃ λ book p₁₄ l₁₄ m₁₄.
      apart _ _ m₁₄ λ scale p₁₅ l₁₅ m₁₅.
      apart _ _ m₁₅ λ linetype p₁₆ l₁₆ m₁₆.
      apart _ _ m₁₆ λ plot p₁₇ l₁₇ m₁₇.
      apart _ _ m₁₇ λ material p₁₈ l₁₈ m₁₈.
      apart _ _ m₁₈ λ shadow p₁₉ l₁₉ m₁₉.
      apart _ _ m₁₉ λ full p₂₀ l₂₀ m₂₀.
      apart _ _ m₂₀ λ face p₂₁ l₂₁ m₂₁.
      apart _ _ m₂₁ λ edge p₂₂ l₂₂ m₂₂.
      apart _ _ m₂₂ λ invisible p₂₃ l₂₃ m₂₃.
      apart _ _ m₂₃ λ weight p₂₄ l₂₄ m₂₄.
      let e = no_bits _ m₂₄ in
      let f = fields_of xdata had_graphics end mode reactors no_dictionary binary by_layer links colour rgb alpha scale linetype plot material shadow
      full face edge invisible weight in
      let n₆ = held_to row.no_xdictionary B true l₆ in
      let n₇ = held_to row.binary_chain B false l₇ in
      let n₈ = rw (← not-not by_layer) at (held_to row.by_layer_ltype B true l₈) in
      let n₉ = held_to row.nolinks B true l₉ in
      let modes : ModesLaid xs row f p₃ p₉ = (p₄, l₄, (p₅, l₅, (p₆, n₆, (p₇, n₇, (p₈, n₈, n₉))))) in
      let n₁₁ = marked_to (has_rgb row colour) BL l₁₁ in
      let n₁₂ = marked_to (has_alpha row colour) BL l₁₂ in
      let n₁₃ = name_to (has_name row colour) row.wide_names l₁₃ in
      let n₁₄ = name_to (has_book_name row colour) row.wide_names l₁₄ in
      let colours : ColourLaid xs row f p₉ p₁₄ = (p₁₀, l₁₀, (p₁₁, n₁₁, (p₁₂, n₁₂, (p₁₃, n₁₃, n₁₄)))) in
      let n₂₀ = held_to row.visual_styles B false l₂₀ in
      let n₂₁ = held_to row.visual_styles B false l₂₁ in
      let n₂₂ = held_to row.visual_styles B false l₂₂ in
      let visual : VisualLaid xs row f p₁₉ p₂₂ = (full, face, edge, refl, (p₂₀, n₂₀, (p₂₁, n₂₁, n₂₂))) in
      let n₁₆ = held_to row.ltype_and_plotstyle BB 0 l₁₆ in
      let n₁₇ = held_to row.ltype_and_plotstyle BB 0 l₁₇ in
      let n₁₈ = held_to row.material_and_shadow BB 0 l₁₈ in
      let n₁₉ = held_to row.material_and_shadow RC 0 l₁₉ in
      let n₂₄ = held_to row.lineweight RC 0 l₂₄ in
      let styles : StylesLaid xs row f p₁₄ p₂₄ =
      (p₁₅, l₁₅, (p₁₆, n₁₆, (p₁₇, n₁₇, (p₁₈, n₁₈, (p₁₉, n₁₉, (p₂₂, visual, (p₂₃, l₂₃, n₂₄))))))) in
      let n₂ = graphics_to row.graphics_bll l₂ in
      let n₃ = marked_to row.data_end RL l₃ in
      rw (e.0, e.1)
      (record { mode = refl; on_layer = refl; fields = (p₁, xdata_to xs l₁, (p₂, n₂, (p₃, n₃, (p₉, modes, (p₁₄, colours, styles))))) })

  -- a record of which this holds is that of its fields
  same : (full face edge : Bool) → d.mode ≡ mode_of d.raw_mode → d.is_on_layer ≡ true → d.visual_style_flags ≡ full ∷ (face ∷ (edge ∷ []))
      → d ≡ fields_of d.had_extended_data d.had_graphics d.data_end_bits d.raw_mode d.num_reactors d.no_xdictionary d.binary_chain
      (not d.non_fixed_ltype) d.nolinks d.color_raw d.color_rgb d.color_alpha d.ltype_scale d.ltype_flags d.plotstyle_flag d.material_flag
      d.shadow_flags full face edge d.invisibility d.lineweight
  same full face edge mode on_layer visual =
      λ i.
      record {
        raw_mode = d.raw_mode;
        mode = mode i;
        num_reactors = d.num_reactors;
        no_xdictionary = d.no_xdictionary;
        binary_chain = d.binary_chain;
        is_on_layer = on_layer i;
        non_fixed_ltype = sym (not-not d.non_fixed_ltype) i;
        plotstyle_flag = d.plotstyle_flag;
        material_flag = d.material_flag;
        shadow_flags = d.shadow_flags;
        invisibility = d.invisibility;
        nolinks = d.nolinks;
        color_raw = d.color_raw;
        color_rgb = d.color_rgb;
        color_alpha = d.color_alpha;
        ltype_scale = d.ltype_scale;
        ltype_flags = d.ltype_flags;
        visual_style_flags = visual i;
        lineweight = d.lineweight;
        had_graphics = d.had_graphics;
        had_extended_data = d.had_extended_data;
        data_end_bits = d.data_end_bits;
      }

  pub prefix_from : FieldsLaid xs row d p q → Laid (prefix_by row).codes xs d p q
  unfolding prefix_by
  prefix_from l =
      let h = l.fields in
      let end = h.2.2 in
      let modes = end.2.1 in
      let flags = modes.2.2 in
      let colour = end.2.2.1 in
      let colours = colour.2 in
      let scale = end.2.2.2 in
      let styles = scale.2 in
      let shadow = styles.2.2 in
      let visual = shadow.2.2.1 in
      let bits = visual.4 in
      let last = shadow.2.2.2 in
      let v = row.visual_styles in
      let k = d.color_raw in
      let e = same visual.0 visual.1 visual.2 l.mode l.on_layer visual.3 in
      joined _ _ d.had_extended_data (xdata_from xs h.1)
      (joined _ _ d.had_graphics (graphics_from row.graphics_bll d.had_graphics h.2.1)
      (joined _ _ d.data_end_bits (marked_from row.data_end RL end.1)
      (joined _ _ d.raw_mode modes.1
      (joined _ _ d.num_reactors modes.2.1
      (joined _ _ d.no_xdictionary (held_from row.no_xdictionary B true flags.1)
      (joined _ _ d.binary_chain (held_from row.binary_chain B false flags.2.1)
      (joined _ _ (not d.non_fixed_ltype) (held_from row.by_layer_ltype B true flags.2.2.1)
      (joined _ _ d.nolinks (held_from row.nolinks B true flags.2.2.2)
      (joined _ _ k colour.1
      (joined _ _ d.color_rgb (marked_from (has_rgb row k) BL colours.1)
      (joined _ _ d.color_alpha (marked_from (has_alpha row k) BL colours.2.1)
      (joined _ _ tt (name_from (has_name row k) row.wide_names colours.2.2.1)
      (joined _ _ tt (name_from (has_book_name row k) row.wide_names colours.2.2.2)
      (joined _ _ d.ltype_scale scale.1
      (joined _ _ d.ltype_flags (held_from row.ltype_and_plotstyle BB 0 styles.1)
      (joined _ _ d.plotstyle_flag (held_from row.ltype_and_plotstyle BB 0 styles.2.1)
      (joined _ _ d.material_flag (held_from row.material_and_shadow BB 0 shadow.1)
      (joined _ _ d.shadow_flags (held_from row.material_and_shadow RC 0 shadow.2.1)
      (joined _ _ visual.0 (held_from v B false bits.1)
      (joined _ _ visual.1 (held_from v B false bits.2.1)
      (joined _ _ visual.2 (held_from v B false bits.2.2)
      (joined _ _ d.invisibility last.1
      (joined _ _ d.lineweight (held_from row.lineweight RC 0 last.2) (of_no_bits _ e refl))))))))))))))))))))))))

-- the prefix of a release
unfoldable pub prefix : Version → Format one (CommonEntityData ℕ)
prefix v = relay (coded (prefix_by (row_of v))) (λ xs. FieldsLaid xs (row_of v)) (prefix_to (row_of v)) (prefix_from (row_of v))
