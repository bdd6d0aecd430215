-- The prefix in five parts, each of the fields that prefix_format's definition has there. Assumes nothing.
use Rattle.std.specs.Prelude.{true, false, [], ◌∷◌, ℕ, not}
use Rattle.bitcursor.specs.Code.{Code, give, ◌>>=◌}
use Rattle.bitcursor.specs.Codes.{B, BB, RC, RL, BS, signed_BS, BL}
use Rattle.bitcursor.specs.Doubles.{BD}
use Rattle.bitcursor.specs.Held.{held, marked}
use Rattle.prefix_format.specs.declared.table.Row.{Row}
use Rattle.prefix_format.specs.declared.CommonEntityData.{CommonEntityData}
use Rattle.prefix_format.specs.Modes.{mode_of}
use Rattle.prefix_format.specs.Values.{has_rgb, has_alpha, has_name, has_book_name}
use Rattle.prefix_format.specs.Prefix.{extended, graphics, name}
use Rattle.prefix_parts.specs.declared.PresentFields.{PresentFields}
use Rattle.prefix_parts.specs.declared.Head.{Head}
use Rattle.prefix_parts.specs.declared.Modes.{Modes}
use Rattle.prefix_parts.specs.declared.Colours.{Colours}
use Rattle.prefix_parts.specs.declared.Styles.{Styles}
use Rattle.prefix_parts.specs.declared.Tail.{Tail}

abbrev pub present_fields : Row → ℕ → PresentFields
present_fields row c = record { rgb = has_rgb row c; alpha = has_alpha row c; name = has_name row c; book_name = has_book_name row c }

unfoldable pub head : Row → Code Head
head row = do
  xdata ← extended
  had_graphics ← graphics row.graphics_bll
  end ← marked row.data_end RL
  give (record { had_extended_data = xdata; had_graphics = had_graphics; data_end_bits = end })

unfoldable pub modes : Row → Code Modes
modes row = do
  mode ← BB
  reactors ← BL
  no_dictionary ← held row.no_xdictionary B true
  binary ← held row.binary_chain B false
  by_layer ← held row.by_layer_ltype B true
  links ← held row.nolinks B true
  give (record {
    raw_mode = mode;
    num_reactors = reactors;
    no_xdictionary = no_dictionary;
    binary_chain = binary;
    by_layer_ltype = by_layer;
    nolinks = links;
  })

unfoldable pub colours : Row → Code Colours
colours row = do
  colour ← BS
  rgb ← marked (has_rgb row colour) BL
  alpha ← marked (has_alpha row colour) BL
  named ← held (has_name row colour) (name row.wide_names) tt
  book ← held (has_book_name row colour) (name row.wide_names) tt
  give (record { color_raw = colour; color_rgb = rgb; color_alpha = alpha })

unfoldable pub styles : Row → Code Styles
styles row = do
  scale ← BD
  linetype ← held row.ltype_and_plotstyle BB 0
  plot ← held row.ltype_and_plotstyle BB 0
  material ← held row.material_and_shadow BB 0
  shadow ← held row.material_and_shadow RC 0
  give (record { ltype_scale = scale; ltype_flags = linetype; plotstyle_flag = plot; material_flag = material; shadow_flags = shadow })

unfoldable pub tail : Row → Code Tail
tail row = do
  full ← held row.visual_styles B false
  face ← held row.visual_styles B false
  edge ← held row.visual_styles B false
  invisible ← signed_BS
  weight ← held row.lineweight RC 0
  give (record { visual_style_flags = full ∷ (face ∷ (edge ∷ [])); invisibility = invisible; lineweight = weight })

-- the record of the parts
abbrev pub record_of : Head → Modes → Colours → Styles → Tail → CommonEntityData ℕ
record_of h m c t e =
    record {
      raw_mode = m.raw_mode;
      mode = mode_of m.raw_mode;
      num_reactors = m.num_reactors;
      no_xdictionary = m.no_xdictionary;
      binary_chain = m.binary_chain;
      is_on_layer = true;
      non_fixed_ltype = not m.by_layer_ltype;
      plotstyle_flag = t.plotstyle_flag;
      material_flag = t.material_flag;
      shadow_flags = t.shadow_flags;
      invisibility = e.invisibility;
      nolinks = m.nolinks;
      color_raw = c.color_raw;
      color_rgb = c.color_rgb;
      color_alpha = c.color_alpha;
      ltype_scale = t.ltype_scale;
      ltype_flags = t.ltype_flags;
      visual_style_flags = e.visual_style_flags;
      lineweight = e.lineweight;
      had_graphics = h.had_graphics;
      had_extended_data = h.had_extended_data;
      data_end_bits = h.data_end_bits;
    }

-- the five in a row
unfoldable pub in_parts : Row → Code (CommonEntityData ℕ)
in_parts row = do
  h ← head row
  m ← modes row
  c ← colours row
  t ← styles row
  e ← tail row
  give (record_of h m c t e)
