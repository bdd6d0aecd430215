-- The zero record of a refused call, and the record with its linetype scale as what the caller has for it. Assumes nothing.
use Rattle.std.specs.Prelude.{false, [], ◌∷◌, ℕ, pos, None}
use Rattle.prefix_format.specs.declared.EntityMode.TheVariants.{ByLayer}
use Rattle.prefix_format.specs.declared.CommonEntityData.{CommonEntityData}

abbrev pub zero_bits : CommonEntityData ℕ
zero_bits =
    record {
      raw_mode = 0;
      mode = ByLayer;
      num_reactors = 0;
      no_xdictionary = false;
      binary_chain = false;
      is_on_layer = false;
      non_fixed_ltype = false;
      plotstyle_flag = 0;
      material_flag = 0;
      shadow_flags = 0;
      invisibility = pos 0;
      nolinks = false;
      color_raw = 0;
      color_rgb = None;
      color_alpha = None;
      ltype_scale = 0;
      ltype_flags = 0;
      visual_style_flags = false ∷ (false ∷ (false ∷ []));
      lineweight = 0;
      had_graphics = false;
      had_extended_data = false;
      data_end_bits = None;
    }

-- with the linetype scale of its 64 bits: the double that they are, the NaN where they are a NaN's pattern, or the bits themselves
abbrev pub data_of : {N : Type 0} → (ℕ → N) → CommonEntityData ℕ → CommonEntityData N
data_of of_bits b =
    record {
      raw_mode = b.raw_mode;
      mode = b.mode;
      num_reactors = b.num_reactors;
      no_xdictionary = b.no_xdictionary;
      binary_chain = b.binary_chain;
      is_on_layer = b.is_on_layer;
      non_fixed_ltype = b.non_fixed_ltype;
      plotstyle_flag = b.plotstyle_flag;
      material_flag = b.material_flag;
      shadow_flags = b.shadow_flags;
      invisibility = b.invisibility;
      nolinks = b.nolinks;
      color_raw = b.color_raw;
      color_rgb = b.color_rgb;
      color_alpha = b.color_alpha;
      ltype_scale = of_bits b.ltype_scale;
      ltype_flags = b.ltype_flags;
      visual_style_flags = b.visual_style_flags;
      lineweight = b.lineweight;
      had_graphics = b.had_graphics;
      had_extended_data = b.had_extended_data;
      data_end_bits = b.data_end_bits;
    }
