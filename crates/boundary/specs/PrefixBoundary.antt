-- What crosses the C boundary of a prefix call: its record as numbers, with the linetype scale as its 64 bits or as the double. On a
-- refusal the record is zero throughout, and so is every number. Assumes nothing.
use Rattle.std.specs.Prelude.{false, ℕ, Float, get_or, is_some, unwrap_or}
use Rattle.std.specs.Float.Ieee.{of_bits}
use Rattle.std.specs.Float.{binary64}
use Rattle.bitcursor.specs.Reading.{Out}
use Rattle.prefix_format.specs.declared.CommonEntityData.{CommonEntityData}
use Rattle.prefix_format.specs.Modes.{mode_number}
use Rattle.prefix_format.specs.Record.{data_of, zero_bits}
use Rattle.boundary.specs.declared.PrefixFields.{PrefixFields}
use Rattle.boundary.specs.declared.PrefixAnswer.{PrefixAnswer}
use Rattle.boundary.specs.declared.PrefixBitsAnswer.{PrefixBitsAnswer}
use Rattle.boundary.specs.Boundary.{number, place, value_or}

-- a number that may be absent is 0 where it is
abbrev pub field_numbers : {N : Type 0} → CommonEntityData N → PrefixFields
field_numbers b =
    record {
      raw_mode = b.raw_mode;
      mode = mode_number b.mode;
      num_reactors = b.num_reactors;
      no_xdictionary = b.no_xdictionary;
      binary_chain = b.binary_chain;
      is_on_layer = b.is_on_layer;
      non_fixed_ltype = b.non_fixed_ltype;
      plotstyle_flag = b.plotstyle_flag;
      material_flag = b.material_flag;
      shadow_flags = b.shadow_flags;
      invisibility = b.invisibility;
      nolinks = b.nolinks;
      color_raw = b.color_raw;
      has_color_rgb = is_some b.color_rgb;
      color_rgb = unwrap_or b.color_rgb 0;
      has_color_alpha = is_some b.color_alpha;
      color_alpha = unwrap_or b.color_alpha 0;
      ltype_flags = b.ltype_flags;
      full_visual_style = get_or b.visual_style_flags 0 false;
      face_visual_style = get_or b.visual_style_flags 1 false;
      edge_visual_style = get_or b.visual_style_flags 2 false;
      lineweight = b.lineweight;
      had_graphics = b.had_graphics;
      had_extended_data = b.had_extended_data;
      has_data_end_bits = is_some b.data_end_bits;
      data_end_bits = unwrap_or b.data_end_bits 0;
    }

abbrev pub bits_answer : Out ℕ (CommonEntityData ℕ) → PrefixBitsAnswer
bits_answer o =
    let b = value_or zero_bits o in
    record { refusal = number o; place = place o; ltype_scale = b.ltype_scale; fields = field_numbers b }

-- with the scale as the double that it is
abbrev pub double_answer : Out ℕ (CommonEntityData Float) → PrefixAnswer
double_answer o =
    let b = value_or (data_of (of_bits binary64) zero_bits) o in
    record { refusal = number o; place = place o; ltype_scale = b.ltype_scale; fields = field_numbers b }
