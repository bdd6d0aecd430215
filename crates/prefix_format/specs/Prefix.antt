-- The entity prefix in document 01's order, as a certified code of one payload. A field that a release lacks is not read, and the
-- value after its code stands for it. Names are inline, and only read past. Assumes nothing.
use Rattle.std.specs.Prelude.{Bool, true, false, not, [], ◌∷◌, ℕ, zero, suc, ℤ, eqb, Option}
use Rattle.bitcursor.specs.declared.Refusal.TheVariants.{TooManyXdataBlocks}
use Rattle.bitcursor.specs.Code.{Code, give, refuse, ◌>>=◌, mapped}
use Rattle.bitcursor.specs.Bytes.{skip}
use Rattle.bitcursor.specs.Codes.{B, BB, RC, RL, BS, signed_BS, BL}
use Rattle.bitcursor.specs.Doubles.{BD}
use Rattle.bitcursor.specs.Handles.{BLL, HANDLE, checked}
use Rattle.bitcursor.specs.Held.{held, marked}
use Rattle.text.specs.Texts.{Written, TV}
use Rattle.text.specs.Fields.{width_by}
use Rattle.prefix_format.specs.declared.CommonEntityData.{CommonEntityData}
use Rattle.prefix_format.specs.declared.table.Row.{Row}
use Rattle.prefix_format.specs.Modes.{mode_of}
use Rattle.prefix_format.specs.Values.{has_rgb, has_alpha, has_name, has_book_name}

-- XDATA: BS size; if nonzero, a handle and that many RC, and again. `chain n had`: n nonzero blocks may follow, and `had` says whether
-- one came before; where none may follow, no size is read
unfoldable pub chain : ℕ → Bool → Code Bool
chain zero had = refuse TooManyXdataBlocks tt
chain (suc n) had = do
  size ← BS
  checked (eqb size 0) (give had) (do
    appid ← HANDLE
    passed ← skip size
    chain n true)

unfoldable pub extended : Code Bool
extended = chain 256 false

-- B graphics; if set, its size (BLL from release 5, else RL) and that many RC
unfoldable pub graphics_block : Bool → Code Bool
graphics_block bll = do
  size ← checked bll BLL RL
  passed ← skip size
  give true

unfoldable pub graphics : Bool → Code Bool
graphics bll = do
  had ← B
  checked had (graphics_block bll) (give false)

-- inline text, read past
unfoldable pub name : Bool → Code (Unit {0})
name wide_units = mapped (λ (t : Written). tt) (TV (width_by wide_units))

-- the record of the fields
abbrev pub fields_of : Bool → Bool → Option ℕ → ℕ → ℕ → Bool → Bool → Bool → Bool → ℕ → Option ℕ → Option ℕ → ℕ → ℕ → ℕ → ℕ → ℕ → Bool → Bool → Bool
    → ℤ → ℕ → CommonEntityData ℕ
fields_of xdata had_graphics end mode reactors no_dictionary binary by_layer links colour rgb alpha scale linetype plot material shadow
    full face edge invisible weight =
    record {
      raw_mode = mode;
      mode = mode_of mode;
      num_reactors = reactors;
      no_xdictionary = no_dictionary;
      binary_chain = binary;
      is_on_layer = true;
      non_fixed_ltype = not by_layer;
      plotstyle_flag = plot;
      material_flag = material;
      shadow_flags = shadow;
      invisibility = invisible;
      nolinks = links;
      color_raw = colour;
      color_rgb = rgb;
      color_alpha = alpha;
      ltype_scale = scale;
      ltype_flags = linetype;
      visual_style_flags = full ∷ (face ∷ (edge ∷ []));
      lineweight = weight;
      had_graphics = had_graphics;
      had_extended_data = xdata;
      data_end_bits = end;
    }

-- the prefix's fields, in order
unfoldable pub prefix_by : Row → Code (CommonEntityData ℕ)
prefix_by row = do
  xdata ← extended
  had_graphics ← graphics row.graphics_bll
  end ← marked row.data_end RL
  mode ← BB
  reactors ← BL
  no_dictionary ← held row.no_xdictionary B true
  binary ← held row.binary_chain B false
  by_layer ← held row.by_layer_ltype B true
  links ← held row.nolinks B true
  colour ← BS
  rgb ← marked (has_rgb row colour) BL
  alpha ← marked (has_alpha row colour) BL
  named ← held (has_name row colour) (name row.wide_names) tt
  book ← held (has_book_name row colour) (name row.wide_names) tt
  scale ← BD
  linetype ← held row.ltype_and_plotstyle BB 0
  plot ← held row.ltype_and_plotstyle BB 0
  material ← held row.material_and_shadow BB 0
  shadow ← held row.material_and_shadow RC 0
  full ← held row.visual_styles B false
  face ← held row.visual_styles B false
  edge ← held row.visual_styles B false
  invisible ← signed_BS
  weight ← held row.lineweight RC 0
  give (fields_of xdata had_graphics end mode reactors no_dictionary binary by_layer links colour rgb alpha scale linetype plot material shadow
      full face edge invisible weight)
