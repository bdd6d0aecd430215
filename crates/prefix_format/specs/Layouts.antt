-- The layouts of an entity prefix: its fields back to back, in document 01's order, each in any code of its value. This is what demand 3
-- calls a layout of a prefix; it speaks of bits, places and values alone, and of no reading. Assumes nothing.
use Rattle.std.specs.Prelude.{◌≡◌, Bool, true, false, not, List, [], ◌∷◌, ℕ, ◌≤◌, length, Option, Some, None}
use Rattle.bitcursor.specs.declared.Handle.{Handle}
use Rattle.bitcursor.specs.Code.{Code}
use Rattle.bitcursor.specs.Joins.{Coded}
use Rattle.bitcursor.specs.Chains.{◌⨾◌, Nothing, Each}
use Rattle.bitcursor.specs.Bytes.{skip}
use Rattle.bitcursor.specs.Codes.{B, BB, RC, RL, BS, signed_BS, BL}
use Rattle.bitcursor.specs.Doubles.{BD}
use Rattle.bitcursor.specs.Handles.{BLL, HANDLE}
use Rattle.text.specs.Texts.{Written, TV}
use Rattle.text.specs.Fields.{width_by}
use Rattle.prefix_format.specs.declared.CommonEntityData.{CommonEntityData}
use Rattle.prefix_format.specs.declared.table.Row.{Row}
use Rattle.prefix_format.specs.Modes.{mode_of}
use Rattle.prefix_format.specs.Values.{has_rgb, has_alpha, has_name, has_book_name}

-- an XDATA block: its size in bytes and the handle before them
pub record Block : Type 0 where
  pub size : ℕ
  pub appid : Handle

-- whether there is an item
abbrev pub some : {A : Type 0} → List A → Bool
some [] = false
some (a ∷ items) = true

module _ (xs : List ℕ) where
  -- any n bytes
  abbrev pub Bytes : ℕ → ℕ → ℕ → Type 0
  Bytes n = Coded xs (skip n) tt

  -- a field that is there or not; where it is not, no bits, and `absent` is its value
  abbrev pub Field : {A : Type 0} → Bool → Code A → A → A → ℕ → ℕ → Type 0
  Field true c absent a = Coded xs c a
  Field false c absent a = λ p q. (a ≡ absent) × Nothing p q

  -- such a field whose record says whether it was there
  abbrev pub Marked : Bool → Code ℕ → Option ℕ → ℕ → ℕ → Type 0
  Marked true c m = λ p q. (v : ℕ) × (m ≡ Some v) × Coded xs c v p q
  Marked false c m = λ p q. (m ≡ None) × Nothing p q

  -- XDATA: blocks of BS size that is not 0, handle and that many RC; then BS 0. 256 blocks have no layout
  abbrev pub BlockLaid : Block → ℕ → ℕ → Type 0
  BlockLaid b p q = (b.size ≡ 0 → ⊥) × (Coded xs BS b.size ⨾ Coded xs HANDLE b.appid ⨾ Bytes b.size) p q

  abbrev pub XdataLaid : Bool → ℕ → ℕ → Type 0
  XdataLaid had p q = (blocks : List Block) × (had ≡ some blocks) × (length blocks ≤ 255) × (Each BlockLaid blocks ⨾ Coded xs BS 0) p q

  -- B graphics; if set, size (RL to release 4, BLL from 5) and that many RC
  abbrev pub SizeLaid : Bool → ℕ → ℕ → ℕ → Type 0
  SizeLaid true = Coded xs BLL
  SizeLaid false = Coded xs RL

  abbrev pub GraphicsLaid : Bool → Bool → ℕ → ℕ → Type 0
  GraphicsLaid bll false = Coded xs B false
  GraphicsLaid bll true = λ p q. (size : ℕ) × (Coded xs B true ⨾ SizeLaid bll size ⨾ Bytes size) p q

  -- inline text that the record does not keep
  abbrev pub NameLaid : Bool → Bool → ℕ → ℕ → Type 0
  NameLaid true wide_units = λ p q. (t : Written) × Coded xs (TV (width_by wide_units)) t p q
  NameLaid false wide_units = Nothing

  module _ (row : Row) (d : CommonEntityData ℕ) where
    -- BB mode; BL reactors; B no-dictionary; B binary chain; B by-layer linetype; B nolinks
    abbrev pub ModesLaid : ℕ → ℕ → Type 0
    ModesLaid =
        Coded xs BB d.raw_mode ⨾ Coded xs BL d.num_reactors
        ⨾ Field row.no_xdictionary B true d.no_xdictionary
        ⨾ Field row.binary_chain B false d.binary_chain
        ⨾ Field row.by_layer_ltype B true (not d.non_fixed_ltype)
        ⨾ Field row.nolinks B true d.nolinks

    -- BS colour; by its high byte BL rgb, BL alpha and two names
    abbrev pub ColourLaid : ℕ → ℕ → Type 0
    ColourLaid =
        Coded xs BS d.color_raw
        ⨾ Marked (has_rgb row d.color_raw) BL d.color_rgb ⨾ Marked (has_alpha row d.color_raw) BL d.color_alpha
        ⨾ NameLaid (has_name row d.color_raw) row.wide_names ⨾ NameLaid (has_book_name row d.color_raw) row.wide_names

    -- three B
    abbrev pub VisualLaid : ℕ → ℕ → Type 0
    VisualLaid p q =
        (full face edge : Bool) × (d.visual_style_flags ≡ full ∷ (face ∷ (edge ∷ [])))
        × (Field row.visual_styles B false full ⨾ Field row.visual_styles B false face ⨾ Field row.visual_styles B false edge) p q

    -- BD scale; BB linetype, BB plot style; BB material, RC shadow; three B; BS invisibility, signed; RC lineweight
    abbrev pub StylesLaid : ℕ → ℕ → Type 0
    StylesLaid =
        Coded xs BD d.ltype_scale
        ⨾ Field row.ltype_and_plotstyle BB 0 d.ltype_flags ⨾ Field row.ltype_and_plotstyle BB 0 d.plotstyle_flag
        ⨾ Field row.material_and_shadow BB 0 d.material_flag ⨾ Field row.material_and_shadow RC 0 d.shadow_flags
        ⨾ VisualLaid
        ⨾ Coded xs signed_BS d.invisibility ⨾ Field row.lineweight RC 0 d.lineweight

    -- the prefix of a row of the table, and the two fields of the record that have no bits of their own
    pub record FieldsLaid (p q : ℕ) : Type 0 where
      pub mode : d.mode ≡ mode_of d.raw_mode
      pub on_layer : d.is_on_layer ≡ true
      pub fields : (XdataLaid d.had_extended_data ⨾ GraphicsLaid row.graphics_bll d.had_graphics
          ⨾ Marked row.data_end RL d.data_end_bits ⨾ ModesLaid ⨾ ColourLaid ⨾ StylesLaid) p q
