-- Which prefix fields each release has: document 01's list, as one table of seven rows. Assumes nothing.
use Rattle.std.specs.Prelude.{Bool, true, false, List, [], ◌∷◌, ◌-◌, get_or}
use Rattle.text.specs.declared.version.Version.{Version}
use Rattle.text.specs.Releases.{release_number}
use Rattle.prefix_format.specs.declared.table.Row.{Row}

abbrev pub yes : Bool
yes = true

abbrev pub no : Bool
no = false

abbrev pub row : Bool → Bool → Bool → Bool → Bool → Bool → Bool → Bool → Bool → Bool → Bool → Bool → Row
row a b c d e f g h i j k l =
    record {
      graphics_bll = a;
      data_end = b;
      no_xdictionary = c;
      binary_chain = d;
      by_layer_ltype = e;
      nolinks = f;
      color_flags = g;
      wide_names = h;
      ltype_and_plotstyle = i;
      material_and_shadow = j;
      visual_styles = k;
      lineweight = l;
    }

-- the columns, in the prefix's order: graphics size as BLL; data end; no-dictionary; binary chain; by-layer linetype; nolinks;
-- colour flags; names of 16-bit units; linetype and plot style; material and shadow; visual styles; lineweight
abbrev pub rows : List Row
rows =
    row no yes no no yes yes no no no no no no
    ∷ row no no no no no yes no no yes no no yes
    ∷ row no no yes no no no yes no yes no no yes
    ∷ row no no yes no no no yes yes yes yes no yes
    ∷ row yes no yes no no no yes yes yes yes yes yes
    ∷ row yes no yes yes no no yes yes yes yes yes yes
    ∷ row yes no yes yes no no yes yes yes yes yes yes
    ∷ []

abbrev pub row_of : Version → Row
row_of v = get_or rows (release_number v - 1) (row no no no no no no no no no no no no)
