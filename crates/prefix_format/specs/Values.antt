-- What a colour's number says: which fields behind it are present. Assumes nothing.
use Rattle.std.specs.Prelude.{Bool, not, ◌&&◌, ℕ, ◌/◌, ◌^◌}
use Rattle.loads.specs.Bits.{odd}
use Rattle.prefix_format.specs.declared.table.Row.{Row}

-- a bit of the colour's short: its high byte's 80 is bit 15, 40 is 14, 20 is 13, 2 is 9 and 1 is 8
abbrev pub flag : ℕ → ℕ → Bool
flag k colour = odd (colour / 2 ^ k)

abbrev pub has_rgb : Row → ℕ → Bool
has_rgb row colour = row.color_flags && (flag 15 colour && not (flag 14 colour))

abbrev pub has_alpha : Row → ℕ → Bool
has_alpha row colour = row.color_flags && flag 13 colour

abbrev pub has_name : Row → ℕ → Bool
has_name row colour = row.color_flags && (flag 14 colour && flag 8 colour)

abbrev pub has_book_name : Row → ℕ → Bool
has_book_name row colour = row.color_flags && (flag 14 colour && flag 9 colour)
