-- The five parts in a row read what the prefix's definition reads. Assumes nothing.
use Rattle.std.specs.Prelude.{◌≡◌, List, ℕ}
use Rattle.bitcursor.specs.Reading.{chained}
use Rattle.bitcursor.specs.Code.{give, ◌>>=◌}
use Rattle.prefix_format.specs.declared.table.Row.{Row}
use Rattle.prefix_format.specs.Prefix.{prefix_by}
use Rattle.prefix_parts.specs.Parts.{head, modes, colours, styles, tail, in_parts}

pub parts_read : (row : Row) (xs : List ℕ) (p : ℕ) → (prefix_by row).read xs p ≡ (in_parts row).read xs p
unfolding in_parts prefix_by head modes colours styles tail ◌>>=◌ give
parts_read row xs p = simp chained
