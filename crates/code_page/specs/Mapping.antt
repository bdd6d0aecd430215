-- What a byte stands for in code page 1252, and which byte a unit comes from: both by the one table. Assumes nothing.
use Rattle.std.specs.Prelude.{cond, Option, Some, None, List, [], ◌∷◌, ℕ, suc, eqb, get_or}
use Rattle.code_page.specs.Cp1252.{cp1252}

-- stands in the table for a byte that the file leaves undefined; no byte's unit
abbrev pub mark : ℕ
mark = 0xFFFF

abbrev pub unmarked : ℕ → Option ℕ
unmarked u = cond (eqb u mark) None (Some u)

-- the unit of a byte, if it has one
unfoldable pub unit_of : ℕ → Option ℕ
unit_of b = unmarked (get_or cp1252 b mark)

-- the first place of a unit, counted from k
abbrev pub first_from : ℕ → ℕ → List ℕ → Option ℕ
first_from u k [] = None
first_from u k (x ∷ xs) = cond (eqb u x) (Some k) (first_from u (suc k) xs)

-- the byte that has a unit, if any does
unfoldable pub byte_of : ℕ → Option ℕ
byte_of u = cond (eqb u mark) None (first_from u 0 cp1252)
