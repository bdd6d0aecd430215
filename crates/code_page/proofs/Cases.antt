-- Document 02's cases hold: what calls answer, computed by the definitions in one proof over the whole table. Assumes nothing.
use Rattle.std.specs.Prelude.{◌≡◌, refl}
use Rattle.code_page.specs.Cp1252.{cp1252}
use Rattle.code_page.specs.Mapping.{unit_of, byte_of}
use Rattle.code_page.specs.Conversion.{conversion}
use Rattle.code_page.specs.Cases.{cases, answered, outcomes}

pub all_hold : answered cases ≡ outcomes cases
unfolding conversion unit_of byte_of cp1252
all_hold = refl
