-- Back after there: a byte's unit comes from this byte, and from none other. Assumes nothing.
use Rattle.std.specs.Prelude.{◌≡◌, Some, None, ℕ}
use Rattle.std.proofs.Common.{sym, ap, ◌∙◌, arith}
use Rattle.code_page.specs.Cp1252.{cp1252}
use Rattle.code_page.specs.Mapping.{mark, unit_of, byte_of}
use Rattle.code_page.specs.Facts.{entries_256, unit_entry, unit_unmarked, unit_of_byte}
use Rattle.code_page.specs.Inverse.{nothing, stands_first, there, by_search}
use Rattle.code_page.proofs.Facts.{one_byte}

pub back : (b u : ℕ) → unit_of b ≡ Some u → byte_of u ≡ Some b
back b u e =
    let found = stands_first u mark cp1252 0 b (omega (arith, unit_of_byte b u e, entries_256)) (unit_entry b u e) in
    let first : byte_of u ≡ Some found.0 = by_search u found.0 (unit_unmarked b u e) found.1 in
    let same : found.0 ≡ b = one_byte found.0 b u (there u found.0 first) e in
    first ∙ ap Some same

pub no_byte_only : (u : ℕ) → byte_of u ≡ None → (b : ℕ) → unit_of b ≡ Some u → ⊥
no_byte_only u e b f = nothing (sym e ∙ back b u f)
