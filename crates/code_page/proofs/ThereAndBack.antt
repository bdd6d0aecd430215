-- What a call wrote as units, the other gives back as bytes, into every output that is long enough. Assumes nothing.
use Rattle.std.proofs.Math.Path.{◌≡◌}
use Rattle.std.specs.Prelude.{Ok, List, ℕ, ◌≤◌, take}
use Rattle.std.proofs.Math.ListN.{length}
use Rattle.code_page.specs.Mapping.{unit_of, byte_of}
use Rattle.code_page.specs.Conversion.{conversion, after}
use Rattle.code_page.specs.ThereAndBack.{undone}
use Rattle.code_page.proofs.Inverse.{back}

module _ (bytes units out : List ℕ) (room : ℕ) (h : length bytes ≤ room) where
  pub back_after_there : conversion unit_of bytes (length out) ≡ Ok units
      → conversion byte_of (take (length bytes) (after (conversion unit_of bytes (length out)) out)) room ≡ Ok bytes
  back_after_there e = undone unit_of byte_of back bytes units out e room h
