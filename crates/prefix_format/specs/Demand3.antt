-- Demand 3 for prefix calls: when a call's input has a layout. The theorems of it are proofs/Demand3. Assumes nothing.
use Rattle.std.specs.Prelude.{◌≡◌, List, ℕ, ◌≤◌, length, Some}
use Rattle.loads.specs.Bits.{limit}
use Rattle.text.specs.declared.version.Version.{Version}
use Rattle.text.specs.Releases.{version_of}
use Rattle.prefix_format.specs.declared.CommonEntityData.{CommonEntityData}
use Rattle.prefix_format.specs.Rows.{row_of}
use Rattle.prefix_format.specs.Layouts.{FieldsLaid}

-- a prefix is laid out from p to q: the release is one of the seven, the payload is within the limit, and the fields of the release's row of
-- the table stand there, by specs/Layouts
pub record PrefixLaid (release : ℕ) (xs : List ℕ) (d : CommonEntityData ℕ) (p q : ℕ) : Type 0 where
  pub version : Version
  pub known : version_of release ≡ Some version
  pub within : length xs ≤ limit
  pub laid : FieldsLaid xs (row_of version) d p q
