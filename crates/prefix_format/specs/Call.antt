-- A prefix call on any input. Assumes nothing.
use Rattle.std.specs.Prelude.{List, ℕ}
use Rattle.bitcursor.specs.Reading.{Out}
use Rattle.bitcursor.specs.Answers.{limited}
use Rattle.text.specs.Releases.{version_of}
use Rattle.text.specs.Answers.{released}
use Rattle.prefix_format.specs.declared.CommonEntityData.{CommonEntityData}
use Rattle.prefix_format.specs.Rows.{row_of}
use Rattle.prefix_format.specs.Prefix.{prefix_by}

-- the release first (9), then the limit (10), then the fields; a start past the payload is refusal 1 at that start by the first field
unfoldable pub prefix_call : ℕ → List ℕ → ℕ → Out ℕ (CommonEntityData ℕ)
prefix_call release xs start = released (λ v. limited (prefix_by (row_of v)).read) (version_of release) xs start
