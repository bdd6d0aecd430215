-- The RD of a run that is all there, and how many of them a list has room for. Assumes nothing.
use Rattle.std.specs.Prelude.{List, [], ◌∷◌, ℕ, zero, suc, ◌+◌, ◌-◌, min}
use Rattle.loads.specs.Bytes.{low_number, bytes_at}

-- the n RD at a place
unfoldable pub raw_at : List ℕ → ℕ → ℕ → List ℕ
raw_at xs p zero = []
raw_at xs p (suc n) = low_number (bytes_at xs p 8) ∷ raw_at xs (p + 64) n

-- how many of n numbers, the first at `from`, a list of this length has room for
abbrev pub room_for : ℕ → ℕ → ℕ → ℕ
room_for n from room = min n (room - from)
