-- A point and the double behind it, as one turn of a loop reads and stores them. Assumes nothing.
use Rattle.std.specs.Prelude.{◌≡◌, List, [], ◌∷◌, ℕ, ◌+◌, ◌*◌, ◌≤◌, length, Result, Ok, Err}
use Rattle.bitcursor.specs.declared.Refused.{Refused}
use Rattle.loads.specs.Bytes.{low_number, bytes_at}
use Rattle.bitcursor.specs.Reading.{got, refused}
use Rattle.hatch_points.specs.Gathered.{numbers}
use Rattle.hatch_points.specs.Walks.{vertex_walk}

-- the two RD at a place, and the double behind them
abbrev pub vertex_at : List ℕ → ℕ → ℕ → List ℕ
vertex_at xs p v = low_number (bytes_at xs p 8) ∷ (low_number (bytes_at xs (p + 64) 8) ∷ (v ∷ []))

-- the double behind a point is read, so the vertex is, from bits that are there
pub record VertexThere (xs : List ℕ) (p v q : ℕ) : Type 0 where
  pub read : vertex_walk.read xs p ≡ got (numbers (vertex_at xs p v)) q
  pub onward : p + 130 ≤ q
  pub inside : q ≤ 8 * length xs

abbrev pub Extra : List ℕ → ℕ → Result (ℕ × ℕ) (Refused ℕ) → Type 0
Extra xs p (Ok v) = VertexThere xs p v.0 v.1
Extra xs p (Err e) = vertex_walk.read xs p ≡ refused e.refusal e.place
