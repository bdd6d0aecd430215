-- Where a path's boundary handles lie. They are no part of a body; only their counts are. Assumes nothing.
use Rattle.std.specs.Prelude.{ℕ}

-- behind the body in its own payload, as the Rust has it; or in a stream of their own that holds so many
pub data Handles : Type 0 where
  in_payload : Handles
  in_stream : (number : ℕ) → Handles
