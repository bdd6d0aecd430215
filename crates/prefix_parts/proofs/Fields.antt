-- What proves a group of the prefix's fields: its reader's steps, a field that a release may lack, a byte that is bits, and the range of what was read.
-- Assumes nothing.
pub use Rattle.bitcursor.proofs.Steps.{reading}
pub use Rattle.sequence.specs.Present.{present}
pub use Rattle.sequence.specs.OneByte.{held_byte}
pub use Rattle.bitcursor.proofs.Smalls.{smalls}

pub ruleset fields = (reading, present, held_byte, smalls)
