pub mod Moves
pub mod MovedExactly
pub mod Answers
