pub mod Short
pub mod Words
pub mod Finds
pub mod Heads
pub mod Ahead
