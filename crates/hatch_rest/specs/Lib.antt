pub mod LineGathers
pub mod Heads
pub mod Tails
pub mod Rests
