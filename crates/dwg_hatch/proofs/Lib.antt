pub mod Same
pub mod Decoded
pub mod Refused
