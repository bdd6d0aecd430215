pub mod Format
pub mod Demand3
pub mod Records
pub mod Flags
