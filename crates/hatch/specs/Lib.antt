pub mod Seeds
pub mod Calls
pub mod Demands
pub mod EntryBits
pub mod Measuring
pub mod Starts
