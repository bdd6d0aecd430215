pub mod Stepped
pub mod Ended
