pub mod Shown
pub mod Calls
pub mod Padded
pub mod Starts
pub mod Table
