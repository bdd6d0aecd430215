pub mod FormatShorts
pub mod FormatSteps
pub mod Smalls
pub mod Longs
pub mod Nans
pub mod Steps
pub mod Shorts
