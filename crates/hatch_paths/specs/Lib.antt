pub mod PathWalks
pub mod EdgeGathers
pub mod PathGathers
pub mod Splines
pub mod Fits
