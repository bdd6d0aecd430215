pub mod Cursors
pub mod Repeated
