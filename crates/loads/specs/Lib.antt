pub mod Bits
pub mod BitLaws
pub mod Bytes
