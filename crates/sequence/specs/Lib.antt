pub mod OneByte
pub mod Present
