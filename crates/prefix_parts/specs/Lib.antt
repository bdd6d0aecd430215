pub mod Parts
pub mod InParts
pub mod PlainColours
