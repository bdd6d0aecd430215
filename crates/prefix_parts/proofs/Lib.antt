pub mod Fields
pub mod PartLaws
