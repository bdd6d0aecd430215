pub mod EdgeLaws
pub mod SplineHeads
