pub mod PartLaws
pub mod PointLaws
pub mod ItemLaws
pub mod TurnLaws
