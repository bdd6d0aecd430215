pub mod UnitLaws
pub mod TextLaws
pub mod PaddedTexts
pub mod PaddedUnits
pub mod UnitsLeft
pub mod FieldLaws
pub mod VersionLaws
