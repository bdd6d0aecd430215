pub mod StepLaws
pub mod Loops
pub mod Judged
