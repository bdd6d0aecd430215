pub mod Fronts
pub mod Answers
pub mod Passed
