pub mod ColorLaws
pub mod Handed
pub mod Steps
