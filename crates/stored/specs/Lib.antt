-- The definitions that the contracts of the comparing program cite.
pub mod Counts
pub mod Items
