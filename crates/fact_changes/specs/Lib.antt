pub mod Insertion
pub mod Removal
pub mod Stale
