pub mod Cleaned
pub mod CleanLaws
