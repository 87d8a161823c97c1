pub mod Cleaning
pub mod NamesLoop
