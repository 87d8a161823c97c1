pub mod Entries
pub mod Index
pub mod Radix
pub mod Runs
pub mod Slots
