pub mod Lists
pub mod Lines
pub mod Tasks
pub mod Ending
pub mod Works
