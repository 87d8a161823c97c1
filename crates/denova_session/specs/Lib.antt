pub mod Reads
pub mod Counted
pub mod Ends
pub mod Steps
pub mod Statuses
