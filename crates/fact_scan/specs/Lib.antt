pub mod Seen
pub mod Scan
pub mod Found
