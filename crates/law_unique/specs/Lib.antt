pub mod Operations
pub mod SameDisk
pub mod Images
pub mod Counting
pub mod FirstFaults
