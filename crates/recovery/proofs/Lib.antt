pub mod EmptyDisk
pub mod Making
pub mod Parts
pub mod Formatted
