pub mod Reading
pub mod Threads
pub mod Parts
