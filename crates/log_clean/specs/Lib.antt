pub mod Planning
pub mod Beginning
pub mod Writing
pub mod Finishing
pub mod Swapping
