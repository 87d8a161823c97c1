pub mod Cutting
pub mod CutBytes
pub mod CutCounts
pub mod Dropped
