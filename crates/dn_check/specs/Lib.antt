pub mod Finding
pub mod Passing
pub mod Halting
pub mod RowCounts
