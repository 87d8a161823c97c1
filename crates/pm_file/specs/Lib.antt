pub mod Lines
pub mod Length
pub mod Image
pub mod Pending
