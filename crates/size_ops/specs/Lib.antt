pub mod Ending
pub mod Planning
pub mod Sizing
pub mod Taking
