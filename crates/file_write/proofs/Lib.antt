pub mod Taking
pub mod Planned
