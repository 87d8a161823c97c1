pub mod Landing
pub mod Preparing
pub mod Finding
pub mod Ending
pub mod Creating
