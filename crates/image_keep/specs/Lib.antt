pub mod Needed
pub mod Free
pub mod Waiting
pub mod Keeping
