pub mod Released
pub mod Raised
pub mod Shared
