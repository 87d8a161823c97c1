pub mod Follows
pub mod Made
