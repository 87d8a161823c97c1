pub mod Seen
pub mod Chained
pub mod Table
pub mod Loaded
pub mod Laws
