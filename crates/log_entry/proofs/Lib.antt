pub mod Bytes
pub mod Fronts
pub mod Heads
pub mod Named
pub mod SameName
pub mod Spelled
pub mod Unique
pub mod Words
