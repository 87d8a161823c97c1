pub mod Held
pub mod Answering
pub mod Room
pub mod Starting
pub mod Begun
