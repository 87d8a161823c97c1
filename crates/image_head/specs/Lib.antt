pub mod Heads
pub mod Uses
pub mod Laws
