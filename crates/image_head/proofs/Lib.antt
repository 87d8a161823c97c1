pub mod Rolls
pub mod Uses
pub mod Refuted
