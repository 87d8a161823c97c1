pub mod Uses
pub mod UsesLoop
pub mod Links
